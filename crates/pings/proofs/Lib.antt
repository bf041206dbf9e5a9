pub mod Handing
pub mod Parts
pub mod Reading
pub mod Fielding
pub mod Told
