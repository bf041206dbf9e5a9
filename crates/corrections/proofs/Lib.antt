pub mod Wanted
pub mod Choices
pub mod Parts
pub mod Told
