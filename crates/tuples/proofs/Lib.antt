pub mod Reading
pub mod Fields
pub mod Storing
pub mod Writing
pub mod Places
pub mod Codes
pub mod Told
