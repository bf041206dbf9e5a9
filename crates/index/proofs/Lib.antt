pub mod Laws
pub mod Flags
pub mod Writes
pub mod Fresh
pub mod Example
