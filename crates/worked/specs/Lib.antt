pub mod Examples
pub mod Cruise
