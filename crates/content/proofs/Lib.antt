pub mod Fine
pub mod Plain
pub mod Families
pub mod Pings
pub mod Packing
pub mod Places
pub mod Kept
