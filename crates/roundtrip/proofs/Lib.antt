pub mod Tuples
pub mod Rows
pub mod Written
pub mod Handed
pub mod Records
pub mod Apart
pub mod Pings
pub mod Told
