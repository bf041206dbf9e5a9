pub mod Formed
pub mod Placed
pub mod Stored
pub mod Written
pub mod Turned
pub mod Words32
pub mod Words16
