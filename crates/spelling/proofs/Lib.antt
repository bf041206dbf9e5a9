pub mod Left
pub mod Turns
pub mod Handed
