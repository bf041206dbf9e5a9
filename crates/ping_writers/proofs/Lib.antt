pub mod Storing
pub mod Answering
pub mod Plain
pub mod Packed
pub mod Told
