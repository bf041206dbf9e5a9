pub mod Readers
pub mod Writers
pub mod inner
