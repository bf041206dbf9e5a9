pub mod RowRead
pub mod Views
pub mod Readers
pub mod Writers
pub mod Integers
pub mod Places
pub mod inner
