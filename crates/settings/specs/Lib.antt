pub mod Settings
pub mod Governing
pub mod inner
