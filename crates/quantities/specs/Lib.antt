pub mod Quantities
pub mod inner
