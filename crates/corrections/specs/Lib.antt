pub mod Spot
pub mod Found
pub mod Views
pub mod Corrections
pub mod Parts
pub mod inner
