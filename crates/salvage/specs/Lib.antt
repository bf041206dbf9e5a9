pub mod Pieces
pub mod Outcome
pub mod Views
pub mod Salvage
pub mod Report
pub mod Whole
pub mod Calls
pub mod inner
