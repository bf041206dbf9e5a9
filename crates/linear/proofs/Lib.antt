pub mod Rule
pub mod Levels
pub mod Values
pub mod Totals
pub mod Results
