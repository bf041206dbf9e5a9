pub mod Walking
pub mod Values
