pub mod Index
pub mod inner
