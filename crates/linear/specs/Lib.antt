pub mod Roots
pub mod Linear
pub mod Results
pub mod inner
