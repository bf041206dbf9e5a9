pub mod Double
pub mod Reading
pub mod Readings
pub mod Results
pub mod inner
