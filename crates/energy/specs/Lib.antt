pub mod Echo
pub mod Views
pub mod Energy
pub mod Results
pub mod inner
