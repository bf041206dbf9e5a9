pub mod Edits
pub mod Results
pub mod inner
