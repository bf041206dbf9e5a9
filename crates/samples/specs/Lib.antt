pub mod Words
pub mod Lists
pub mod Runs
pub mod Values
pub mod Counts
pub mod Judging
pub mod inner
