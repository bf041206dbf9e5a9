pub mod Private
pub mod Answers
pub mod Forms
pub mod Types
pub mod Partners
