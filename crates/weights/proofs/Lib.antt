pub mod Weighing
pub mod Rows
pub mod Filling
pub mod Parts
pub mod Judged
