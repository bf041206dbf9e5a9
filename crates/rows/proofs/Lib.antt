pub mod Shapes
pub mod Reading
pub mod Writing
pub mod Views
pub mod Parts
pub mod Told
