pub mod PingLength
pub mod PingRead
pub mod Views
pub mod Headers
pub mod Readers
pub mod Fields
pub mod inner
