pub mod Kept
pub mod Pings
pub mod Places
pub mod Along
pub mod Finding
pub mod Asking
pub mod Contents
