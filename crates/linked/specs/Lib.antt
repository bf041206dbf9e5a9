pub mod Linked
pub mod Asking
pub mod Contents
pub mod inner
