pub mod Writers
pub mod inner
