pub mod Lines
pub mod Programs
pub mod Printing
pub mod inner
