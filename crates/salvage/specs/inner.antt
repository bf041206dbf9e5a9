-- The code's own view of the definitions: what its inner contracts speak of. Nothing here need be believed. Assumes nothing.
pub mod Passes
pub mod Onward
