-- The code's own view of the definitions: what its inner contracts speak of. Nothing here need be believed. Assumes nothing.
pub mod Parts
pub mod Left
pub mod Judging
pub mod Places
pub mod Judged
