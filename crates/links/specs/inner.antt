-- The code's own view of the definitions: what its inner contracts speak of. Nothing here need be believed. Assumes nothing.
pub mod LinkVerdict
pub mod Views
pub mod Tables
