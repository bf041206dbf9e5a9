pub mod Pieces
pub mod Sums
pub mod Echoes
pub mod Fills
pub mod Answers
pub mod Results
pub mod Settled
