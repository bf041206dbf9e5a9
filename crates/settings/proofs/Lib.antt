pub mod Roles
pub mod Holds
pub mod Governing
pub mod Counted
pub mod Fills
pub mod Answers
pub mod Settled
