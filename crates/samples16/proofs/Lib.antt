pub mod Laws
pub mod Angled
pub mod Ranks
