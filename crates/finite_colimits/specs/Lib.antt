pub mod Classes
pub mod Sums
pub mod Labels
pub mod Laws
