pub mod Sealed
pub mod Laws
