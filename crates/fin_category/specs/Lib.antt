pub mod Tables
pub mod Associativity
pub mod Listings
pub mod Filling
pub mod Faults
pub mod Laws
pub mod Masks
pub mod ArrowSets
