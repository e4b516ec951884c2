pub mod Carried
pub mod Kept
pub mod Parts
pub mod Pairs
pub mod Matches
pub mod Laws
