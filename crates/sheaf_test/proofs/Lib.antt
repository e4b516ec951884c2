pub mod MatchingFamilies
pub mod Amalgamations
pub mod LeastCoverFamilies
pub mod FamilyPlaces
pub mod FittingFamilies
pub mod FirstFamilies
pub mod NextAmalgamations
