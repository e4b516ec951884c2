pub mod TypeRows
pub mod ArrowPlaces
pub mod CellSums
pub mod FlatRows
pub mod ObjectRows
pub mod Kept
