pub mod PlaceLists
pub mod FormValues
pub mod Parts
pub mod Steps
pub mod TupleValues
