pub mod Parts
pub mod TruthValues
