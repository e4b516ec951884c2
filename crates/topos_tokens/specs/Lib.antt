pub mod Fronts
pub mod TokenFaults
