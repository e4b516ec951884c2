pub mod Cover
pub mod LeastCovers
pub mod TopologyFaults
pub mod Sheaves
pub mod PlusConstruction
pub mod LocalOperators
