pub mod DenseCovers
pub mod Closures
pub mod Laws
pub mod Topologies
pub mod Candidates
pub mod ListedFaults
pub mod Families
