pub mod Passes
pub mod PassLaws
pub mod Pairs
