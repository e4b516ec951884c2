pub mod Extended
pub mod Outcomes
pub mod NewCells
pub mod PartsOf
