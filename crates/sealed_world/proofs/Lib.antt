pub mod CountedCells
pub mod OmegaParts
pub mod Growing
pub mod TruthValues
pub mod MarkedSheaves
