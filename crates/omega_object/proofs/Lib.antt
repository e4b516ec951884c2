pub mod Precedence
pub mod ClosedSieves
pub mod Operations
pub mod ChosenArrows
pub mod CellSums
pub mod SealedSieves
