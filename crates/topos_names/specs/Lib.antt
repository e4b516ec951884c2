pub mod Stops
pub mod Spaces
pub mod Scopes
pub mod Stages
pub mod Categories
pub mod Operands
pub mod Parts
pub mod DocumentParts
