pub mod Contexts
pub mod Known
pub mod Formulas
pub mod Readings
pub mod Abstractions
pub mod Images
pub mod Interpretations
