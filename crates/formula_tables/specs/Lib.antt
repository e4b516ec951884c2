pub mod Tuples
pub mod Formulas
