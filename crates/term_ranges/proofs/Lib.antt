pub mod RangeEquations
pub mod StableTerms
pub mod NamedTypes
pub mod StableMeanings
