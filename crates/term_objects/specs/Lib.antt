pub mod KeptElements
pub mod TermObjects
