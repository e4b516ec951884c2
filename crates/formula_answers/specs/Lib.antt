pub mod MapTables
pub mod Formulas
pub mod Stages
