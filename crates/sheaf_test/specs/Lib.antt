pub mod Families
pub mod Amalgamations
pub mod Verdicts
