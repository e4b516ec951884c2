pub mod Derivations
pub mod Rules
