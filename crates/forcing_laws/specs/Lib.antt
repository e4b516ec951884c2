pub mod Tuples
pub mod ForcingLaws
