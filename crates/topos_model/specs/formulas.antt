pub mod Forcing
pub mod Typing
pub mod Plain
pub mod TermChange
pub mod TermLaws
