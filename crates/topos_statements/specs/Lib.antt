pub mod Passages
pub mod Views
pub mod Places
