pub mod Groups
pub mod Pushed
