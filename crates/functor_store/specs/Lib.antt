pub mod Groups
pub mod Store
pub mod Fields
pub mod Building
pub mod Faithful
pub mod TwoObjects
