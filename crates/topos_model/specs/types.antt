pub mod Nodes
pub mod SameType
pub mod SameTypeLaws
pub mod Values
pub mod Types
pub mod Order
