pub mod MoreFunctors
pub mod NamedElements
