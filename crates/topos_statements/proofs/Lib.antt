pub mod Lists
pub mod Exits
pub mod Items
pub mod Branches
pub mod DocumentEnds
