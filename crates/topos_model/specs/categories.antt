pub mod Category
pub mod Listed
pub mod Filling
pub mod CategoryFaults
pub mod CategoryFunctors
