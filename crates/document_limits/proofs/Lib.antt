pub mod Outcomes
pub mod Dropped
pub mod Fitting
pub mod DocumentsFit
pub mod Returned
pub mod StatementsReturned
pub mod DocumentsReturned
