pub mod Tables
pub mod Rows
pub mod Filling
pub mod Functoriality
pub mod Faults
pub mod FillingFaults
pub mod Laws
