pub mod PresheafFaults
pub mod Maps
pub mod NaturalMaps
pub mod MapFaults
pub mod Limits
pub mod Colimits
pub mod KanExtensions
