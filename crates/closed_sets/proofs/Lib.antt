pub mod Bits
pub mod Next
pub mod Made
pub mod Chosen
pub mod PartRows
