pub mod Parts
pub mod SureRoom
