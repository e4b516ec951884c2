pub mod SubsetRows
pub mod BitOrder
