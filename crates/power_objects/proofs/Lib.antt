pub mod Order
pub mod Pulled
pub mod SubsetElements
pub mod Rooms
