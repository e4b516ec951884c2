pub mod Squares
pub mod Search
pub mod Domains
pub mod FreePlaces
pub mod Rows
