pub mod Kinds
pub mod Codes
pub mod Reading
pub mod Follows
pub mod Places
pub mod Gives
pub mod Laws
