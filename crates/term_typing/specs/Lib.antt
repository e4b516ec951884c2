pub mod Inferring
pub mod Laws
pub mod Noted
