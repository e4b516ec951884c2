pub mod Composites
pub mod Sieves
pub mod Laws
