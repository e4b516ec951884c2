pub mod Members
pub mod Sublists
pub mod Rising
pub mod First
pub mod Laws
