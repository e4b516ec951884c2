pub mod SealedWorlds
pub mod Marks
