pub mod Naming
pub mod Reading
pub mod Ending
mod WorkedWords
mod WorkedTexts
