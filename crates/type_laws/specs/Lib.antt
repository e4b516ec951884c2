pub mod Numbered
pub mod TypeLaws
