pub mod Spans
pub mod Tables
pub mod Arrows
pub mod Entries
pub mod Abstraction
pub mod Standing
