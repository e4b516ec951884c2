pub mod ContextFunctors
pub mod AlongArrows
pub mod Blocks
pub mod Forms
