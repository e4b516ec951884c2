pub mod Calm
pub mod Fault
pub mod Memory
pub mod Sink
pub mod Source
pub mod Streams
