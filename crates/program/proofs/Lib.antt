pub mod Turns
pub mod Writing
