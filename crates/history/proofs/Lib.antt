pub mod Traced
pub mod Once
