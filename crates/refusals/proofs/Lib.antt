pub mod Framing
pub mod Once
