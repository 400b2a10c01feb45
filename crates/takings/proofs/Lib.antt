pub mod Appending
pub mod Passing
pub mod Once
