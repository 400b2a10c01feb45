pub mod LineLaws
pub mod Held
pub mod Once
