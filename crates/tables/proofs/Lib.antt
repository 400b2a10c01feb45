pub mod Edits
pub mod Laid
pub mod Rest
pub mod Find
pub mod Once
