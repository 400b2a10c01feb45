pub mod ByKind
pub mod Following
pub mod Counting
pub mod Once
