pub mod Chains
pub mod Books
pub mod Once
