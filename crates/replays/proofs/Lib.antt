pub mod Replaying
pub mod Payments
pub mod Pieces
pub mod Once
