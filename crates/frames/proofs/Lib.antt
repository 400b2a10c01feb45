pub mod Laws
pub mod Eights
pub mod Frames
pub mod Once
