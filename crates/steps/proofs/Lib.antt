pub mod Once
pub mod Pages
pub mod Steps
pub mod Said
