pub mod PageLaws
pub mod Once
