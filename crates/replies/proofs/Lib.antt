pub mod ReplyLaws
pub mod Once
