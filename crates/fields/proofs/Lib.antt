pub mod FieldLaws
pub mod Once
