-- What the contracts of the field reader cite, beside the rules' own definitions.
pub mod Reading
