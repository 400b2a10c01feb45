-- What the contracts of the line reader cite, beside the rules' own definitions and the field reader's.
pub mod Reading
