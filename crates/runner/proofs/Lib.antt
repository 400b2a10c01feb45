mod Answering
mod Closing
pub mod Cuts
mod Feeds
mod Held
pub mod Once
pub mod Parts
pub mod Room
