mod Answers
mod Told
pub mod OverMaps
