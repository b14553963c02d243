pub mod Farthest
pub mod Grouping
pub mod Parts
