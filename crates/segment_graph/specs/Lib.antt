pub mod Facts
pub mod Halves
pub mod Kept
pub mod Roads
pub mod Rows
pub mod Words
