pub mod Joins
pub mod Numbered
pub mod Pieces
