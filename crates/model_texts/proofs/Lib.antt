pub mod Turns
pub mod TextWords
pub mod Longest
pub mod Named
pub mod Grouping
