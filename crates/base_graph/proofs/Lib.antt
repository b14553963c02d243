pub mod Grown
pub mod Undone
