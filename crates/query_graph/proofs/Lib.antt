pub mod Joining
pub mod Wanting
