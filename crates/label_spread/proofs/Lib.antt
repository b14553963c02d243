pub mod Nearest
pub mod Grained
