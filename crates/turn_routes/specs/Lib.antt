pub mod Unstated
pub mod Weighed
