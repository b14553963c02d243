pub mod Refuting
pub mod Testing
