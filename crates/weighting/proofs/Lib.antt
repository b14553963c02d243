pub mod Falls
mod Plain
mod Quotients
mod Stored
pub mod Turned
