pub mod Growing
pub mod Strings
