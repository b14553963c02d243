pub mod Statuses
pub mod Preps
