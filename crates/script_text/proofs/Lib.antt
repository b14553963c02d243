pub mod Parts
pub mod Models
pub mod Growing
pub mod Phases
