pub mod Converting
pub mod Labels
pub mod Roads
pub mod Runs
pub mod Serving
pub mod Statuses
pub mod Texts
pub mod Answers
