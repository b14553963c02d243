pub mod Progress
pub mod Findings
pub mod Exploring
pub mod Kept
pub mod Rows
