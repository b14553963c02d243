pub mod Guided
pub mod Lines
pub mod Runs
