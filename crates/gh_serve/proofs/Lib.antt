pub mod Sums
pub mod Unwritten
pub mod Asked
pub mod Complete
pub mod LinesBehind
pub mod Pushed
pub mod Inputs
pub mod Queries
