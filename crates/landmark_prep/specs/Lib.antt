pub mod Packing
pub mod Preparations
pub mod Bounds
pub mod Choosing
pub mod Jobs
pub mod Laws
pub mod Answers
