pub mod Choosing
pub mod Counting
pub mod Fronts
pub mod Halving
pub mod Joining
pub mod Largest
