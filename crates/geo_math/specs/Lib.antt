pub mod Foot
pub mod Lengths
