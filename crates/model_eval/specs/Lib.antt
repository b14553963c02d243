pub mod Conditions
pub mod Running
pub mod Models
pub mod Regions
pub mod Slowing
