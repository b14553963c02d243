pub mod Evidence
pub mod Stores
pub mod FirstFaults
pub mod Writing
pub mod Laws
pub mod Readings
pub mod Steps
pub mod Ordering
