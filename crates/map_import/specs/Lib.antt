pub mod Building
pub mod Faults
pub mod Refusals
pub mod Roads
pub mod FirstRefusal
