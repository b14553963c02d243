pub mod Building
pub mod Numbers
pub mod Ordering
pub mod DenseNodes
pub mod Samples
pub mod Faults
