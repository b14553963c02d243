pub mod Characters
pub mod Coordinates
pub mod Ordering
pub mod Samples
