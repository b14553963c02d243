pub mod Sums
pub mod Blobs
