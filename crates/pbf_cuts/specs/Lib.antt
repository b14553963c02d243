pub mod Cuts
pub mod ThreeBlobs
