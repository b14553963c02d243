pub mod Varints
pub mod Coordinates
pub mod Fields
pub mod DenseRead
pub mod SamplesShown
