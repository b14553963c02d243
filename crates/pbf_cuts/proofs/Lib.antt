pub mod Steps
pub mod Inside
pub mod Grows
pub mod Headers
pub mod Blobs
pub mod Fronts
pub mod ThreeBlobsShown
