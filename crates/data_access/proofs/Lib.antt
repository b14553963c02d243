pub mod InSegments
pub mod OtherBytes
pub mod WordBytes
