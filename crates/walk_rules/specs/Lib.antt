pub mod Walks
pub mod Turned
pub mod Potentials
pub mod Distances
pub mod Starts
pub mod Evidence
pub mod Laws
pub mod RowOfFive
