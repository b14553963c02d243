pub mod Counted
pub mod GeneratedScript
pub mod GridNodes
pub mod GridWays
pub mod GridRoads
pub mod ShortLines
pub mod Sums
pub mod Runs
