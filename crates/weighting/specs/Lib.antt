pub mod Rules
pub mod Weights
pub mod Plain
pub mod Profiles
pub mod Roads
pub mod RoadFacts
pub mod SlowRoads
