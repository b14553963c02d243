pub mod OneMap
pub mod Few
pub mod Made
pub mod Guiding
pub mod Counted
