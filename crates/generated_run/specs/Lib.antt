pub mod Draws
pub mod Maps
pub mod Scripts
pub mod Summaries
pub mod Generating
pub mod Laws
