pub mod Facts
pub mod Graphs
pub mod Starting
