pub mod Packing
pub mod Road
pub mod Slots
