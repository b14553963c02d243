pub mod Bits
pub mod OneRoad
pub mod Packing
pub mod SideBySide
pub mod Values
