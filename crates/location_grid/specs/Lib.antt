pub mod Bits
pub mod Boxes
pub mod Founds
pub mod Grids
pub mod Keys
pub mod Nearest
pub mod Snaps
