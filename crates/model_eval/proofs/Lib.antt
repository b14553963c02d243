pub mod Bits
pub mod Blocks
pub mod Crossings
pub mod NoStatement
pub mod Order
