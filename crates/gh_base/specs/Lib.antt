pub mod Causes
pub mod Decimals
pub mod Maps
pub mod Memory
pub mod Networks
pub mod Parts
pub mod Places
pub mod Readings
