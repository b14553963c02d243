pub mod Parsing
pub mod NoFaults
pub mod NoListFaults
pub mod NoFaultsAtAll
