pub mod Rules
pub mod Walks
pub mod Orders
pub mod Found
pub mod Lines
pub mod SamplesRefused
