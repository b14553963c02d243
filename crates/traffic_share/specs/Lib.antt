pub mod TrueEntries
pub mod Seats
pub mod Lowering
pub mod Restoring
pub mod Publishing
pub mod Notes
