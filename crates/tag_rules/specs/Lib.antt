pub mod Access
pub mod Tables
pub mod Tags
pub mod Values
