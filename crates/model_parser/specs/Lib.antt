pub mod Faults
pub mod Values
pub mod Outlines
pub mod Rings
pub mod Features
pub mod Statements
pub mod ModelText
