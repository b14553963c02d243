pub mod Conditions
pub mod Actions
pub mod Spelling
pub mod Numerals
pub mod Grammar
pub mod Acting
pub mod Wholes
pub mod Chains
