pub mod Tokens
pub mod Words
pub mod Amounts
pub mod Conditions
pub mod Actions
pub mod Grouping
