pub mod Answered
pub mod Free
pub mod Spellings
