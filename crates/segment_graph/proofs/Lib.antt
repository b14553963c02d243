pub mod Counting
pub mod Holding
pub mod Keeping
pub mod Linking
pub mod Listing
pub mod Rowing
pub mod Wording
