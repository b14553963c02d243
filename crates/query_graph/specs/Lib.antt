pub mod Between
pub mod Ends
pub mod Joined
pub mod Single
