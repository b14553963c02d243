pub mod Around
pub mod Deciding
pub mod Kept
pub mod Numbers
pub mod Passing
pub mod Bounding
pub mod Known
