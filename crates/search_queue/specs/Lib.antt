pub mod Heaps
pub mod Keys
pub mod Pages
