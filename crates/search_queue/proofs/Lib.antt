pub mod Entries
pub mod Holes
pub mod Orders
pub mod Paging
pub mod Pigeons
pub mod Places
pub mod Tables
