pub mod Statuses
pub mod Written
pub mod Reading
pub mod Cars
pub mod Opening
