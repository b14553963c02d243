pub mod Restrictions
pub mod TurnWalks
pub mod Tables
pub mod States
pub mod Leading
pub mod Bounds
pub mod Counting
