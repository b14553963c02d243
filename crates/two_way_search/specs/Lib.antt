pub mod Keys
pub mod Answers
pub mod Sides
pub mod Meetings
pub mod Opposed
pub mod Behind
