pub mod Restricting
pub mod PlainRelations
