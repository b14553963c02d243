pub mod PbfRelations
pub mod PbfTurns
