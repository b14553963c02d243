pub mod ListsThatBegin
pub mod NotesOfCells
pub mod EntriesFound
pub mod CallsThatGoOn
pub mod PreparationsAfter
pub mod SentSeats
