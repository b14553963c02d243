-- Private to this crate: the notes that a seat has of its log's cells, and the entries that it found in them.
use Rattle.std.specs.Prelude.{◌≡◌, ℕ, ◌<◌, ◌≤◌, List, ◌∷◌, [], ◌++◌, length, get_or, map, All, Some}
use denote.Ref.{Bor}
use Rattle.once_cell.specs.declared.race.note.Note.{Note}
use Rattle.traffic_core.specs.declared.entry.Entry.{Entry}
use Rattle.traffic_core.specs.Lands.{Land}
use Rattle.traffic_core.specs.Standing.{State, Stands, IsOnLand}
use Rattle.traffic_share.specs.TrueEntries.{IsTrueEntry}
use Rattle.traffic_share.specs.Seats.{Place, GrewWithout}

-- the entries that references show
abbrev pub shown : List (Bor Entry) → List Entry
shown refs = map (λ r. r.now) refs

-- the notes are of the first cells, in order
pub record AreNotesOf (cells : List ℕ) (count : ℕ) (notes : List (Note Entry)) : Type 0 where
  pub len : length notes ≡ count
  pub named : (i : ℕ) (n : Note Entry) (d : ℕ) → i < count → (get_or notes i n).cell ≡ get_or cells i d

-- the notes of the first cells know the entries of the list
pub record Know (notes : List (Note Entry)) (entries : List Entry) : Type 0 where
  pub fits : length entries ≤ length notes
  pub known : (i : ℕ) (n : Note Entry) (e : Entry) → i < length entries → (get_or notes i n).known ≡ Some (get_or entries i e)

-- a note for each cell, of which the first know the entries of the list
pub record Keeps (cells : List ℕ) (notes : List (Note Entry)) (entries : List Entry) : Type 0 where
  pub of_cells : AreNotesOf cells (length cells) notes
  pub knowing : Know notes entries

-- a list of entries, and the state of the roads after it
pub record Replayed : Type 0 where
  pub entries : List Entry
  pub state : State

-- the state of these roads stands for the list, whose entries are true over them
pub record IsReplay (land : Land) (entries : List Entry) (state : State) : Type 0 where
  pub stands : Stands state entries
  pub of_land : state.land ≡ land
  pub true_each : All (IsTrueEntry land) entries

-- there is room for an entry behind the list, and it is one of these roads
pub record CanFollow (land : Land) (replay : Replayed) (entry : Entry) : Type 0 where
  pub room : length replay.entries < replay.state.room
  pub on_land : IsOnLand land entry.what

-- one entry came, and not this one
pub record IsOther (mine : Entry) (xs ys : List Entry) : Type 0 where
  pub found : Entry
  pub is : ys ≡ xs ++ found ∷ []
  pub other : ¬ (found ≡ mine)

-- a call with a number goes on: its own entry isn't among those that came
pub record GoesOn (mine : Entry) (number : ℕ) (before now : Place) : Type 0 where
  pub cells : now.cells ≡ before.cells
  pub actor : now.actor ≡ before.actor
  pub last : now.last ≡ number
  pub grew : GrewWithout mine before.entries now.entries
