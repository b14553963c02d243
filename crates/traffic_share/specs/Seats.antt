-- Seats of a log: what contracts see of one, and how its list of entries grows.
use Rattle.std.specs.Prelude.{◌≡◌, ℕ, List, [], ◌∷◌, ◌++◌, ◌⊎◌, length, All, if◌then◌else◌, nat_lt}
use Rattle.traffic_core.specs.declared.entry.Entry.{Entry}
use Rattle.traffic_core.specs.declared.entry.What.{What}

-- a seat: the names of its log's cells, its actor, the last number that it was given, and its list
pub record Place : Type 0 where
  pub cells : List ℕ
  pub actor : ℕ
  pub last : ℕ
  pub entries : List Entry

-- the same seat of the same log, whatever its list
pub record HasSameSeat (before after : Place) : Type 0 where
  pub cells : after.cells ≡ before.cells
  pub actor : after.actor ≡ before.actor
  pub last : after.last ≡ before.last

-- the entry of a seat's call by its number
abbrev pub entry_of : Place → ℕ → What → Entry
entry_of seat number what = record { actor = seat.actor; number = number; what = what }

-- a list begins with another
pub record StartsWith (ys xs : List Entry) : Type 0 where
  pub rest : List Entry
  pub is : ys ≡ xs ++ rest

-- of two lists one begins with the other
abbrev pub AreOfOne : List Entry → List Entry → Type 0
AreOfOne xs ys = StartsWith xs ys ⊎ StartsWith ys xs

-- the longer of two lists
abbrev pub longer : List Entry → List Entry → List Entry
longer xs ys = if nat_lt (length xs) (length ys) then ys else xs

-- a list begins with the old one, and no entry that came to it is this one
pub record GrewWithout (mine : Entry) (xs ys : List Entry) : Type 0 where
  pub rest : List Entry
  pub is : ys ≡ xs ++ rest
  pub others : All (λ e. ¬ (e ≡ mine)) rest

-- this entry is the last of the list, behind a front that begins with the old list, at this place, counted from 1
pub record Accepts (mine : Entry) (xs ys : List Entry) (at : ℕ) : Type 0 where
  pub front : List Entry
  pub is : ys ≡ front ++ mine ∷ []
  pub begins : GrewWithout mine xs front
  pub place : at ≡ length ys

-- the call was refused after so many entries, none of which that came is its own
pub record Refuses (mine : Entry) (xs ys : List Entry) (at : ℕ) : Type 0 where
  pub begins : GrewWithout mine xs ys
  pub place : at ≡ length ys

-- the log has no cell behind the list
abbrev pub IsFull : Place → Type 0
IsFull seat = length seat.entries ≡ length seat.cells
