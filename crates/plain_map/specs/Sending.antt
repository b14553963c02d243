-- Bytes that wait in a buffer before a sink.
use Rattle.std.specs.Prelude.{◌≡◌, ℕ, List, ◌++◌, Option}
use Rattle.std.specs.Io.KnownBytes.{Appends}

-- of these bytes a front was given to the sink, and the rest is left
abbrev pub Sends : Option (List ℕ) → Option (List ℕ) → List ℕ → List ℕ → Type 0
Sends old new bytes rest = (given : List ℕ) × Appends old new given × (given ++ rest ≡ bytes)
