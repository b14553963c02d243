-- Texts that a run writes behind the bytes of a sink.
use Rattle.std.specs.Prelude.{ℕ, List, Option}
use Rattle.std.specs.Io.KnownBytes.{Appends}
use Rattle.gh_base.specs.Causes.{AppendsFront}

-- behind its old bytes the sink has such a text
abbrev pub Writes : (List ℕ → Type 0) → Option (List ℕ) → Option (List ℕ) → Type 0
Writes IsText old new = (text : List ℕ) × IsText text × Appends old new text

-- or a front of one
abbrev pub WritesFront : (List ℕ → Type 0) → Option (List ℕ) → Option (List ℕ) → Type 0
WritesFront IsText old new = (text : List ℕ) × IsText text × AppendsFront old new text
