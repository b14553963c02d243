-- A text that is given in pieces.
use Rattle.std.proofs.Common.{◌∙◌, ℕ, ◌+◌, List, take, drop, Option, Some, None, append_assoc}
use Rattle.std.specs.Io.KnownBytes.{Appends, Keeps}
use Rattle.std.proofs.Math.Seq.{take-add}
use Rattle.gh_base.specs.Causes.{AppendsFront}

pub given_more : (old mid new : Option (List ℕ)) (text : List ℕ) (k n : ℕ) → Appends old mid (take k text) → Appends mid new (take n (drop k text)) → Appends old new (take (k + n) text)
given_more None mid new text k n g h = tt
given_more (Some a) (Some b) (Some c) text k n g h = rw (take-add, h, g) (append_assoc a (take k text) (take n (drop k text)))
given_more (Some a) (Some b) None text k n g h = h
given_more (Some a) None new text k n g h = absurd g

pub given_some : (old mid new : Option (List ℕ)) (text : List ℕ) (k : ℕ) → Appends old mid (take k text) → Keeps mid new → AppendsFront old new text
given_some None mid new text k g h = (k, tt)
given_some (Some a) (Some b) (Some c) text k g h = (k, h ∙ g)
given_some (Some a) (Some b) None text k g h = absurd h
given_some (Some a) None new text k g h = absurd g
