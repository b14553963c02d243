-- Steps that may find a fault: its first byte, and its kind.
use Rattle.std.specs.Prelude.{ℕ, Bool, Option, Some, None, Result, Ok, Err, if◌then◌else◌}
use Rattle.gh_base.specs.declared.kinds.PbfKind.{PbfKind}
use Rattle.gh_base.specs.declared.kinds.PbfKind.TheVariants.{BadWire}

infixl 10 ◌>>◌
abbrev pub ◌>>◌ : {A B K : Type 0} → Result A K → Result B K → Result B K
(Ok x) >> rest = rest
(Err k) >> rest = Err k

-- a fault where a test holds
abbrev pub refuse : Bool → ℕ → PbfKind → Result (Unit {0}) (ℕ × PbfKind)
refuse test byte kind = if test then Err (byte, kind) else Ok tt

-- what is there, or a fault
abbrev pub or_fault : {X : Type 0} → Option X → ℕ → PbfKind → Result X (ℕ × PbfKind)
or_fault (Some x) byte kind = Ok x
or_fault None byte kind = Err (byte, kind)

-- a message is a run of fields where it has no bad key
abbrev pub is_run : Option ℕ → Result (Unit {0}) (ℕ × PbfKind)
is_run None = Ok tt
is_run (Some key) = Err (key, BadWire)
