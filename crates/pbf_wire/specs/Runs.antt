-- A message is a run of fields (Protocol Buffers, "Encoding": "Message Structure").
use Rattle.std.specs.Prelude.{ℕ, zero, suc, List, [], ◌∷◌, ◌++◌, length, Option, Some, None, min, Result, Ok, Err, nat_lt, if◌then◌else◌}
use Rattle.pbf_wire.specs.declared.wire.WireFault.{WireFault}
use Rattle.pbf_wire.specs.declared.wire.Field.{Field}
use Rattle.pbf_wire.specs.declared.fields.Spot.{Spot}
use Rattle.pbf_wire.specs.declared.fields.Run.{Run}
use Rattle.pbf_wire.specs.Wire.{field_of, at_byte}

-- the lesser of two keys, as far as they are there
abbrev pub least : Option ℕ → Option ℕ → Option ℕ
least None other = other
least (Some one) None = Some one
least (Some one) (Some other) = Some (min one other)

-- these fields, and then a run
abbrev pub after_fields : List Spot → Run → Run
after_fields front run = record { fields = front ++ run.fields; bad = run.bad }

-- a field at a place and those behind it; where none stands the run ends
abbrev pub with_field : ℕ → Result Field WireFault → (ℕ → Run) → Run
with_field at (Ok field) behind = after_fields (record { key = at; field = field } ∷ []) (behind field.next)
with_field at (Err fault) behind = record { fields = []; bad = Some fault.byte }

-- the fields from a place to the end, at most so many
abbrev pub run_from : ℕ → List ℕ → ℕ → Run
run_from zero bytes at = record { fields = []; bad = None }
run_from (suc most) bytes at =
    if nat_lt at (length bytes) then with_field at (at_byte at (field_of bytes at)) (run_from most bytes)
    else record { fields = []; bad = None }

-- the message from a place to the end; a field takes at least one byte
unfoldable pub run_of : List ℕ → ℕ → Run
run_of bytes at = run_from (length bytes) bytes at
