-- A run of fields, field by field.
use Rattle.std.proofs.lemmas.Bool.Decides.{nat_tests}
use Rattle.std.proofs.Common.{◌≡◌, ℕ, ◌+◌, ◌<◌, ◌≤◌, zero, suc, List, [], ◌∷◌, ◌++◌, length, Some, None, Ok, Err, true, false, ltb, refl, arith, append_assoc, append-nil}
use Rattle.pbf_wire.specs.declared.wire.WireFault.{WireFault}
use Rattle.pbf_wire.specs.declared.wire.Field.{Field}
use Rattle.pbf_wire.specs.Wire.{field_of, at_byte}
use Rattle.pbf_wire.specs.declared.fields.Spot.{Spot}
use Rattle.pbf_wire.specs.declared.fields.Run.{Run}
use Rattle.pbf_wire.specs.Runs.{after_fields, run_from, run_of}

-- what a loop has read at this place is the front of the whole run
pub record IsFront (bytes : List ℕ) (at : ℕ) (front : List Spot) (whole : Run) : Type 0 where
  pub most : ℕ
  pub room : length bytes ≤ at + most
  pub same : after_fields front (run_from most bytes at) ≡ whole

pub start_run : (bytes : List ℕ) (at : ℕ) (front : List Spot) → front ≡ [] → IsFront bytes at front (run_of bytes at)
unfolding run_of
start_run bytes at front e = record { most = length bytes; room = omega arith; same = rw e refl }

more_at : (most : ℕ) (bytes : List ℕ) (at : ℕ) (front : List Spot) (whole : Run) (field : Field) → length bytes ≤ at + most → after_fields front (run_from most bytes at) ≡ whole → at < length bytes → at < field.next →
    Ok field ≡ at_byte at (field_of bytes at) → IsFront bytes field.next (front ++ record { key = at; field = field } ∷ []) whole
more_at zero bytes at front whole field room same inside on is = absurd (omega arith)
more_at (suc most) bytes at front whole field room same inside on is =
    let test : ltb at (length bytes) ≡ true = grind (arith, nat_tests) in
    let opened = rw (test, ← is) at same in
    record { most = most; room = omega arith; same = rw (append_assoc front (record { key = at; field = field } ∷ []) (run_from most bytes field.next).fields) opened }

pub more_fields : (bytes : List ℕ) (at : ℕ) (front : List Spot) (whole : Run) (field : Field) → IsFront bytes at front whole → at < length bytes → at < field.next →
    Ok field ≡ at_byte at (field_of bytes at) → IsFront bytes field.next (front ++ record { key = at; field = field } ∷ []) whole
more_fields bytes at front whole field f inside on is = more_at f.most bytes at front whole field f.room f.same inside on is

end_at : (most : ℕ) (bytes : List ℕ) (at : ℕ) (front : List Spot) (whole : Run) → after_fields front (run_from most bytes at) ≡ whole → length bytes ≤ at → record { fields = front; bad = None } ≡ whole
end_at zero bytes at front whole same done = rw append-nil at same
end_at (suc most) bytes at front whole same done =
    let test : ltb at (length bytes) ≡ false = grind (arith, nat_tests) in
    let opened = rw test at same in
    rw append-nil at opened

pub end_fields : (bytes : List ℕ) (at : ℕ) (front : List Spot) (whole : Run) → IsFront bytes at front whole → length bytes ≤ at → record { fields = front; bad = None } ≡ whole
end_fields bytes at front whole f done = end_at f.most bytes at front whole f.same done

bad_at : (most : ℕ) (bytes : List ℕ) (at : ℕ) (front : List Spot) (whole : Run) (fault : WireFault) → length bytes ≤ at + most → after_fields front (run_from most bytes at) ≡ whole → at < length bytes →
    Err fault ≡ at_byte at (field_of bytes at) → record { fields = front; bad = Some fault.byte } ≡ whole
bad_at zero bytes at front whole fault room same inside is = absurd (omega arith)
bad_at (suc most) bytes at front whole fault room same inside is =
    let test : ltb at (length bytes) ≡ true = grind (arith, nat_tests) in
    let opened = rw (test, ← is) at same in
    rw append-nil at opened

pub bad_field : (bytes : List ℕ) (at : ℕ) (front : List Spot) (whole : Run) (fault : WireFault) → IsFront bytes at front whole → at < length bytes →
    Err fault ≡ at_byte at (field_of bytes at) → record { fields = front; bad = Some fault.byte } ≡ whole
bad_field bytes at front whole fault f inside is = bad_at f.most bytes at front whole fault f.room f.same inside is
