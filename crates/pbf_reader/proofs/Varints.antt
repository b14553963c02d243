-- A list of varints, one by one.
use Rattle.std.proofs.lemmas.Bool.Decides.{nat_tests}
use Rattle.std.proofs.Common.{◌≡◌, ◌∙◌, ℕ, ◌+◌, ◌<◌, ◌≤◌, zero, suc, List, [], ◌∷◌, ◌++◌, length, Some, None, Ok, Err, true, false, ltb, refl, sym, arith, append_assoc, append-nil}
use Rattle.pbf_wire.specs.declared.wire.WireFault.{WireFault}
use Rattle.pbf_wire.specs.Wire.{varint_at, at_byte}
use Rattle.pbf_wire.specs.declared.fields.Values.{Values}
use Rattle.pbf_wire.specs.Runs.{least}
use Rattle.pbf_wire.specs.Lists.{both, varints_from, varints_of}
use Rattle.pbf_reader.proofs.Joins.{least_assoc, least_none}

pub both_assoc : (a b c : Values) → both (both a b) c ≡ both a (both b c)
both_assoc a b c = rw (append_assoc a.values b.values c.values, least_assoc a.bad b.bad c.bad) refl

pub both_none : (a : Values) → both a (record { values = []; bad = None }) ≡ a
both_none a = rw (append-nil a.values, least_none a.bad) refl

-- what a loop has read at this place is the front of the whole list
pub record IsFront (key : ℕ) (bytes : List ℕ) (at : ℕ) (front whole : Values) : Type 0 where
  pub most : ℕ
  pub room : length bytes ≤ at + most
  pub same : both front (varints_from key most bytes at) ≡ whole

pub start_values : (key : ℕ) (bytes : List ℕ) (at : ℕ) (front : Values) → IsFront key bytes at front (both front (varints_of key bytes at))
unfolding varints_of
start_values key bytes at front = record { most = length bytes; room = omega arith; same = refl }

more_at : (most key : ℕ) (bytes : List ℕ) (at : ℕ) (front whole : Values) (r : ℕ × ℕ) → length bytes ≤ at + most → both front (varints_from key most bytes at) ≡ whole → at < length bytes → at < r.1 →
    Ok r ≡ at_byte at (varint_at bytes at) → IsFront key bytes r.1 (both front (record { values = r.0 ∷ []; bad = None })) whole
more_at zero key bytes at front whole r room same inside on is = absurd (omega arith)
more_at (suc most) key bytes at front whole r room same inside on is =
    let test : ltb at (length bytes) ≡ true = grind (arith, nat_tests) in
    let opened = rw (test, ← is) at same in
    record { most = most; room = omega arith; same = both_assoc front (record { values = r.0 ∷ []; bad = None }) (varints_from key most bytes r.1) ∙ opened }

pub more_values : (key : ℕ) (bytes : List ℕ) (at value next : ℕ) (front whole : Values) → IsFront key bytes at front whole → at < length bytes → at < next →
    Ok (value, next) ≡ at_byte at (varint_at bytes at) → IsFront key bytes next (record { values = front.values ++ value ∷ []; bad = front.bad }) whole
more_values key bytes at value next front whole f inside on is =
    let more = more_at f.most key bytes at front whole (value, next) f.room f.same inside on is in
    rw (least_none front.bad) at more

end_at : (most key : ℕ) (bytes : List ℕ) (at : ℕ) (front whole : Values) → both front (varints_from key most bytes at) ≡ whole → length bytes ≤ at → front ≡ whole
end_at zero key bytes at front whole same done = sym (both_none front) ∙ same
end_at (suc most) key bytes at front whole same done =
    let test : ltb at (length bytes) ≡ false = grind (arith, nat_tests) in
    let opened = rw test at same in
    sym (both_none front) ∙ opened

pub end_values : (key : ℕ) (bytes : List ℕ) (at : ℕ) (front whole : Values) → IsFront key bytes at front whole → length bytes ≤ at → front ≡ whole
end_values key bytes at front whole f done = end_at f.most key bytes at front whole f.same done

bad_at : (most key : ℕ) (bytes : List ℕ) (at : ℕ) (front whole : Values) (fault : WireFault) → length bytes ≤ at + most → both front (varints_from key most bytes at) ≡ whole → at < length bytes →
    Err fault ≡ at_byte at (varint_at bytes at) → record { values = front.values; bad = least front.bad (Some key) } ≡ whole
bad_at zero key bytes at front whole fault room same inside is = absurd (omega arith)
bad_at (suc most) key bytes at front whole fault room same inside is =
    let test : ltb at (length bytes) ≡ true = grind (arith, nat_tests) in
    let opened = rw (test, ← is) at same in
    rw append-nil at opened

pub bad_value : (key : ℕ) (bytes : List ℕ) (at : ℕ) (front whole : Values) (fault : WireFault) → IsFront key bytes at front whole → at < length bytes →
    Err fault ≡ at_byte at (varint_at bytes at) → record { values = front.values; bad = least front.bad (Some key) } ≡ whole
bad_value key bytes at front whole fault f inside is = bad_at f.most key bytes at front whole fault f.room f.same inside is
