-- A varint in any spelling is read.
use Rattle.std.proofs.Common.{◌≡◌, ℕ, zero, suc, ◌+◌, ◌-◌, ◌*◌, ◌%◌, ◌^◌, ◌<◌, ◌≤◌, List, [], ◌∷◌, ◌++◌, length, true, false, ltb, Ok, refl, ap, arith, append_assoc, length-append}
use Rattle.std.proofs.lemmas.Bool.Decides.{nat_tests}
use Rattle.std.proofs.Math.Seq.{drop-append_seam}
use Rattle.pbf_wire.specs.Wire.{varint_in, varint_front, varint_at}
use Rattle.pbf_file_laws.specs.Messages.{AreGroups, varint_text, worth, IsVarint}

read_in : (most : ℕ) (groups rest : List ℕ) → AreGroups groups → 0 < length groups → length groups ≤ most → varint_in most (varint_text groups ++ rest) ≡ Ok (worth groups, length groups)
read_in zero groups rest h some few = absurd (omega arith)
read_in (suc most) [] rest h some few = absurd (omega arith)
read_in (suc most) (g ∷ []) rest h some few =
    let test : ltb g 128 ≡ true = let low = h.0 in grind (arith, nat_tests) in
    rw test (ap (λ (n : ℕ). Ok (n, 1)) (omega arith))
read_in (suc most) (g ∷ next ∷ groups) rest h some few =
    let test : ltb (g + 128) 128 ≡ false = grind (arith, nat_tests) in
    let count : length (next ∷ groups) + 1 ≡ length (g ∷ next ∷ groups) = omega arith in
    let value : g + 128 - 128 + 128 * worth (next ∷ groups) ≡ g + 128 * worth (next ∷ groups) = omega arith in
    rw (test, read_in most (next ∷ groups) rest h.1 (omega arith) (omega arith), value, count) refl

pub varint_size : (groups : List ℕ) → length (varint_text groups) ≡ length groups
varint_size [] = refl
varint_size (g ∷ []) = refl
varint_size (g ∷ next ∷ groups) = ap suc (varint_size (next ∷ groups))

-- a varint has at least one byte
pub varint_some : (groups : List ℕ) → IsVarint groups → 0 < length (varint_text groups)
varint_some groups h =
    let size = varint_size groups in
    let some = h.some in
    omega arith

pub varint_here : (front rest groups : List ℕ) → IsVarint groups → varint_at (front ++ (varint_text groups ++ rest)) (length front) ≡ Ok (worth groups, length front + length (varint_text groups))
unfolding varint_front varint_at
varint_here front rest groups h =
    let small = h.small in
    let kept : worth groups % 2 ^ 64 ≡ worth groups = omega arith in
    rw (drop-append_seam, read_in 10 groups rest h.are h.some h.few, kept, varint_size groups) refl

-- and behind other bytes
pub varint_there : (front a rest groups : List ℕ) (at : ℕ) → IsVarint groups → at ≡ length front + length a → varint_at (front ++ (a ++ (varint_text groups ++ rest))) at ≡ Ok (worth groups, at + length (varint_text groups))
varint_there front a rest groups at h e =
    let read = varint_here (front ++ a) rest groups h in
    let moved : varint_at (front ++ (a ++ (varint_text groups ++ rest))) (length (front ++ a)) ≡ Ok (worth groups, length (front ++ a) + length (varint_text groups)) = (rw (append_assoc front a (varint_text groups ++ rest)) at read) in
    let place : at ≡ length (front ++ a) = rw (length-append front a) e in
    rw place moved
