-- Varints and numbers with a sign.
use Rattle.std.proofs.Common.{◌≡◌, ◌∙◌, ℕ, zero, suc, ◌+◌, ◌-◌, ◌*◌, ◌/◌, ◌%◌, ◌^◌, ◌<◌, ◌≤◌, ℤ, pos, negsuc, List, [], ◌∷◌, ◌++◌, length, true, false, eqb, ltb, Ok, refl, ap, arith}
use Rattle.std.proofs.lemmas.Bool.Decides.{nat_tests}
use Rattle.pbf_wire.specs.Wire.{varint_in, varint_front}
use Rattle.pbf_wire.specs.Deltas.{zigzag_of}
use Rattle.pbf_laws.specs.Numbers.{AreGroups, varint_of, worth, VarintsMayBeLonger, SignsAreZigzag}

read_in : (most : ℕ) (groups rest : List ℕ) → AreGroups groups → 0 < length groups → length groups ≤ most → varint_in most (varint_of groups ++ rest) ≡ Ok (worth groups, length groups)
read_in zero groups rest h some few = absurd (omega arith)
read_in (suc most) [] rest h some few = absurd (omega arith)
read_in (suc most) (g ∷ []) rest h some few =
    let test : ltb g 128 ≡ true = let low = h.0 in grind (arith, nat_tests) in
    rw test (ap (λ (n : ℕ). Ok (n, 1)) (omega arith))
read_in (suc most) (g ∷ next ∷ groups) rest h some few =
    let test : ltb (g + 128) 128 ≡ false = grind (arith, nat_tests) in
    let count : length (next ∷ groups) + 1 ≡ length (g ∷ next ∷ groups) = omega arith in
    let value : g + 128 - 128 + 128 * worth (next ∷ groups) ≡ g + 128 * worth (next ∷ groups) = omega arith in
    rw (test, read_in most (next ∷ groups) rest h.1 (omega arith) (omega arith), value, count) refl

pub longer : VarintsMayBeLonger
unfolding varint_front
longer groups rest h some few = rw (read_in 10 groups rest h some few) refl

positive : (n : ℕ) → zigzag_of (2 * n) ≡ pos n
positive n =
    let even : eqb (2 * n % 2) 0 ≡ true = grind (arith, nat_tests) in
    rw even (ap (λ (k : ℕ). pos k) (omega arith))

negative : (n : ℕ) → zigzag_of (2 * n + 1) ≡ negsuc n
negative n =
    let odd : eqb ((2 * n + 1) % 2) 0 ≡ false = grind (arith, nat_tests) in
    rw odd (ap (λ (k : ℕ). negsuc k) (omega arith))

pub zigzag : SignsAreZigzag
zigzag = record { positive = positive; negative = negative }
