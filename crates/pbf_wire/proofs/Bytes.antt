-- A varint, byte by byte.
use Rattle.std.proofs.Math.Nat.{pow-le-pow_right, pow-suc}
use Rattle.std.proofs.lemmas.Bool.Decides.{nat_tests}
use Rattle.std.proofs.Common.{zero, ◌≡◌, ◌∙◌, ℕ, ◌+◌, ◌-◌, ◌*◌, ◌%◌, ◌^◌, ◌<◌, ◌≤◌, suc, List, ◌∷◌, Result, Ok, Err, true, false, ltb, refl, ap, sym, add-one, arith}
use Rattle.std.proofs.Math.Nat.{add-mod-mod, mod-add-mod}
use Rattle.std.proofs.lemmas.Nat.{mul-mod_first}
use Rattle.pbf_wire.specs.declared.wire.WireKind.{WireKind}
use Rattle.pbf_wire.specs.Wire.{◌>>=◌, varint_in}

-- what was read at this weight, before what is left
abbrev pub joined : ℕ → ℕ → ℕ → Result (ℕ × ℕ) WireKind → Result (ℕ × ℕ) WireKind
joined value weight size (Ok r) = Ok ((value + weight * r.0) % 2 ^ 64, size + r.1)
joined value weight size (Err k) = Err k

pub step : (v w low r m : ℕ) → ((v + (w * low) % m) % m + (w * 128) % m * r) % m ≡ (v + w * (low + 128 * r)) % m
step v w low r m =
    let z = w * 128 * r in
    let drop_first : ((v + (w * low) % m) % m + (w * 128) % m * r) % m ≡ ((v + (w * low) % m) + (w * 128) % m * r) % m = mod-add-mod (v + (w * low) % m) m ((w * 128) % m * r) in
    let drop_second : ((v + (w * low) % m) + (w * 128) % m * r) % m ≡ ((v + (w * low) % m) + z) % m =
    sym (add-mod-mod (v + (w * low) % m) ((w * 128) % m * r) m) ∙ (ap (λ y. ((v + (w * low) % m) + y) % m) (mul-mod_first (w * 128) r m) ∙ add-mod-mod (v + (w * low) % m) z m) in
    let turn : (v + (w * low) % m) + z ≡ (v + z) + (w * low) % m = omega arith in
    let drop_third : ((v + (w * low) % m) + z) % m ≡ ((v + z) + w * low) % m = ap (λ y. y % m) turn ∙ add-mod-mod (v + z) (w * low) m in
    let same : (v + z) + w * low ≡ v + w * (low + 128 * r) = omega arith in
    drop_first ∙ (drop_second ∙ (drop_third ∙ ap (λ y. y % m) same))

pub more_of : (v w low size : ℕ) (read : Result (ℕ × ℕ) WireKind) →
    joined ((v + (w * low) % 2 ^ 64) % 2 ^ 64) ((w * 128) % 2 ^ 64) (size + 1) read ≡ joined v w size (read >>= λ r. Ok (low + 128 * r.0, r.1 + 1))
more_of v w low size (Ok r) =
    let value = step v w low r.0 (2 ^ 64) in
    let place : size + 1 + r.1 ≡ size + (r.1 + 1) = omega arith in
    rw (value, place) refl
more_of v w low size (Err k) = refl

-- a byte with the top bit
pub more_byte : (v w b size left most : ℕ) (bytes : List ℕ) → ltb b 128 ≡ false → left ≡ suc most →
    joined ((v + (w * (b - 128)) % 2 ^ 64) % 2 ^ 64) ((w * 128) % 2 ^ 64) (size + 1) (varint_in most bytes) ≡ joined v w size (varint_in left (b ∷ bytes))
more_byte v w b size left most bytes top e = rw (e, top) (more_of v w (b - 128) size (varint_in most bytes))

-- a byte without
pub last_byte : (v w b size left : ℕ) (rest bytes : List ℕ) (whole : Result (ℕ × ℕ) WireKind) → joined v w size (varint_in left rest) ≡ whole → rest ≡ b ∷ bytes → b < 128 → 0 < left →
    Ok ((v + (w * b) % 2 ^ 64) % 2 ^ 64, size + 1) ≡ whole
last_byte v w b size zero rest bytes whole read r low some = absurd (omega arith)
last_byte v w b size (suc left) rest bytes whole read r low some =
    let test : ltb b 128 ≡ true = grind (arith, nat_tests) in
    let at_front : joined v w size (varint_in (suc left) (b ∷ bytes)) ≡ whole = (rw r at read) in
    rw (add-mod-mod v (w * b) (2 ^ 64)) (rw test at at_front)

pub power_more : (n k j : ℕ) → n < 256 ^ k → k + 1 ≤ j → 256 * n + 255 < 256 ^ j
power_more n k j small le =
    let positive : 0 < 256 = omega arith in
    let more : 256 ^ (k + 1) ≤ 256 ^ j = pow-le-pow_right positive le in
    let next : 256 ^ (k + 1) ≡ 256 ^ k * 256 = rw add-one (pow-suc 256 k) in
    omega arith
