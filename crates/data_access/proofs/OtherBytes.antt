-- Bytes with others from a place on: what is read there, and elsewhere.
use Rattle.std.proofs.Common.{◌≡◌, ℕ, ◌+◌, ◌-◌, ◌^◌, ◌<◌, ◌≤◌, ◌⊎◌, inl, inr, List, ◌++◌, length, take, drop, refl, sym, ap, ◌∙◌, arith, append_assoc, length-append}
use Rattle.std.specs.Int.{w16, w32, to_le_bytes, from_le_bytes}
use Rattle.std.proofs.lemmas.List.{length-take-le, take_at, drop_at, take-append-le, drop-append-le, take-take, drop-take, drop-drop, length-drop}
use Rattle.std.proofs.lemmas.Nat.{from_le_bytes-to_le_bytes_2, from_le_bytes-to_le_bytes_4}
use Rattle.data_access.specs.Bytes.{bytes_with, u16_at, u32_at}

-- so many bytes from a place on
abbrev run : List ℕ → ℕ → ℕ → List ℕ
run bytes at m = take m (drop at bytes)

run_of : (bytes : List ℕ) (at m : ℕ) → take (at + m - at) (drop at bytes) ≡ run bytes at m
run_of bytes at m = ap (λ (n : ℕ). take n (drop at bytes)) (omega arith)

-- what stands there
there : (bytes others : List ℕ) (at : ℕ) → at ≤ length bytes → run (bytes_with bytes at others) at (length others) ≡ others
there bytes others at l =
    let rest = drop (at + length others) bytes in
    ap (λ (bs : List ℕ). take (length others) (drop at bs)) (append_assoc (take at bytes) others rest)
    ∙ (ap (take (length others)) (drop_at (take at bytes) (others ++ rest) at (length-take-le at bytes l))
    ∙ take_at others rest (length others) refl)

-- what stands before
before : (bytes others : List ℕ) (at p m : ℕ) → at ≤ length bytes → p + m ≤ at → run (bytes_with bytes at others) p m ≡ run bytes p m
before bytes others at p m l le =
    let rest = drop (at + length others) bytes in
    let front = take at bytes in
    let long : length front ≡ at = length-take-le at bytes l in
    let place : p + (at - p) ≡ at = omega arith in
    let in_front : p ≤ length front = omega arith in
    let enough : m ≤ length (drop p front) = omega (arith, length-drop p front) in
    ap (λ (bs : List ℕ). take m (drop p bs)) (append_assoc front others rest)
    ∙ (ap (take m) (drop-append-le p front (others ++ rest) in_front)
    ∙ (take-append-le m (drop p front) (others ++ rest) enough
    ∙ (ap (λ (n : ℕ). take m (drop p (take n bytes))) (sym place)
    ∙ (ap (take m) (drop-take p (at - p) bytes) ∙ take-take m (at - p) (drop p bytes) (omega arith)))))

-- what stands behind
after : (bytes others : List ℕ) (at p m : ℕ) → at ≤ length bytes → at + length others ≤ p → run (bytes_with bytes at others) p m ≡ run bytes p m
after bytes others at p m l le =
    let end = at + length others in
    let front = take at bytes ++ others in
    let long : length front ≡ end = omega (arith, length-append (take at bytes) others, length-take-le at bytes l) in
    let place : end + (p - end) ≡ p = omega arith in
    ap (take m)
    (ap (λ (n : ℕ). drop n (bytes_with bytes at others)) (sym place)
    ∙ (sym (drop-drop (p - end) end (bytes_with bytes at others))
    ∙ (ap (drop (p - end)) (drop_at front (drop end bytes) end long)
    ∙ (drop-drop (p - end) end bytes ∙ ap (λ (n : ℕ). drop n bytes) place))))

-- a word that was set is read
pub u32_read : (bytes new : List ℕ) (at word : ℕ) → new ≡ bytes_with bytes at (to_le_bytes w32 word) → at + 4 ≤ length bytes → word < 2 ^ 32 → u32_at new at ≡ word
u32_read bytes new at word e l fits =
    ap (λ (bs : List ℕ). u32_at bs at) e
    ∙ (ap (from_le_bytes w32) (run_of (bytes_with bytes at (to_le_bytes w32 word)) at 4 ∙ there bytes (to_le_bytes w32 word) at (omega arith)) ∙ from_le_bytes-to_le_bytes_4 word fits)

pub u16_read : (bytes new : List ℕ) (at word : ℕ) → new ≡ bytes_with bytes at (to_le_bytes w16 word) → at + 2 ≤ length bytes → word < 2 ^ 16 → u16_at new at ≡ word
u16_read bytes new at word e l fits =
    ap (λ (bs : List ℕ). u16_at bs at) e
    ∙ (ap (from_le_bytes w16) (run_of (bytes_with bytes at (to_le_bytes w16 word)) at 2 ∙ there bytes (to_le_bytes w16 word) at (omega arith)) ∙ from_le_bytes-to_le_bytes_2 word fits)

-- and every other word stays
pub u32_others : (bytes new : List ℕ) (at word other : ℕ) → new ≡ bytes_with bytes at (to_le_bytes w32 word) → at + 4 ≤ length bytes → (other + 4 ≤ at) ⊎ (at + 4 ≤ other) → u32_at new other ≡ u32_at bytes other
u32_others bytes new at word other e l apart =
    ap (λ (bs : List ℕ). u32_at bs other) e
    ∙ ap (from_le_bytes w32) (run_of (bytes_with bytes at (to_le_bytes w32 word)) other 4
    ∙ (elim apart [
      | inl p ↦ before bytes (to_le_bytes w32 word) at other 4 (omega arith) p
      | inr p ↦ after bytes (to_le_bytes w32 word) at other 4 (omega arith) p
    ] ∙ sym (run_of bytes other 4)))

pub u16_others : (bytes new : List ℕ) (at word other : ℕ) → new ≡ bytes_with bytes at (to_le_bytes w16 word) → at + 2 ≤ length bytes → (other + 2 ≤ at) ⊎ (at + 2 ≤ other) → u16_at new other ≡ u16_at bytes other
u16_others bytes new at word other e l apart =
    ap (λ (bs : List ℕ). u16_at bs other) e
    ∙ ap (from_le_bytes w16) (run_of (bytes_with bytes at (to_le_bytes w16 word)) other 2
    ∙ (elim apart [
      | inl p ↦ before bytes (to_le_bytes w16 word) at other 2 (omega arith) p
      | inr p ↦ after bytes (to_le_bytes w16 word) at other 2 (omega arith) p
    ] ∙ sym (run_of bytes other 2)))
