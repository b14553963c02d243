-- Words of bits.
use Rattle.std.proofs.Common.{◌≡◌, ◌∙◌, sym, ap, ℕ, zero, suc, ◌+◌, ◌*◌, ◌/◌, ◌^◌, ◌≤◌, ◌<◌, add-one, Bool, true, false, cond, List, [], ◌∷◌, length, map, drop, length-drop, Some, refl, arith}
use Rattle.std.specs.Prelude.{slice_get, option_map}
use Rattle.std.proofs.Math.Nat.{pow-le-pow_right, pow-succ', div-div-eq-div-mul}
use Rattle.std.proofs.lemmas.List.{length-map}
use Rattle.std.proofs.lemmas.Nat.{div_below}
use Rattle.std.proofs.lemmas.Option.{slice_get-map}
use Rattle.std.proofs.lemmas.Bool.Decides.{nat_tests}
use Rattle.gh_base.specs.declared.map.Point.{Point}
use Rattle.model_eval.specs.declared.custom_model.Area.{Area}
use Rattle.model_eval.specs.Conditions.{has_bit}
use Rattle.model_eval.specs.Regions.{touches, word_of_bits, areas_at}

halves : (n place : ℕ) → n / 2 ^ suc place ≡ n / 2 / 2 ^ place
halves n place = ap (λ k. n / k) (pow-succ' 2 place) ∙ sym (div-div-eq-div-mul n 2 (2 ^ place))

-- so many bits are below the power of two
small : (bs : List Bool) → word_of_bits bs < 2 ^ length bs
small [] = omega arith
small (true ∷ bs) = let h = small bs in let e : 2 ^ suc (length bs) ≡ 2 * 2 ^ length bs = omega arith in omega arith
small (false ∷ bs) = let h = small bs in let e : 2 ^ suc (length bs) ≡ 2 * 2 ^ length bs = omega arith in omega arith

word_is_small : (bs : List Bool) → length bs ≤ 50 → word_of_bits bs < 1125899906842624
word_is_small bs few =
    let h = small bs in
    let some : 0 < 2 = omega arith in
    let p : 2 ^ length bs ≤ 2 ^ 50 = pow-le-pow_right some few in
    omega arith

-- a word of 64 bits has none beyond them
pub no_bit_beyond : (areas place : ℕ) → areas < 2 ^ 64 → 64 ≤ place → has_bit areas place ≡ false
no_bit_beyond areas place low far =
    let some : 0 < 2 = omega arith in
    let p : 2 ^ 64 ≤ 2 ^ place = pow-le-pow_right some far in
    let q : areas / 2 ^ place < 1 = div_below areas (2 ^ place) 1 (omega arith) (omega arith) in
    let z : areas / 2 ^ place ≡ 0 = omega arith in
    rw z refl

-- the bit at a place
bit_there : (bs : List Bool) (place : ℕ) (b : Bool) → slice_get bs place ≡ Some b → has_bit (word_of_bits bs) place ≡ b
bit_there [] place b e = cc
bit_there (true ∷ bs) zero b e = let h : true ≡ b = cc in rw (← h) (grind (arith, nat_tests))
bit_there (false ∷ bs) zero b e = let h : false ≡ b = cc in rw (← h) (grind (arith, nat_tests))
bit_there (true ∷ bs) (suc place) b e =
    let some : 0 < 2 = omega arith in
    let h = bit_there bs place b e in
    let e : (1 + 2 * word_of_bits bs) / 2 ^ suc place ≡ word_of_bits bs / 2 ^ place = halves (1 + 2 * word_of_bits bs) place ∙ ap (λ n. n / 2 ^ place) (omega arith) in
    rw e h
bit_there (false ∷ bs) (suc place) b e =
    let h = bit_there bs place b e in
    let e : (0 + 2 * word_of_bits bs) / 2 ^ suc place ≡ word_of_bits bs / 2 ^ place = halves (0 + 2 * word_of_bits bs) place ∙ ap (λ n. n / 2 ^ place) (omega arith) in
    rw e h

-- the bit of an area
pub bit_of_word : (areas : List Area) (points : List Point) (place : ℕ) (area : Area) → slice_get areas place ≡ Some area → has_bit (areas_at areas points) place ≡ touches points area
unfolding areas_at
bit_of_word areas points place area e =
    bit_there (map (touches points) areas) place (touches points area) (slice_get-map (touches points) areas place ∙ ap (option_map (touches points)) e)

-- one more area in front
next_item : (areas : List Area) (points : List Point) (place : ℕ) (area : Area) → slice_get areas place ≡ Some area → word_of_bits (map (touches points) (drop place areas)) ≡ cond (touches points area) 1 0 + 2 * word_of_bits (map (touches points) (drop (suc place) areas))
next_item [] points place area e = cc
next_item (a ∷ areas) points zero area e = let h : a ≡ area = cc in rw h refl
next_item (a ∷ areas) points (suc place) area e = next_item areas points place area e

pub next_area : (areas : List Area) (points : List Point) (place : ℕ) (area : Area) → slice_get areas place ≡ Some area → areas_at (drop place areas) points ≡ cond (touches points area) 1 0 + 2 * areas_at (drop (place + 1) areas) points
unfolding areas_at
next_area areas points place area e = rw (add-one place) (next_item areas points place area e)

pub rest_is_small : (areas : List Area) (points : List Point) (place : ℕ) → length areas ≤ 50 → areas_at (drop place areas) points < 1125899906842624
unfolding areas_at
rest_is_small areas points place few =
    word_is_small (map (touches points) (drop place areas)) (rw (length-map (drop place areas) (touches points), length-drop place areas) (omega arith))
