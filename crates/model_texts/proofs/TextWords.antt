-- Bytes that are no text are no word.
use Rattle.std.proofs.Common.{◌≡◌, ℕ, ◌<◌, Bool, true, false, List, [], ◌∷◌, Some, None, cond, refl, subst, arith, rules}
use Rattle.std.specs.Prelude.{◌==◌, ◌&&◌, bytes_eq, length, nat_lt, All}
use Rattle.std.specs.List.{position_or_len}
use Rattle.std.specs.Str.Lossy.{utf8_valid_len}
use Rattle.std.specs.Str.{IsAscii}
use Rattle.std.proofs.lemmas.Str.{IsUtf8-from_ascii, utf8_valid_len-IsUtf8}
use Rattle.std.proofs.lemmas.Str.Ascii.{IsAscii-from_all}
use Rattle.std.proofs.lemmas.Slice.Eq.{bytes_eq-Decides}
use Rattle.std.proofs.lemmas.Bool.{eq-eqb}
use Rattle.std.proofs.lemmas.Bool.Decides.{nat_tests}
use Rattle.encoded_values.specs.Words.{road_classes, surfaces, tolls, place_in}

abbrev is_text : List ℕ → Bool
is_text s = utf8_valid_len s == length s

-- all bytes are ASCII
abbrev all_low : List ℕ → Bool
all_low [] = true
all_low (b ∷ bytes) = nat_lt b 128 && all_low bytes

abbrev are_low : List (List ℕ) → Bool
are_low [] = true
are_low (w ∷ ws) = all_low w && are_low ws

both : (a b : Bool) → (a && b) ≡ true → (a ≡ true) × (b ≡ true)
both true b e = (refl, e)
both false b e = cc

below : (b : ℕ) → nat_lt b 128 ≡ true → b < 128
below b e = grind (arith, nat_tests)

each_low : (s : List ℕ) → all_low s ≡ true → All (λ b. b < 128) s
each_low [] e = search rules
each_low (b ∷ bytes) e =
    let p = both (nat_lt b 128) (all_low bytes) e in
    let rest = each_low bytes p.1 in
    let here = below b p.0 in
    search (rules, rest, here)

low_is : (s : List ℕ) → all_low s ≡ true → IsAscii s
low_is s e = IsAscii-from_all s (each_low s e)

text_is : (s : List ℕ) → all_low s ≡ true → is_text s ≡ true
text_is s e = eq-eqb (utf8_valid_len s) (length s) (utf8_valid_len-IsUtf8 s (IsUtf8-from_ascii s (low_is s e)))

same_is : (s w : List ℕ) → is_text s ≡ false → all_low w ≡ true → s ≡ w → ⊥
same_is s w bad good e = let P : List ℕ → Type 0 = λ x. is_text x ≡ false in let no : is_text w ≡ false = subst P e bad in let yes_ = text_is w good in cc

differ : (s w : List ℕ) → is_text s ≡ false → all_low w ≡ true → bytes_eq s w ≡ false
differ s w bad good = by (bytes_eq s w) (bytes_eq-Decides s w).0
  where
    by : (b : Bool) → (b ≡ true → s ≡ w) → b ≡ false
    by true f = absurd (same_is s w bad good (f refl))
    by false f = refl

none_is : (ws : List (List ℕ)) (s : List ℕ) → are_low ws ≡ true → is_text s ≡ false → position_or_len (bytes_eq s) ws ≡ length ws
none_is [] s good bad = refl
none_is (w ∷ ws) s good bad =
    let g = both (all_low w) (are_low ws) good in
    rw (differ s w bad g.0) (let e = none_is ws s g.1 bad in omega (arith, e))

no_word : (ws : List (List ℕ)) (s : List ℕ) → are_low ws ≡ true → is_text s ≡ false → place_in ws s ≡ None
no_word ws s good bad = rw (none_is ws s good bad) (past (length ws))
  where
    past : (n : ℕ) → cond (nat_lt n n) (Some n) None ≡ None
    past n = let e : nat_lt n n ≡ false = grind (arith, nat_tests) in rw e refl

pub no_toll : (s : List ℕ) → (utf8_valid_len s == length s) ≡ false → place_in tolls s ≡ None
no_toll s bad = no_word tolls s refl bad

pub no_surface : (s : List ℕ) → (utf8_valid_len s == length s) ≡ false → place_in surfaces s ≡ None
no_surface s bad = no_word surfaces s refl bad

pub no_road_class : (s : List ℕ) → (utf8_valid_len s == length s) ≡ false → place_in road_classes s ≡ None
no_road_class s bad = no_word road_classes s refl bad
