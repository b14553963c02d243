-- Characters are read as themselves and from their escapes.
use Rattle.std.proofs.Common.{◌≡◌, ◌≢◌, ◌∙◌, ℕ, suc, ◌+◌, ◌*◌, ◌^◌, ◌<◌, ◌≤◌, ◌⊎◌, inl, inr, List, [], ◌∷◌, ◌++◌, length, Bool, true, false, ◌&&◌, ◌||◌, eqb, ltb, leb, Some, Ok, encode_utf8, refl, ap, subst, arith}
use Rattle.std.specs.Char.{digit_value}
use Rattle.std.proofs.Math.Nat.{pow-succ'}
use Rattle.std.proofs.lemmas.Bool.{ne_eqb}
use Rattle.std.proofs.lemmas.Bool.Decides.{nat_tests}
use Rattle.gh_base.specs.Parts.{parts_of}
use Rattle.plain_map.specs.Escapes.{hex_from, is_scalar, scalar_at, text_at}
use Rattle.plain_map.proofs.Splits.{Without, cut_at, cut_end}
use Rattle.plain_laws.specs.Characters.{HasNoPercent, AreHex, hex_worth, IsCharacter, CharactersMayBeEscaped}

whole : (bytes : List ℕ) → HasNoPercent bytes → Without 37 bytes
whole [] h = tt
whole (b ∷ bytes) h = (ne_eqb b 37 h.0, whole bytes h.1)

digits_whole : (digits : List ℕ) → AreHex digits → Without 37 digits
digits_whole [] h = tt
digits_whole (d ∷ digits) h = (ne_eqb d 37 (λ e. let percent = subst (λ (b : ℕ). digit_value b < 16) e h.0 in omega (arith, percent)), digits_whole digits h.1)

spread : (m q c r : ℕ) → (16 * m + q) * c + r ≡ m * (16 * c) + (q * c + r)
spread m q c r = grind arith

hex_value : (n : ℕ) (digits : List ℕ) → AreHex digits → hex_from n digits ≡ Some (n * 16 ^ length digits + hex_worth digits)
hex_value n [] h = ap Some (omega arith)
hex_value n (d ∷ digits) h =
    let test : ltb (digit_value d) 16 ≡ true = grind (arith, nat_tests, h.0) in
    let power : 16 ^ suc (length digits) ≡ 16 * 16 ^ length digits = pow-succ' 16 (length digits) in
    rw (test, power) (hex_value (16 * n + digit_value d) digits h.1 ∙ ap Some (spread n (digit_value d) (16 ^ length digits) (hex_worth digits)))

scalar : (c : ℕ) → IsCharacter c → is_scalar c ≡ true
scalar c (inl small) = let one : ltb c 55296 ≡ true = grind (arith, nat_tests) in rw one refl
scalar c (inr large) =
    let one : ltb c 55296 ≡ false = let l = large.0 in grind (arith, nat_tests) in
    let two : leb 57344 c ≡ true = let l = large.0 in grind (arith, nat_tests) in
    let three : ltb c 1114112 ≡ true = let l = large.1 in grind (arith, nat_tests) in
    rw (one, two, three) refl

scalar_read : (digits : List ℕ) → AreHex digits → 0 < length digits → length digits ≤ 6 → IsCharacter (hex_worth digits) → scalar_at digits ≡ Ok (hex_worth digits)
unfolding scalar_at
scalar_read digits hex some few c =
    let one : ltb 0 (length digits) ≡ true = grind (arith, nat_tests) in
    let two : leb (length digits) 6 ≡ true = grind (arith, nat_tests) in
    let value : hex_from 0 digits ≡ Some (hex_worth digits) = hex_value 0 digits hex ∙ ap Some (omega arith) in
    rw (one, two, value, scalar (hex_worth digits) c) refl

itself : (bytes : List ℕ) → HasNoPercent bytes → text_at bytes ≡ Ok bytes
unfolding text_at
itself bytes h = rw (cut_end 37 bytes (whole bytes h)) refl

escape : (front digits rest text : List ℕ) → HasNoPercent front → AreHex digits → 0 < length digits → length digits ≤ 6 → IsCharacter (hex_worth digits) → text_at rest ≡ Ok text →
    text_at (front ++ 37 ∷ (digits ++ 37 ∷ rest)) ≡ Ok (front ++ (encode_utf8 (hex_worth digits) ++ text))
unfolding text_at
escape front digits rest text h hex some few c e =
    rw (cut_at 37 front (digits ++ 37 ∷ rest) (whole front h), cut_at 37 digits rest (digits_whole digits hex), scalar_read digits hex some few c, e) refl

pub escaped_or_not : CharactersMayBeEscaped
escaped_or_not = record { itself = itself; escape = escape }
