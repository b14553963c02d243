-- White space means nothing.
use Rattle.std.proofs.Common.{◌≡◌, ℕ, inl, inr, List, [], ◌∷◌, ◌++◌, length, map, Result, Ok, Err, refl}
use Rattle.std.specs.Str.Lossy.{utf8_valid_len}
use Rattle.std.specs.Str.{is_utf8, chars}
use lib.Utf8.{encode}
use Rattle.gh_base.specs.declared.kinds.JsonKind.{JsonKind}
use Rattle.exact_json.specs.declared.value.Json.{Json}
use Rattle.exact_json.specs.Tokens.{after_space}
use Rattle.exact_json.specs.Decimals.{below, exponent_of, decimal_of}
use Rattle.exact_json.specs.Numbers.{digits, whole, fraction, letter, minus, exponent, number}
use Rattle.exact_json.specs.Texts.{plain, four, low, unicode, escape, text}
use Rattle.exact_json.specs.Values.{items, array, member, members, object, numeral, value_at, at_end, by_byte, reads}
use Rattle.json_laws.specs.Spacing.{IsSpace, spaced_texts, SpaceMeansNothing}

skipped : (space text : List ℕ) → IsSpace space → after_space (space ++ text) ≡ after_space text
skipped [] text h = refl
skipped (b ∷ space) text (inl e, h) = rw e (skipped space text h)
skipped (b ∷ space) text (inr (inl e), h) = rw e (skipped space text h)
skipped (b ∷ space) text (inr (inr (inl e)), h) = rw e (skipped space text h)
skipped (b ∷ space) text (inr (inr (inr e)), h) = rw e (skipped space text h)

by_any : (n m : ℕ) (r : Result Json (ℕ × JsonKind)) (v : Json) → by_byte n r ≡ Ok v → by_byte m r ≡ Ok v
by_any n m (Ok w) v h = h
by_any n m (Err e) v h = cc

before : (space text : List ℕ) (v : Json) → IsSpace space → reads text ≡ Ok v → reads (space ++ text) ≡ Ok v
unfolding reads
before space text v h e = rw (skipped space text h) (by_any (length text) (length (space ++ text)) (at_end (value_at 64 (after_space text))) v e)

anywhere : map (λ (t : List ℕ × List ℕ). reads t.1) spaced_texts ≡ map (λ (t : List ℕ × List ℕ). reads t.0) spaced_texts
unfolding reads value_at items array member members object numeral number digits whole fraction letter minus exponent plain four low unicode escape text below exponent_of decimal_of utf8_valid_len is_utf8 chars encode
anywhere = refl

pub nothing_of_space : SpaceMeansNothing
nothing_of_space = record { before = before; anywhere = anywhere }
