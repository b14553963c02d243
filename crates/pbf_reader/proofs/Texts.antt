-- Bytes that are text, or not.
use Rattle.std.proofs.Common.{◌≡◌, ℕ, ◌<◌, List, length, Some, None, eqb, true, false, refl, arith, IsUtf8}
use Rattle.std.proofs.lemmas.Bool.{eq-eqb}
use Rattle.std.proofs.lemmas.Bool.Decides.{nat_tests}
use Rattle.std.specs.Str.{IsValidUpTo}
use Rattle.std.specs.Str.Lossy.{utf8_valid_len}
use Rattle.std.proofs.lemmas.Str.{utf8_valid_len-IsUtf8}
use Rattle.pbf_wire.specs.Blocks.{text_in}

pub valid_all : (bs : List ℕ) → IsUtf8 bs → Some bs ≡ text_in bs
valid_all bs h = let same : eqb (utf8_valid_len bs) (length bs) ≡ true = eq-eqb (utf8_valid_len bs) (length bs) (utf8_valid_len-IsUtf8 bs h) in rw same refl

-- what is cut before its end is not all text
pub not_same : (bs : List ℕ) (n : ℕ) → ¬ (IsUtf8 bs) → IsValidUpTo bs n → n ≡ utf8_valid_len bs → None ≡ text_in bs
not_same bs n bad valid e =
    let short : n < length bs = valid.short in
    let other : eqb (utf8_valid_len bs) (length bs) ≡ false = grind (arith, nat_tests) in
    rw other refl
