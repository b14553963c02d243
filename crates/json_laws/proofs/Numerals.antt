-- Numbers are read in each of their forms.
use Rattle.std.proofs.Common.{◌≡◌, ◌∙◌, ap, ℕ, ◌≤◌, Bool, true, false, eqb, ltb, List, [], ◌∷◌, ◌++◌, length, Some, Ok, inl, inr, ◌⊎◌, refl, append_assoc, arith}
use Rattle.std.specs.Char.{is_ascii_digit}
use Rattle.std.proofs.Math.Seq.{take-append_seam, drop-append_seam}
use Rattle.std.proofs.lemmas.Bool.Decides.{nat_tests}
use Rattle.exact_json.specs.Decimals.{DecimalValue, decimal_of}
use Rattle.exact_json.specs.Numbers.{digits, whole, fraction, letter, minus, exponent, number}
use Rattle.exact_json.specs.Parsing.{sees, after}
use Rattle.exact_json.proofs.Runs.{AllPass, EndsRun, run_len}
use Rattle.json_laws.specs.Grammar.{AreDigits, AreSome, IsWhole, IsFraction, IsLetter, IsSign, IsPower, IsExponent, IsNumeral}
use Rattle.json_laws.specs.Grammar as spec

-- what may follow a value: nothing, a comma, a closing bracket or white space
abbrev pub Ends : List ℕ → Type 0
Ends [] = Unit {0}
Ends (b ∷ bytes) = (b ≡ 44) ⊎ ((b ≡ 93) ⊎ ((b ≡ 125) ⊎ ((b ≡ 32) ⊎ ((b ≡ 9) ⊎ ((b ≡ 10) ⊎ (b ≡ 13))))))

-- none of these bytes goes on with a number
pub record GoesOnNot (b : ℕ) : Type 0 where
  pub digit : is_ascii_digit b ≡ false
  pub point : eqb b 46 ≡ false
  pub small : eqb b 101 ≡ false
  pub capital : eqb b 69 ≡ false

goes_on_not : (b : ℕ) (bytes : List ℕ) → Ends (b ∷ bytes) → GoesOnNot b
goes_on_not b bytes (inl e) = record { digit = rw e refl; point = rw e refl; small = rw e refl; capital = rw e refl }
goes_on_not b bytes (inr (inl e)) = record { digit = rw e refl; point = rw e refl; small = rw e refl; capital = rw e refl }
goes_on_not b bytes (inr (inr (inl e))) = record { digit = rw e refl; point = rw e refl; small = rw e refl; capital = rw e refl }
goes_on_not b bytes (inr (inr (inr (inl e)))) = record { digit = rw e refl; point = rw e refl; small = rw e refl; capital = rw e refl }
goes_on_not b bytes (inr (inr (inr (inr (inl e))))) = record { digit = rw e refl; point = rw e refl; small = rw e refl; capital = rw e refl }
goes_on_not b bytes (inr (inr (inr (inr (inr (inl e)))))) = record { digit = rw e refl; point = rw e refl; small = rw e refl; capital = rw e refl }
goes_on_not b bytes (inr (inr (inr (inr (inr (inr e)))))) = record { digit = rw e refl; point = rw e refl; small = rw e refl; capital = rw e refl }

-- behind these bytes digits end
abbrev NoDigit : List ℕ → Type 0
NoDigit [] = Unit {0}
NoDigit (b ∷ bytes) = is_ascii_digit b ≡ false

all_pass : (ds : List ℕ) → AreDigits ds → AllPass is_ascii_digit ds
all_pass [] h = tt
all_pass (d ∷ ds) h = (h.0, all_pass ds h.1)

ends_run : (rest : List ℕ) → NoDigit rest → EndsRun is_ascii_digit rest
ends_run [] h = tt
ends_run (b ∷ rest) h = h

digits_over : (ds rest : List ℕ) → AreSome ds → NoDigit rest → digits (ds ++ rest) ≡ Ok (ds, rest)
unfolding digits
digits_over [] rest h e = absurd h
digits_over (d ∷ ds) rest h e =
    let some : ltb 0 (length (d ∷ ds)) ≡ true = grind (arith, nat_tests) in
    rw (run_len is_ascii_digit (d ∷ ds) rest (all_pass (d ∷ ds) h) (ends_run rest e), take-append_seam (d ∷ ds) rest, drop-append_seam (d ∷ ds) rest, some) refl

whole_over : (ds rest : List ℕ) → IsWhole ds → NoDigit rest → whole (ds ++ rest) ≡ Ok (ds, rest)
unfolding whole
whole_over ds rest (inl e) none = rw e refl
whole_over ds rest (inr (b, bytes, e, h)) none =
    let other : eqb b 48 ≡ false = let l = h.0 in grind (arith, nat_tests) in
    let digit : spec.is_digit b ≡ true = let l = h.0 in let k = h.1.0 in grind (arith, nat_tests) in
    rw (e, other) (digits_over (b ∷ bytes) rest (digit, h.1.1) none)

-- the last part, and what may follow
abbrev AtPoint : List ℕ → Type 0
AtPoint [] = Unit {0}
AtPoint (b ∷ bytes) = eqb b 46 ≡ false

fraction_over : (ds text rest : List ℕ) → IsFraction ds text → NoDigit rest → AtPoint rest → fraction (text ++ rest) ≡ Ok (ds, rest)
unfolding fraction
fraction_over ds text [] (inl h) none at = let a = h.0 in let b = h.1 in rw (a, b) refl
fraction_over ds text (c ∷ rest) (inl h) none at = let a = h.0 in let b = h.1 in rw (a, b, at) refl
fraction_over ds text rest (inr h) none at = let e = h.1 in rw e (digits_over ds rest h.0 none)

signed_over : (down : Bool) (sign ds rest : List ℕ) → IsSign down sign → AreSome ds → NoDigit rest → (minus (sign ++ (ds ++ rest)) ≡ Ok (down, ds ++ rest))
unfolding minus
signed_over true sign ds rest e some none = rw e refl
signed_over false sign ds rest (inr e) some none = rw e refl
signed_over false sign [] rest (inl e) some none = absurd some
signed_over false sign (d ∷ ds) rest (inl e) some none =
    let digit : spec.is_digit d ≡ true = some.0 in
    let no_minus : eqb d 45 ≡ false = grind (arith, nat_tests) in
    let no_plus : eqb d 43 ≡ false = grind (arith, nat_tests) in
    rw (e, no_minus, no_plus) refl

power_over : (down : Bool) (ds text rest : List ℕ) → IsPower down ds text → NoDigit rest → exponent (text ++ rest) ≡ Ok ((down, ds), rest)
unfolding exponent letter
power_over down ds text rest p none = by p.is_letter
  where
    shape : text ++ rest ≡ p.letter ∷ (p.sign ++ (ds ++ rest))
    shape = let e = p.text_is in rw e (ap (λ (s : List ℕ). p.letter ∷ s) (append_assoc p.sign ds rest))

    by : IsLetter p.letter → exponent (text ++ rest) ≡ Ok ((down, ds), rest)
    by (inl e) = rw (shape, e, signed_over down p.sign ds rest p.is_sign p.some none, digits_over ds rest p.some none) refl
    by (inr e) = rw (shape, e, signed_over down p.sign ds rest p.is_sign p.some none, digits_over ds rest p.some none) refl

exponent_over : (down : Bool) (ds text rest : List ℕ) → IsExponent down ds text → Ends rest → exponent (text ++ rest) ≡ Ok ((down, ds), rest)
unfolding exponent letter
exponent_over down ds text [] (inl (a, (b, c))) ends = rw (a, b, c) refl
exponent_over down ds text (x ∷ rest) (inl (a, (b, c))) ends =
    let g = goes_on_not x rest ends in
    let s = g.small in
    let k = g.capital in
    rw (a, b, c, s, k) refl
exponent_over down ds text [] (inr p) ends = power_over down ds text [] p tt
exponent_over down ds text (x ∷ rest) (inr p) ends = power_over down ds text (x ∷ rest) p (goes_on_not x rest ends).digit

-- what stands behind the digits and behind the fraction goes on with neither
record Fits (text : List ℕ) : Type 0 where
  none : NoDigit text
  at : AtPoint text

fits_end : (rest : List ℕ) → Ends rest → Fits rest
fits_end [] ends = record { none = tt; at = tt }
fits_end (b ∷ rest) ends = let g = goes_on_not b rest ends in record { none = g.digit; at = g.point }

fits_exponent : (down : Bool) (ds text rest : List ℕ) → IsExponent down ds text → Ends rest → Fits (text ++ rest)
fits_exponent down ds text rest (inl (a, (b, c))) ends = rw c (fits_end rest ends)
fits_exponent down ds text rest (inr p) ends = let e = p.text_is in rw e (by p.letter p.is_letter)
  where
    by : (b : ℕ) → IsLetter b → Fits (b ∷ ((p.sign ++ ds) ++ rest))
    by b (inl e) = rw e (record { none = refl; at = refl })
    by b (inr e) = rw e (record { none = refl; at = refl })

fits_fraction : (ds text rest : List ℕ) → IsFraction ds text → Fits rest → NoDigit (text ++ rest)
fits_fraction ds text rest (inl h) fits = let e = h.1 in rw e fits.none
fits_fraction ds text rest (inr h) fits = let e = h.1 in rw e refl

-- a whole begins with a digit
no_minus : (ds rest : List ℕ) → IsWhole ds → (sees 45 (ds ++ rest) ≡ false) × (after 45 (ds ++ rest) ≡ ds ++ rest)
no_minus ds rest (inl e) = rw e (refl, refl)
no_minus ds rest (inr (b, bytes, e, h)) =
    let other : eqb b 45 ≡ false = let l = h.0 in grind (arith, nat_tests) in
    rw (e, other) (refl, refl)

signed_number : (negative : Bool) (d : DecimalValue) (ds fs es m l rest : List ℕ) (down : Bool) → IsWhole ds → IsFraction fs m → IsExponent down es l → decimal_of negative ds fs down es ≡ Some d → Ends rest
    → number (spec.minus negative ++ (ds ++ (m ++ (l ++ rest)))) ≡ Ok (d, rest)
unfolding number
signed_number true d ds fs es m l rest down w f e made ends =
    let fits = fits_exponent down es l rest e ends in
    rw (whole_over ds (m ++ (l ++ rest)) w (fits_fraction fs m (l ++ rest) f fits), fraction_over fs m (l ++ rest) f fits.none fits.at, exponent_over down es l rest e ends, made) refl
signed_number false d ds fs es m l rest down w f e made ends =
    let fits = fits_exponent down es l rest e ends in
    let n = no_minus ds (m ++ (l ++ rest)) w in
    rw (n.0, n.1, whole_over ds (m ++ (l ++ rest)) w (fits_fraction fs m (l ++ rest) f fits), fraction_over fs m (l ++ rest) f fits.none fits.at, exponent_over down es l rest e ends, made) refl

shape : (a b c e rest : List ℕ) → (a ++ (b ++ (c ++ e))) ++ rest ≡ a ++ (b ++ (c ++ (e ++ rest)))
shape a b c e rest = append_assoc a (b ++ (c ++ e)) rest ∙ ap (λ (s : List ℕ). a ++ s) (append_assoc b (c ++ e) rest ∙ ap (λ (s : List ℕ). b ++ s) (append_assoc c e rest))

pub numeral_read : (d : DecimalValue) (text rest : List ℕ) → IsNumeral d text → Ends rest → number (text ++ rest) ≡ Ok (d, rest)
numeral_read d text rest h ends =
    let e = h.text_is in
    rw (e, shape (spec.minus h.negative) h.whole h.middle h.last rest) (signed_number h.negative d h.whole h.fraction h.exponent h.middle h.last rest h.down h.is_whole h.is_fraction h.is_exponent h.worth ends)

-- a number begins with a minus or a digit
abbrev pub Leads : List ℕ → Type 0
Leads text = (b : ℕ) × (bytes : List ℕ) × (text ≡ b ∷ bytes) × ((b ≡ 45) ⊎ ((48 ≤ b) × (b ≤ 57)))

whole_leads : (ds rest : List ℕ) → IsWhole ds → Leads (ds ++ rest)
whole_leads ds rest (inl e) = (48, rest, ap (λ (s : List ℕ). s ++ rest) e, inr (omega arith, omega arith))
whole_leads ds rest (inr (b, bytes, e, h)) = let low = h.0 in (b, bytes ++ rest, ap (λ (s : List ℕ). s ++ rest) e, inr (omega arith, h.1.0))

sign_leads : (negative : Bool) (ds rest : List ℕ) → IsWhole ds → Leads (spec.minus negative ++ (ds ++ rest))
sign_leads true ds rest w = (45, ds ++ rest, refl, inl refl)
sign_leads false ds rest w = whole_leads ds rest w

pub numeral_leads : (d : DecimalValue) (text rest : List ℕ) → IsNumeral d text → Leads (text ++ rest)
numeral_leads d text rest h =
    let e = h.text_is in
    rw (e, shape (spec.minus h.negative) h.whole h.middle h.last rest) (sign_leads h.negative h.whole (h.middle ++ (h.last ++ rest)) h.is_whole)
