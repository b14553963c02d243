-- Printed keys and values are read again.
use Rattle.std.proofs.Common.{◌≡◌, ℕ, zero, suc, ◌<◌, List, [], ◌∷◌, ◌++◌, Bool, true, false, cond, ◌&&◌, ◌||◌, eqb, Result, Ok, Err, encode_utf8, refl, ap, arith, append_assoc}
use Rattle.std.specs.Prelude.{nat_lt}
use Rattle.std.specs.Fmt.{digits}
use Rattle.std.specs.List.{onto_first, list_all}
use Rattle.std.proofs.lemmas.Bool.{eqb-true, ne_eqb}
use Rattle.std.proofs.lemmas.Bool.Decides.{nat_tests}
use Rattle.std.proofs.lemmas.List.Splits.{slice_split-cons_no, slice_split-cons_yes}
use Rattle.std.proofs.lemmas.Str.{encode_ascii}
use Rattle.gh_base.specs.declared.kinds.PlainKind.{PlainKind}
use Rattle.gh_base.specs.Parts.{parts_of}
use Rattle.plain_map.specs.Escapes.{scalar_at, unescaped, text_at, ◌>>=◌}
use Rattle.plain_map.specs.Printing.{is_escaped, escape, escaped}
use Rattle.plain_map.proofs.Splits.{Each, each_append, each_more, IsClean, Without, cut_at}

all_to : ℕ → (ℕ → Bool) → Bool
all_to zero test = true
all_to (suc n) test = test n && all_to n test

both : (x y : Bool) → (x && y) ≡ true → (x ≡ true) × (y ≡ true)
both true true e = (refl, refl)
both true false e = cc
both false y e = cc

at_or_below : (t : Bool) (n b : ℕ) (test : ℕ → Bool) → eqb b n ≡ t → (test n ≡ true) × (all_to n test ≡ true) → b < suc n → (all_to n test ≡ true → b < n → test b ≡ true) → test b ≡ true
at_or_below true n b test e h lt f = let same : b ≡ n = eqb-true b n e in rw same h.0
at_or_below false n b test e h lt f = let less : b < n = grind (arith, nat_tests) in f h.1 less

all_to_at : (n : ℕ) (test : ℕ → Bool) (b : ℕ) → all_to n test ≡ true → b < n → test b ≡ true
unfolding all_to
all_to_at zero test b h lt = absurd (omega arith)
all_to_at (suc n) test b h lt = at_or_below (eqb b n) n b test refl (both (test n) (all_to n test) h) lt (all_to_at n test b)

names : Result ℕ PlainKind → ℕ → Bool
names (Ok c) b = eqb c b
names (Err kind) b = false

named : (r : Result ℕ PlainKind) (b : ℕ) → names r b ≡ true → r ≡ Ok b
unfolding names
named (Ok c) b h = ap Ok (eqb-true c b h)
named (Err kind) b h = cc

hex_names : ℕ → Bool
hex_names b = names (scalar_at (digits 16 false b)) b

hex_table : all_to 128 hex_names ≡ true
unfolding all_to hex_names names scalar_at digits
hex_table = refl

is_hex : ℕ → Bool
is_hex d = nat_lt 47 d && nat_lt d 58 || nat_lt 96 d && nat_lt d 103

hex_digits : ℕ → Bool
hex_digits b = list_all is_hex (digits 16 false b)

digits_table : all_to 128 hex_digits ≡ true
unfolding all_to hex_digits is_hex digits
digits_table = refl

pub hex_again : (b : ℕ) → b < 128 → scalar_at (digits 16 false b) ≡ Ok b
unfolding hex_names
hex_again b h = named (scalar_at (digits 16 false b)) b (all_to_at 128 hex_names b hex_table h)

each_passed : (test : ℕ → Bool) (bytes : List ℕ) → list_all test bytes ≡ true → Each (λ b. test b ≡ true) bytes
each_passed test [] h = tt
each_passed test (b ∷ bytes) h = let k = both (test b) (list_all test bytes) h in (k.0, each_passed test bytes k.1)

-- a hexadecimal digit is a letter from a to f, or a decimal one
pub record IsHex (d : ℕ) : Type 0 where
  pub low : 47 < d
  pub high : d < 103
  pub letter : 57 < d → 96 < d

hex_of : (d : ℕ) → is_hex d ≡ true → IsHex d
unfolding is_hex
hex_of d h = record { low = grind (arith, nat_tests); high = grind (arith, nat_tests); letter = λ k. grind (arith, nat_tests) }

pub hex_each : (b : ℕ) → b < 128 → Each IsHex (digits 16 false b)
unfolding hex_digits
hex_each b h = each_more _ _ hex_of (digits 16 false b) (each_passed is_hex (digits 16 false b) (all_to_at 128 hex_digits b digits_table h))

hex_without_percent : (b : ℕ) → b < 128 → Without 37 (digits 16 false b)
hex_without_percent b h = each_more _ _ (λ d k. ne_eqb d 37 (λ e. omega (arith, k.low))) (digits 16 false b) (hex_each b h)

onto_code : (b : ℕ) (p : List ℕ) (c : Result ℕ PlainKind) (rest : Result (List ℕ) PlainKind) (t : List ℕ) → (c >>= λ n. rest >>= λ r. Ok (p ++ (encode_utf8 n ++ r))) ≡ Ok t → (c >>= λ n. rest >>= λ r. Ok ((b ∷ p) ++ (encode_utf8 n ++ r))) ≡ Ok (b ∷ t)
onto_code b p (Ok n) (Ok r) t h = let e : p ++ (encode_utf8 n ++ r) ≡ t = cc in rw e refl
onto_code b p (Ok n) (Err k) t h = cc
onto_code b p (Err k) rest t h = cc

-- a byte before text
onto_more : (b : ℕ) (parts : List (List ℕ)) (t : List ℕ) → unescaped parts ≡ Ok t → unescaped (onto_first b parts) ≡ Ok (b ∷ t)
onto_more b [] t h = cc
onto_more b (p ∷ []) t h = let e : p ≡ t = cc in rw e refl
onto_more b (p ∷ code ∷ more) t h = onto_code b p (scalar_at code) (unescaped more) t h

-- a code before text
code_more : (b : ℕ) (parts : List (List ℕ)) (t : List ℕ) → b < 128 → unescaped parts ≡ Ok t → unescaped ([] ∷ digits 16 false b ∷ parts) ≡ Ok (b ∷ t)
code_more b parts t lt h = rw (hex_again b lt, h, encode_ascii b lt) refl

escaped_low : (b : ℕ) → is_escaped b ≡ true → b < 128
escaped_low b h = grind (arith, nat_tests)

step : (t : Bool) (b : ℕ) (bytes : List ℕ) → is_escaped b ≡ t → unescaped (parts_of 37 (escaped bytes)) ≡ Ok bytes → unescaped (parts_of 37 (cond t (37 ∷ digits 16 false b ++ 37 ∷ []) (b ∷ []) ++ escaped bytes)) ≡ Ok (b ∷ bytes)
step true b bytes e h =
    let low = escaped_low b e in
    let first = slice_split-cons_yes (λ c. eqb c 37) 37 ((digits 16 false b ++ 37 ∷ []) ++ escaped bytes) refl in
    rw (first, append_assoc (digits 16 false b) (37 ∷ []) (escaped bytes), cut_at 37 (digits 16 false b) (escaped bytes) (hex_without_percent b low)) (code_more b (parts_of 37 (escaped bytes)) bytes low h)
step false b bytes e h =
    let plain : eqb b 37 ≡ false = grind (arith, nat_tests) in
    rw (slice_split-cons_no (λ c. eqb c 37) b (escaped bytes) plain) (onto_more b (parts_of 37 (escaped bytes)) bytes h)

all_again : (bytes : List ℕ) → unescaped (parts_of 37 (escaped bytes)) ≡ Ok bytes
all_again [] = refl
all_again (b ∷ bytes) = step (is_escaped b) b bytes refl (all_again bytes)

pub text_again : (bytes : List ℕ) → text_at (escaped bytes) ≡ Ok bytes
unfolding text_at
text_again bytes = all_again bytes

clean_byte : (t : Bool) (b : ℕ) → is_escaped b ≡ t → Each IsClean (cond t (37 ∷ digits 16 false b ++ 37 ∷ []) (b ∷ []))
clean_byte true b e =
    let percent : IsClean 37 = record { above = omega arith; comma = λ q. omega arith; equals = λ q. omega arith } in
    let hex = each_more IsHex IsClean (λ d k. record { above = omega (arith, k.low); comma = λ q. omega (arith, k.low); equals = λ q. omega (arith, k.letter, k.low) }) (digits 16 false b) (hex_each b (escaped_low b e)) in
    (percent, each_append IsClean (digits 16 false b) (37 ∷ []) hex (percent, tt))
clean_byte false b e = (record { above = grind (arith, nat_tests); comma = λ q. grind (arith, nat_tests); equals = λ q. grind (arith, nat_tests) }, tt)

-- what is escaped holds no newline, space, comma or equals sign
pub escaped_clean : (bytes : List ℕ) → Each IsClean (escaped bytes)
escaped_clean [] = tt
escaped_clean (b ∷ bytes) = each_append IsClean (escape b) (escaped bytes) (clean_byte (is_escaped b) b refl) (escaped_clean bytes)

ascii_byte : (t : Bool) (b : ℕ) → is_escaped b ≡ t → b < 128 → Each (λ c. c < 128) (cond t (37 ∷ digits 16 false b ++ 37 ∷ []) (b ∷ []))
ascii_byte true b e h =
    let hex = each_more IsHex (λ c. c < 128) (λ d k. omega (arith, k.high)) (digits 16 false b) (hex_each b h) in
    (omega arith, each_append (λ c. c < 128) (digits 16 false b) (37 ∷ []) hex (omega arith, tt))
ascii_byte false b e h = (h, tt)

pub escaped_ascii : (bytes : List ℕ) → Each (λ b. b < 128) bytes → Each (λ b. b < 128) (escaped bytes)
escaped_ascii [] h = tt
escaped_ascii (b ∷ bytes) h = each_append (λ c. c < 128) (escape b) (escaped bytes) (ascii_byte (is_escaped b) b refl h.0) (escaped_ascii bytes h.1)
