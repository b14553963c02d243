-- Escapes are read as their characters.
use Rattle.std.proofs.Common.{◌≡◌, ℕ, suc, zero, ◌+◌, ◌*◌, ◌<◌, ◌≤◌, ◌⊎◌, inl, inr, List, [], ◌∷◌, ◌++◌, length, get_or, true, false, ltb, leb, Ok, refl, ap, subst, arith}
use Rattle.std.proofs.lemmas.Bool.Decides.{nat_tests}
use Rattle.exact_json.specs.Texts.{escape, unicode, four, low, hex}
use Rattle.json_laws.specs.Escaping.{Named, named_escapes, NamedEscapesAreRead, IsHex, AreFour}

hex_read : (n digit worth : ℕ) (rest : List ℕ) → IsHex digit worth → hex n (digit ∷ rest) ≡ Ok (16 * n + worth, rest)
hex_read n digit worth rest h = let test : ltb worth 16 ≡ true = grind (arith, nat_tests, h.1) in rw (h.0, test) refl

four_read : (a b c d number : ℕ) (rest : List ℕ) → AreFour a b c d number → four (a ∷ b ∷ c ∷ d ∷ rest) ≡ Ok (number, rest)
unfolding four
four_read a b c d number rest h =
    rw (hex_read 0 a h.first (b ∷ c ∷ d ∷ rest) h.digits.0, hex_read (16 * 0 + h.first) b h.second (c ∷ d ∷ rest) h.digits.1.0, hex_read (16 * (16 * 0 + h.first) + h.second) c h.third (d ∷ rest) h.digits.1.1.0, hex_read (16 * (16 * (16 * 0 + h.first) + h.second) + h.third) d h.fourth rest h.digits.1.1.1)
    (ap (λ (n : ℕ). Ok (n, rest)) (omega (arith, h.number_is)))

pub unicode_read : (start a b c d number : ℕ) (rest : List ℕ) → AreFour a b c d number → (number < 55296) ⊎ (57344 ≤ number) → escape start (117 ∷ a ∷ b ∷ c ∷ d ∷ rest) ≡ Ok (number, rest)
unfolding escape unicode
unicode_read start a b c d number rest h (inl small) =
    let one : leb 55296 number ≡ false = grind (arith, nat_tests) in
    let two : leb 56320 number ≡ false = grind (arith, nat_tests) in
    rw (four_read a b c d number rest h, one, two) refl
unicode_read start a b c d number rest h (inr large) =
    let one : leb 55296 number ≡ true = grind (arith, nat_tests) in
    let two : ltb number 56320 ≡ false = grind (arith, nat_tests) in
    let three : leb 56320 number ≡ true = grind (arith, nat_tests) in
    let four_more : ltb number 57344 ≡ false = grind (arith, nat_tests) in
    rw (four_read a b c d number rest h, one, two, three, four_more) refl

pub pair_read : (start a b c d e f g h high last : ℕ) (rest : List ℕ) → AreFour a b c d (55296 + high) → AreFour e f g h (56320 + last) → high < 1024 → last < 1024 →
    escape start (117 ∷ a ∷ b ∷ c ∷ d ∷ 92 ∷ 117 ∷ e ∷ f ∷ g ∷ h ∷ rest) ≡ Ok (65536 + (1024 * high + last), rest)
unfolding escape unicode low
pair_read start a b c d e f g h high last rest one two few few_too =
    let p : leb 55296 (55296 + high) ≡ true = grind (arith, nat_tests) in
    let q : ltb (55296 + high) 56320 ≡ true = grind (arith, nat_tests) in
    let r : leb 56320 (56320 + last) ≡ true = grind (arith, nat_tests) in
    let s : ltb (56320 + last) 57344 ≡ true = grind (arith, nat_tests) in
    rw (four_read a b c d (55296 + high) (92 ∷ 117 ∷ e ∷ f ∷ g ∷ h ∷ rest) one, p, q, four_read e f g h (56320 + last) rest two, r, s)
    (ap (λ (n : ℕ). Ok (n, rest)) (omega arith))

abbrev IsRead : Named → Type 0
IsRead e = (start : ℕ) (rest : List ℕ) → (escape start (e.letter ∷ rest) ≡ Ok (e.char, rest)) × (escape start (117 ∷ (e.four ++ rest)) ≡ Ok (e.char, rest))

abbrev AllAre : List Named → Type 0
AllAre [] = Unit {0}
AllAre (e ∷ es) = IsRead e × AllAre es

all_named : AllAre named_escapes
unfolding escape unicode four
all_named = (λ start rest. (refl, refl), (λ start rest. (refl, refl), (λ start rest. (refl, refl), (λ start rest. (refl, refl), (λ start rest. (refl, refl), (λ start rest. (refl, refl), (λ start rest. (refl, refl), (λ start rest. (refl, refl), tt))))))))

one_of : (es : List Named) (k : ℕ) → AllAre es → k < length es → (d : Named) → IsRead (get_or es k d)
one_of [] k h lt d = absurd (omega arith)
one_of (e ∷ es) zero h lt d = h.0
one_of (e ∷ es) (suc k) h lt d = one_of es k h.1 (omega arith) d

pub named_read : NamedEscapesAreRead
named_read start e rest c = (subst IsRead c.2 (one_of named_escapes c.0 all_named c.1 e)) start rest
