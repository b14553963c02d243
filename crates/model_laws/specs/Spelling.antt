-- Tokens of conditions and actions, with spaces between them (GraphHopper documentation, "Custom models"; the exact form
-- is this project's own).
use Rattle.std.specs.Prelude.{◌≡◌, ℕ, ◌⊎◌, Bool, true, false, ◌||◌, ◌&&◌, List, [], ◌∷◌, ◌++◌, ◌==◌, nat_le, replicate, Contains, codes}

-- a letter from a to z or from A to Z, or an underscore
abbrev pub is_letter : ℕ → Bool
is_letter b = (nat_le 97 b && nat_le b 122) || (nat_le 65 b && nat_le b 90) || b == 95

abbrev pub is_digit : ℕ → Bool
is_digit b = nat_le 48 b && nat_le b 57

-- each of these bytes passes
abbrev pub AllPass : (ℕ → Bool) → List ℕ → Type 0
AllPass passes [] = Unit {0}
AllPass passes (b ∷ bytes) = (passes b ≡ true) × AllPass passes bytes

-- the first of these bytes doesn't pass, if there is one
abbrev pub Ends : (ℕ → Bool) → List ℕ → Type 0
Ends passes [] = Unit {0}
Ends passes (b ∷ bytes) = passes b ≡ false

-- a run of letters, digits and underscores behind a letter or an underscore, as long as it can be
abbrev pub IsWord : List ℕ → List ℕ → Type 0
IsWord [] rest = ⊥
IsWord (b ∷ bytes) rest = (is_letter b ≡ true) × (AllPass (λ c. is_letter c || is_digit c) bytes × Ends (λ c. is_letter c || is_digit c) rest)

-- a run of digits and points behind a digit, as long as it can be
abbrev pub IsNumber : List ℕ → List ℕ → Type 0
IsNumber [] rest = ⊥
IsNumber (b ∷ bytes) rest = (is_digit b ≡ true) × (AllPass (λ c. is_digit c || c == 46) bytes × Ends (λ c. is_digit c || c == 46) rest)

-- two bytes that are one operator
abbrev pub pairs : List (List ℕ)
pairs = codes "==" ∷ codes "!=" ∷ codes "<=" ∷ codes ">=" ∷ codes "&&" ∷ codes "||" ∷ []

-- single bytes: those before which no byte makes an operator of two, and those that an equals sign goes on
abbrev pub singles : List (List ℕ)
singles = codes "(" ∷ codes ")" ∷ codes "*" ∷ []

abbrev pub before_equals : List (List ℕ)
before_equals = codes "<" ∷ codes ">" ∷ codes "!" ∷ []

-- one of these is a token, whatever follows
abbrev pub IsPair : List ℕ → Type 0
IsPair token = Contains pairs token ⊎ Contains singles token

-- one of these is a token where no equals sign follows
abbrev pub IsSingle : List ℕ → List ℕ → Type 0
IsSingle token rest = Contains before_equals token × Ends (λ c. c == 61) rest

-- a token, where these bytes follow
abbrev pub IsToken : List ℕ → List ℕ → Type 0
IsToken token rest = IsWord token rest ⊎ (IsNumber token rest ⊎ (IsPair token ⊎ IsSingle token rest))

-- a text is these tokens in order, with any number of spaces before each and behind the last
abbrev pub IsSpelled : List (List ℕ) → List ℕ → Type 0
IsSpelled [] text = (n : ℕ) × (text ≡ replicate n 32)
IsSpelled (token ∷ tokens) text = (n : ℕ) × (rest : List ℕ) × (text ≡ replicate n 32 ++ (token ++ rest)) × (IsToken token rest × IsSpelled tokens rest)
