-- White space (RFC 8259, section 2: space, tab, line feed, carriage return) means nothing.
use Rattle.std.specs.Prelude.{◌≡◌, ℕ, ◌⊎◌, List, [], ◌∷◌, ◌++◌, Ok, map, codes}
use Rattle.exact_json.specs.declared.value.Json.{Json}
use Rattle.exact_json.specs.Values.{reads}

-- each of these bytes is a space, a tab, a line feed or a carriage return
abbrev pub IsSpace : List ℕ → Type 0
IsSpace [] = Unit {0}
IsSpace (b ∷ bytes) = ((b ≡ 32) ⊎ ((b ≡ 9) ⊎ ((b ≡ 10) ⊎ (b ≡ 13)))) × IsSpace bytes

-- texts, each with one that has white space wherever it may stand
abbrev pub spaced_texts : List (List ℕ × List ℕ)
spaced_texts =
    (codes "[1,2]", 32 ∷ codes "[" ++ 9 ∷ codes "1" ++ 10 ∷ codes "," ++ 13 ∷ codes "2" ++ 32 ∷ codes "]" ++ 10 ∷ []) ∷
    (codes "[]", codes "[" ++ 13 ∷ 10 ∷ codes "]" ++ 9 ∷ []) ∷
    (codes "{}", codes "{" ++ 32 ∷ 9 ∷ codes "}" ++ 13 ∷ []) ∷
    (codes "{\"a\":1,\"b\":[true]}", codes "{" ++ 10 ∷ codes "\"a\"" ++ 9 ∷ codes ":" ++ 13 ∷ codes "1" ++ 32 ∷ codes "," ++ 10 ∷ codes "\"b\"" ++ 32 ∷ codes ":" ++ 9 ∷ codes "[" ++ 32 ∷ codes "true" ++ 13 ∷ codes "]" ++ 10 ∷ codes "}" ++ 32 ∷ []) ∷ []

pub record SpaceMeansNothing : Type 0 where
  pub before : (space text : List ℕ) (v : Json) → IsSpace space → reads text ≡ Ok v → reads (space ++ text) ≡ Ok v
  pub anywhere : map (λ (t : List ℕ × List ℕ). reads t.1) spaced_texts ≡ map (λ (t : List ℕ × List ℕ). reads t.0) spaced_texts
