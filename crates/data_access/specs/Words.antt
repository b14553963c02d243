-- Words in segments.
use Rattle.std.specs.Prelude.{◌≡◌, ℕ, ◌≤◌, ◌^◌, List, length, All}
use Rattle.std.specs.List.{flat_map}

-- the words of all segments, one segment after another
abbrev pub words_in : List (List ℕ) → List ℕ
words_in segments = flat_map (λ words. words) segments

-- each word is 0
abbrev pub IsZero : List ℕ → Type 0
IsZero words = All (λ word. word ≡ 0) words

-- each segment is full, and they are few enough that a byte's place is a number of 64 bits
pub record AreSegments (segments : List (List ℕ)) : Type 0 where
  pub full : All (λ words. length words ≡ 262144) segments
  pub few : length segments ≤ 2 ^ 43
