-- Parts with commas between them.
use Rattle.std.proofs.Common.{◌≡◌, ◌∙◌, ℕ, ◌+◌, ◌<◌, ◌≤◌, List, [], ◌∷◌, ◌++◌, length, map, drop, get_or, Some, codes, ap, sym, append-nil, append_assoc, arith}
use Rattle.std.specs.Prelude.{slice_get}
use Rattle.std.specs.List.{join_with_byte}
use Rattle.std.proofs.lemmas.List.{drop_more, drop_all, length-map}
use Rattle.std.proofs.lemmas.Option.{slice_get_within, get_or_from_slice_get}
use Rattle.gh_base.specs.declared.map.Point.{Point}
use Rattle.plain_map.specs.Printing.{listed}
use Rattle.road_lines.specs.Features.{position_text, positions_text}

pub behind_commas : (x : List ℕ) (xs : List (List ℕ)) → x ++ listed (codes ",") xs ≡ join_with_byte 44 (x ∷ xs)
behind_commas x [] = append-nil x
behind_commas x (y ∷ ys) = ap (λ l. x ++ (44 ∷ l)) (behind_commas y ys)

-- the first behind a bracket, each other behind a comma
bracketed : (xs : List (List ℕ)) → 0 < length xs → listed (codes "[") xs ≡ 91 ∷ join_with_byte 44 xs
bracketed [] h = absurd (omega arith)
bracketed (x ∷ xs) h = ap (λ l. 91 ∷ l) (behind_commas x xs)

next_of : (xs : List Point) (i : ℕ) (x : Point) → slice_get xs i ≡ Some x → drop i xs ≡ x ∷ drop (i + 1) xs
next_of xs i x got = drop_more xs i x (slice_get_within xs i x got) ∙ ap (λ y. y ∷ drop (i + 1) xs) (get_or_from_slice_get xs i x x got)

-- a position more is written
pub position_more : (xs : List Point) (i : ℕ) (x : Point) (out now before after whole : List ℕ) → slice_get xs i ≡ Some x
    → now ≡ out ++ (before ++ position_text x) → after ≡ codes ","
    → out ++ listed before (map position_text (drop i xs)) ≡ whole
    → now ++ listed after (map position_text (drop (i + 1) xs)) ≡ whole
position_more xs i x out now before after whole got e comma sofar =
    let rest = listed (codes ",") (map position_text (drop (i + 1) xs)) in
    let left : out ++ (before ++ (position_text x ++ rest)) ≡ whole = rw (next_of xs i x got) at sofar in
    rw (e, comma) (append_assoc out (before ++ position_text x) rest ∙ ap (λ l. out ++ l) (append_assoc before (position_text x) rest) ∙ left)

-- all are, and the bracket behind them
pub positions_done : (xs : List Point) (i : ℕ) (out now before last : List ℕ) → length xs ≤ i → 0 < length xs
    → now ++ listed before (map position_text (drop i xs)) ≡ out ++ listed (codes "[") (map position_text xs)
    → last ≡ now ++ 93 ∷ [] → last ≡ out ++ positions_text xs
positions_done xs i out now before last end some sofar e =
    let all : now ++ [] ≡ out ++ listed (codes "[") (map position_text xs) = rw (drop_all i xs end) at sofar in
    let opened : listed (codes "[") (map position_text xs) ≡ 91 ∷ join_with_byte 44 (map position_text xs) = bracketed (map position_text xs) (rw (length-map xs position_text) some) in
    let same : now ≡ out ++ (91 ∷ join_with_byte 44 (map position_text xs)) = sym (append-nil now) ∙ all ∙ ap (λ l. out ++ l) opened in
    rw (e, same) (append_assoc out (91 ∷ join_with_byte 44 (map position_text xs)) (93 ∷ []))
