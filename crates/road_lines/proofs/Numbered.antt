-- Lines by number, one after another.
use Rattle.std.proofs.Common.{◌≡◌, ◌∙◌, ℕ, ◌+◌, ◌<◌, ◌≤◌, List, [], ◌∷◌, ◌++◌, Option, length, get_or, drop, map, sym, zero-add, append-nil}
use Rattle.std.specs.List.{range_with_len}
use Rattle.std.proofs.lemmas.List.{drop_all}
use Rattle.std.proofs.lemmas.List.FromFn.{length-range_with_len, get_or-range_with_len}
use Rattle.gh_base.specs.Causes.{AppendsFront}
use Rattle.plain_map.specs.Printing.{lines_text}
use Rattle.plain_map.specs.Sending.{Sends}
use Rattle.plain_map.proofs.Sent.{sends_item, front_more}

counted : (n i : ℕ) → i < n → i < length (range_with_len 0 n)
counted n i h = rw (length-range_with_len 0 n) h

-- the i-th number is i
numbered : (n i : ℕ) → i < n → i ≡ get_or (range_with_len 0 n) i i
numbered n i h = sym (get_or-range_with_len 0 n i i h ∙ zero-add i)

-- the line of a number more is left to give
pub sends_number : (text : ℕ → List ℕ) (n i : ℕ) (a b : Option (List ℕ)) (bytes waiting now : List ℕ) → i < n
    → now ≡ waiting ++ (text i ++ 10 ∷ [])
    → Sends a b bytes (waiting ++ lines_text (map text (drop i (range_with_len 0 n))))
    → Sends a b bytes (now ++ lines_text (map text (drop (i + 1) (range_with_len 0 n))))
sends_number text n i a b bytes waiting now h e sent =
    sends_item text (range_with_len 0 n) i i a b bytes waiting now (counted n i h) (numbered n i h) e sent

-- no number is left
pub sends_last : (text : ℕ → List ℕ) (n i : ℕ) (a b : Option (List ℕ)) (bytes waiting : List ℕ) → n ≤ i
    → Sends a b bytes (waiting ++ lines_text (map text (drop i (range_with_len 0 n))))
    → Sends a b bytes waiting
sends_last text n i a b bytes waiting h sent =
    let end : length (range_with_len 0 n) ≤ i = rw (length-range_with_len 0 n) h in
    let all : Sends a b bytes (waiting ++ []) = rw (drop_all i (range_with_len 0 n) end) at sent in
    rw (append-nil waiting) at all

-- what is left can't be given whole
pub rest_failed : (a b c : Option (List ℕ)) (bytes left whole : List ℕ) → Sends a b bytes left → bytes ≡ whole → AppendsFront b c left → AppendsFront a c whole
rest_failed a b c bytes left whole sent e failed =
    let wide : Sends a b bytes (left ++ []) = rw (append-nil left) sent in
    rw (← e) (front_more a b c bytes left [] wide failed)
