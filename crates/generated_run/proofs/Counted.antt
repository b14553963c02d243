-- Lists of a value for each number.
use Rattle.std.proofs.Common.{◌≡◌, ◌∙◌, ap, sym, add-one, ℕ, ◌+◌, List, [], ◌∷◌, ◌++◌, map, zero-add, ◌<◌, length, get_or}
use Rattle.std.specs.List.{range_with_len}
use Rattle.std.proofs.lemmas.List.FromFn.{map-range_with_len_more, get_or-map-range_with_len}
use Rattle.generated_run.specs.Draws.{draw, next, state_after}

-- one more at the end
pub pushed : {X : Type 0} (f : ℕ → X) (before after : List X) (n : ℕ) (x : X) → before ≡ map f (range_with_len 0 n) → after ≡ before ++ x ∷ [] → x ≡ f n →
    after ≡ map f (range_with_len 0 (n + 1))
pushed f before after n x is more here =
    more ∙ ap (λ xs. xs ++ x ∷ []) is ∙ ap (λ y. map f (range_with_len 0 n) ++ y ∷ []) here ∙ sym (map-range_with_len_more f 0 n n (zero-add n))

pub state_next : (size k x : ℕ) → x ≡ state_after size k → next x ≡ state_after size (k + 1)
unfolding state_after
state_next size k x is = rw (add-one k) (ap next is)

-- a draw of the list
pub drawn : (size : ℕ) (draws : List ℕ) (n : ℕ) → draws ≡ map (draw size) (range_with_len 0 (length draws)) → n < length draws → get_or draws n 0 ≡ draw size n
drawn size draws n are below = ap (λ xs. get_or xs n 0) are ∙ get_or-map-range_with_len (draw size) 0 (length draws) n n 0 below (zero-add n)

-- one more at the end, behind a head
pub pushed_behind : {X : Type 0} (head : X) (f : ℕ → X) (before after : List X) (n : ℕ) (x : X) → before ≡ head ∷ map f (range_with_len 0 n) → after ≡ before ++ x ∷ [] → x ≡ f n →
    after ≡ head ∷ map f (range_with_len 0 (n + 1))
pushed_behind head f before after n x is more here =
    more ∙ ap (λ xs. xs ++ x ∷ []) is ∙ ap (λ xs. head ∷ xs) (ap (λ y. map f (range_with_len 0 n) ++ y ∷ []) here ∙ sym (map-range_with_len_more f 0 n n (zero-add n)))
