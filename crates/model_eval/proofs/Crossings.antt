-- Segments seen one after another beside all of them at once.
use Rattle.std.proofs.Common.{◌≡◌, ◌∙◌, sym, ap, ℕ, zero, suc, ◌+◌, ◌-◌, ◌≤◌, add-one, Bool, true, false, ◌||◌, not, cond, List, [], ◌∷◌, ◌++◌, length, take, drop, Option, Some, None, refl, arith, length-append}
use Rattle.std.specs.Prelude.{slice_get, slice_index_or, filter, if◌then◌else◌}
use Rattle.std.specs.List.{list_any}
use Rattle.std.proofs.lemmas.List.Folds.{list_any-append}
use Rattle.std.proofs.Math.Seq.{take-length}
use Rattle.std.proofs.lemmas.Bool.Decides.{nat_tests}
use Rattle.gh_base.specs.declared.map.Point.{Point}
use Rattle.model_eval.specs.Regions.{Segment, segments, segments_from, border, is_on, crosses, is_odd, sight, is_inside}

-- a truth value, turned round where the second holds
abbrev pub differ : Bool → Bool → Bool
differ a b = cond b (not a) a

odd_more : (n : ℕ) → is_odd (suc n) ≡ not (is_odd n)
odd_more n = grind (arith, nat_tests)

odd_sum : (m n : ℕ) → is_odd (m + n) ≡ differ (is_odd n) (is_odd m)
odd_sum m n = grind (arith, nat_tests)

-- a ring with a point, taken apart
pub ring_parts : (ring : List Point) (d : Point) → 1 ≤ length ring → segments_from (slice_index_or ring 0 d) (drop 0 (take (length ring - 1) (drop 1 ring))) ≡ segments ring
ring_parts [] d h = absurd (omega arith)
ring_parts (a ∷ bs) d h = let e : suc (length bs) - 1 ≡ length bs = omega arith in rw (e, take-length bs) refl

-- what is left of a list at one of its items
next_item : (q : Point → Bool) (xs : List Point) (i : ℕ) (x : Point) → slice_get xs i ≡ Some x → list_any q (drop i xs) ≡ (q x || list_any q (drop (suc i) xs))
next_item q [] i x e = cc
next_item q (y ∷ ys) zero x e = let h : y ≡ x = cc in rw h refl
next_item q (y ∷ ys) (suc i) x e = next_item q ys i x e

next_point : (q : Point → Bool) (xs : List Point) (i : ℕ) (x : Point) → slice_get xs i ≡ Some x → list_any q (drop i xs) ≡ (q x || list_any q (drop (i + 1) xs))
next_point q xs i x e = rw (add-one i) (next_item q xs i x e)

-- an item that passes settles it, and one that doesn't leaves it to the rest
pub found_at : (q : Point → Bool) (xs : List Point) (i : ℕ) (x : Point) (all : Bool) → slice_get xs i ≡ Some x → list_any q (drop i xs) ≡ all → q x ≡ true → true ≡ all
found_at q xs i x all e from_here h =
    sym (sym from_here ∙ (next_point q xs i x e ∙ ap (λ b. b || list_any q (drop (i + 1) xs)) h))

pub passed_at : (q : Point → Bool) (xs : List Point) (i : ℕ) (x : Point) (all : Bool) → slice_get xs i ≡ Some x → list_any q (drop i xs) ≡ all → q x ≡ false → list_any q (drop (i + 1) xs) ≡ all
passed_at q xs i x all e from_here h =
    sym (sym from_here ∙ (next_point q xs i x e ∙ ap (λ b. b || list_any q (drop (i + 1) xs)) h))

-- what is seen of further segments, where an odd number was crossed before
abbrev pub sight_after : Bool → Point → List Segment → Option Bool
sight_after odd p [] = Some odd
sight_after odd p (s ∷ ss) = if is_on p s then None else sight_after (differ odd (crosses p s)) p ss

one_seen : (on crossed any odd : Bool) (n : ℕ) → cond on None (cond any None (Some (differ (differ odd crossed) (is_odd n)))) ≡ cond (on || any) None (Some (differ odd (is_odd (cond crossed (suc n) n))))
one_seen true crossed any odd n = refl
one_seen false true true odd n = refl
one_seen false false true odd n = refl
one_seen false true false odd n = rw (odd_more n) (elim (is_odd n) as (λ v. Some (differ (not odd) v) ≡ Some (differ odd (not v))) [ true ↦ (elim odd as (λ o. Some (not (not o)) ≡ Some o) [ true ↦ refl | false ↦ refl ]) | false ↦ refl ])
one_seen false false false odd n = refl

length_cond : (A : Type 0) (b : Bool) (x : A) (xs : List A) → length (cond b (x ∷ xs) xs) ≡ cond b (suc (length xs)) (length xs)
length_cond A true x xs = refl
length_cond A false x xs = refl

sight_is : (odd : Bool) (p : Point) (ss : List Segment) → sight_after odd p ss ≡ cond (list_any (is_on p) ss) None (Some (differ odd (is_odd (length (filter (crosses p) ss)))))
sight_is odd p [] = refl
sight_is odd p (s ∷ ss) =
    rw (sight_is (differ odd (crosses p s)) p ss, length_cond Segment (crosses p s) s (filter (crosses p) ss))
    (one_seen (is_on p s) (crosses p s) (list_any (is_on p) ss) odd (length (filter (crosses p) ss)))

even_start : (b : Bool) → differ false b ≡ b
even_start true = refl
even_start false = refl

pub from_even : (p : Point) (ss : List Segment) → sight_after false p ss ≡ sight p ss
from_even p ss = rw (sight_is false p ss, even_start) refl

-- rings, one after another
abbrev pub past : Option Bool → (Bool → Bool) → Bool → Bool
past None rest odd = true
past (Some crossed) rest odd = rest (differ odd crossed)

abbrev pub inside_after : Bool → Point → List (List Point) → Bool
inside_after odd p [] = odd
inside_after odd p (ring ∷ rings) = past (sight p (segments ring)) (λ o. inside_after o p rings) odd

filter-append : (A : Type 0) (q : A → Bool) (xs ys : List A) → filter q (xs ++ ys) ≡ filter q xs ++ filter q ys
filter-append A q [] ys = refl
filter-append A q (x ∷ xs) ys = rw (filter-append A q xs ys) (elim (q x) as (λ b. cond b (x ∷ (filter q xs ++ filter q ys)) (filter q xs ++ filter q ys) ≡ cond b (x ∷ filter q xs) (filter q xs) ++ filter q ys) [ true ↦ refl | false ↦ refl ])

turned : (odd x y : Bool) → differ (differ odd x) y ≡ differ odd (differ y x)
turned true true true = refl
turned true true false = refl
turned true false true = refl
turned true false false = refl
turned false true true = refl
turned false true false = refl
turned false false true = refl
turned false false false = refl

one_ring : (a b odd : Bool) (m n : ℕ) (rest : Bool → Bool) → ((o : Bool) → rest o ≡ (b || differ o (is_odd n))) → past (cond a None (Some (is_odd m))) rest odd ≡ (a || b || differ odd (is_odd (m + n)))
one_ring true b odd m n rest h = refl
one_ring false b odd m n rest h = h (differ odd (is_odd m)) ∙ ap (λ v. b || v) (turned odd (is_odd m) (is_odd n) ∙ ap (λ v. differ odd v) (sym (odd_sum m n)))

inside_is : (odd : Bool) (p : Point) (rings : List (List Point)) → inside_after odd p rings ≡ (list_any (is_on p) (border rings) || differ odd (is_odd (length (filter (crosses p) (border rings)))))
inside_is odd p [] = refl
inside_is odd p (ring ∷ rings) =
    rw (list_any-append (is_on p) (segments ring) (border rings), filter-append Segment (crosses p) (segments ring) (border rings), length-append (filter (crosses p) (segments ring)) (filter (crosses p) (border rings)))
    (one_ring (list_any (is_on p) (segments ring)) (list_any (is_on p) (border rings)) odd (length (filter (crosses p) (segments ring))) (length (filter (crosses p) (border rings))) (λ o. inside_after o p rings) (λ o. inside_is o p rings))

pub from_outside : (p : Point) (rings : List (List Point)) → inside_after false p rings ≡ is_inside rings p
unfolding is_inside
from_outside p rings = rw (inside_is false p rings, even_start) refl
