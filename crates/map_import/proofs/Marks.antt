-- Marks of nodes, one node after another.
use Rattle.std.specs.Ordering.{int_eq}
use Rattle.std.specs.Option.{is_some}
use Rattle.std.specs.List.{list_any, flat_map}
use Rattle.std.proofs.Common.{◌≡◌, ℕ, zero, suc, ◌+◌, ◌<◌, Bool, true, false, cond, ◌||◌, leb, List, ℤ, [], ◌∷◌, ◌++◌, length, take, get_or, Option, Some, unwrap_or, count_by, inl, inr, refl, sym, ap, ◌∙◌, arith, add-one}
use Rattle.std.proofs.lemmas.Bool.{cases_Bool, le-leb}
use Rattle.std.proofs.lemmas.List.{take_more, flat_map_more}
use Rattle.std.proofs.lemmas.List.Sums.{sum_by-append, count_by_more_yes, count_by_more_no}
use Rattle.std.proofs.lemmas.List.Folds.{list_any-append}
use Rattle.map_import.specs.Roads.{UsedWay, times, is_end_of, is_tower}
use Rattle.map_import.specs.Building.{mark}
use Rattle.map_import.proofs.Numbers.{same_id, id_swaps}

-- a node that stands once more is marked with whether it stood
mark_next : (m : ℕ) → Some (is_some (mark m)) ≡ mark (m + 1)
mark_next zero = refl
mark_next (suc zero) = refl
mark_next (suc (suc n)) = rw (add-one (suc (suc n))) refl

pub count_more : (refs : List ℤ) (i : ℕ) (k : ℤ) (stood : Bool) (n : ℤ → ℕ) (f g : ℤ → Option Bool)
    → i < length refs → k ≡ get_or refs i k → stood ≡ is_some (f k)
    → ((id : ℤ) → f id ≡ mark (n id + count_by (int_eq id) (take i refs)))
    → ((id : ℤ) → g id ≡ cond (int_eq k id) (Some stood) (f id))
    → (id : ℤ) → g id ≡ mark (n id + count_by (int_eq id) (take (i + 1) refs))
count_more refs i k stood n f g h e was before after id =
    let count = count_by (int_eq id) (take i refs) in
    elim (cases_Bool (int_eq k id)) [
      | inl t ↦
          let same : k ≡ id = same_id k id t in
          let here : int_eq id (get_or refs i k) ≡ true = ap (int_eq id) (sym e) ∙ id_swaps id k ∙ t in
          let more : count_by (int_eq id) (take (i + 1) refs) ≡ count + 1 = count_by_more_yes (int_eq id) refs i k h here in
          let stands : stood ≡ is_some (mark (n id + count)) = was ∙ ap (λ (q : ℤ). is_some (f q)) same ∙ ap is_some (before id) in
          let sums : n id + count + 1 ≡ n id + (count + 1) = omega arith in
          after id ∙ ap (λ (b : Bool). cond b (Some stood) (f id)) t ∙ ap (λ (b : Bool). Some b) stands ∙ mark_next (n id + count)
          ∙ ap mark (sums ∙ ap (λ (m : ℕ). n id + m) (sym more))
      | inr t ↦
          let here : int_eq id (get_or refs i k) ≡ false = ap (int_eq id) (sym e) ∙ id_swaps id k ∙ t in
          let same : count_by (int_eq id) (take (i + 1) refs) ≡ count = count_by_more_no (int_eq id) refs i k h here in
          after id ∙ ap (λ (b : Bool). cond b (Some stood) (f id)) t ∙ before id ∙ ap (λ (m : ℕ). mark (n id + m)) (sym same)
    ]

-- the nodes of one way more
pub times_more : (ways : List UsedWay) (i : ℕ) (way : UsedWay) (id : ℤ) → i < length ways → way ≡ get_or ways i way
    → times (take (i + 1) ways) id ≡ times (take i ways) id + count_by (int_eq id) way.refs
times_more ways i way id h e =
    let next : take (i + 1) ways ≡ take i ways ++ way ∷ [] = take_more ways i way h ∙ ap (λ (w : UsedWay). take i ways ++ w ∷ []) (sym e) in
    let refs : UsedWay → List ℤ = λ w. w.refs in
    ap (λ (l : List UsedWay). times l id) next
    ∙ ap (count_by (int_eq id)) (sym (flat_map_more refs [] (take i ways) way))
    ∙ sum_by-append (λ x. cond (int_eq id x) 1 0) (flat_map refs (take i ways)) way.refs

pub counted_more : (ways : List UsedWay) (i : ℕ) (way : UsedWay) (f g : ℤ → Option Bool)
    → i < length ways → way ≡ get_or ways i way
    → ((id : ℤ) → f id ≡ mark (times (take i ways) id))
    → ((n : ℤ → ℕ) → ((id : ℤ) → f id ≡ mark (n id)) → (id : ℤ) → g id ≡ mark (n id + count_by (int_eq id) way.refs))
    → (id : ℤ) → g id ≡ mark (times (take (i + 1) ways) id)
counted_more ways i way f g h e before step id =
    step (times (take i ways)) before id ∙ ap mark (sym (times_more ways i way id h e))

choose : (a b : Bool) (o : Option Bool) → cond a (Some true) (cond b (Some true) o) ≡ cond (b || a) (Some true) o
choose true true o = refl
choose true false o = refl
choose false true o = refl
choose false false o = refl

last_or : (b : Bool) → (b || false) ≡ b
last_or true = refl
last_or false = refl

pub ends_more : (ways : List UsedWay) (i : ℕ) (way : UsedWay) (f g : ℤ → Option Bool) (m : ℤ → Option Bool)
    → i < length ways → way ≡ get_or ways i way
    → ((id : ℤ) → f id ≡ cond (list_any (is_end_of id) (take i ways)) (Some true) (m id))
    → ((id : ℤ) → g id ≡ cond (is_end_of id way) (Some true) (f id))
    → (id : ℤ) → g id ≡ cond (list_any (is_end_of id) (take (i + 1) ways)) (Some true) (m id)
ends_more ways i way f g m h e before step id =
    let next : take (i + 1) ways ≡ take i ways ++ way ∷ [] = take_more ways i way h ∙ ap (λ (w : UsedWay). take i ways ++ w ∷ []) (sym e) in
    let any : list_any (is_end_of id) (take (i + 1) ways) ≡ (list_any (is_end_of id) (take i ways) || is_end_of id way) =
    ap (list_any (is_end_of id)) next ∙ list_any-append (is_end_of id) (take i ways) (way ∷ []) ∙ ap (λ (b : Bool). list_any (is_end_of id) (take i ways) || b) (last_or (is_end_of id way)) in
    step id ∙ ap (cond (is_end_of id way) (Some true)) (before id)
    ∙ choose (is_end_of id way) (list_any (is_end_of id) (take i ways)) (m id)
    ∙ ap (λ (b : Bool). cond b (Some true) (m id)) (sym any)

marked : (a : Bool) (n : ℕ) → unwrap_or (cond a (Some true) (mark n)) false ≡ (a || leb 2 n)
marked true n = refl
marked false zero = refl
marked false (suc zero) = refl
marked false (suc (suc n)) = sym (le-leb 2 (suc (suc n)) (omega arith))

pub is_tower_by : (ways : List UsedWay) (id : ℤ) (o : Option Bool) → o ≡ cond (list_any (is_end_of id) ways) (Some true) (mark (times ways id))
    → unwrap_or o false ≡ is_tower ways id
unfolding is_tower
is_tower_by ways id o e = ap (λ (p : Option Bool). unwrap_or p false) e ∙ marked (list_any (is_end_of id) ways) (times ways id)
