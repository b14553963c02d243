-- Limits after a history with an entry behind it.
use Rattle.std.proofs.Common.{◌≡◌, ℕ, List, [], ◌∷◌, ◌++◌, Option, Some, None, refl, sym, subst, ◌∙◌, get_or}
use Rattle.std.specs.Prelude.{unwrap_or}
use Rattle.std.specs.List.{filter_map, last_or, cons_option}
use Rattle.std.proofs.lemmas.List.{ext_get_or}
use Rattle.std.proofs.lemmas.List.Elements.{filter_map-append}
use Rattle.gh_base.specs.declared.edges.DirEdge.{DirEdge}
use Rattle.traffic_core.specs.declared.entry.Entry.{Entry}
use Rattle.base_graph.specs.Graphs.{Graph}
use Rattle.weighting.specs.Roads.{opening_of}
use Rattle.traffic_core.specs.History.{limit_after, speed_on, AreLimitsAfter}
use Rattle.traffic_core.proofs.LimitIndex.{directed}

pub last_or-append : {A : Type 0} (o : Option A) (xs ys : List A) → last_or o (xs ++ ys) ≡ last_or (last_or o xs) ys
last_or-append o [] ys = refl
last_or-append o (x ∷ xs) ys = last_or-append (Some x) xs ys

-- the last of what one more item gives
pub last_or-filter_map_one : {A : Type 0} (f : A → Option ℕ) (o : Option ℕ) (x : A) (d : ℕ) → unwrap_or (last_or o (filter_map f (x ∷ []))) d ≡ unwrap_or (f x) (unwrap_or o d)
last_or-filter_map_one f o x d = elim (f x) as (λ r. unwrap_or (last_or o (cons_option r [])) d ≡ unwrap_or r (unwrap_or o d)) [ None ↦ refl | Some s ↦ refl ]

pub limit_after-push : (graph : Graph) (h : List Entry) (entry : Entry) (by : DirEdge) → limit_after graph (h ++ entry ∷ []) by ≡ unwrap_or (speed_on by entry) (limit_after graph h by)
limit_after-push graph h entry by =
    rw (filter_map-append (speed_on by) h (entry ∷ []), last_or-append)
    (last_or-filter_map_one (speed_on by) (last_or None (filter_map (speed_on by) h)) entry (opening_of graph by))

-- after a history there is one list of limits
pub one_limit_list : (graph : Graph) (h : List Entry) (limits other : List ℕ) → AreLimitsAfter graph h limits → AreLimitsAfter graph h other → limits ≡ other
one_limit_list graph h limits other are more = ext_get_or 0 limits other (are.long ∙ sym more.long) (λ i within.
    let by = directed i in
    subst (λ (n : ℕ). get_or limits n 0 ≡ get_or other n 0) by.1 (are.each by.0 ∙ sym (more.each by.0)))
