-- A least weight, cut at a limit, is the label.
use Rattle.std.proofs.Common.{◌≡◌, ℕ, ◌<◌, ◌≤◌, min, Option, Some, None, List, length, subst, sym, ap, ◌∙◌, inl, inr, arith}
use Rattle.std.proofs.lemmas.Bool.{cases_lt}
use Rattle.std.proofs.lemmas.List.{get_or_past}
use Rattle.gh_base.specs.Networks.{Network}
use Rattle.walk_rules.specs.Distances.{IsReach, IsLabel, label_at}
use Rattle.alt_search.specs.declared.explored.Explored.{Explored}
use Rattle.alt_search.specs.declared.reach.Reach.{Reach}
use Rattle.alt_search.specs.Progress.{reach_at}
use Rattle.alt_search.specs.Exploring.{told, weight_in, nodes_in}
use Rattle.label_spread.specs.Cutting.{cut}

pub cut_label : (network : Network) (limit from to : ℕ) (weight : Option ℕ) → IsReach network from to weight → IsLabel network limit from to (cut limit weight)
cut_label network limit from to None r = r
cut_label network limit from to (Some w) r = record {
  hops = r.hops;
  walk = r.is_least.walk;
  weight = ap (λ (n : ℕ). min n limit) (sym r.weight_is);
  least = λ others walk. let l = r.is_least.least others walk in let e = r.weight_is in omega arith;
}

told_none : (reach : Option Reach) (key : Option ℕ) → reach ≡ None → told reach key ≡ None
told_none reach key e = ap (λ (r : Option Reach). told r key) e

-- nothing is told of what is no node
pub none_past : (explored : Explored) (node : ℕ) → nodes_in explored ≤ node → weight_in explored node ≡ None
none_past explored node l = told_none (reach_at explored.reached node) _ (get_or_past explored.reached node None l)

-- labels that are the weights, cut at the limit
pub labels_right : (network : Network) (limit from : ℕ) (explored : Explored) (labels : List (Option ℕ)) → length labels ≡ nodes_in explored → ((node : ℕ) → node < nodes_in explored → label_at labels node ≡ cut limit (weight_in explored node)) → ((node : ℕ) → IsReach network from node (weight_in explored node)) → (node : ℕ) → IsLabel network limit from node (label_at labels node)
labels_right network limit from explored labels long cuts reach node =
    let same : label_at labels node ≡ cut limit (weight_in explored node) =
    elim (cases_lt node (nodes_in explored)) [
      | inl l ↦ cuts node l
      | inr p ↦ get_or_past labels node None (omega arith) ∙ ap (cut limit) (sym (none_past explored node p))
    ] in
    subst (λ (label : Option ℕ). IsLabel network limit from node label) (sym same) (cut_label network limit from node (weight_in explored node) (reach node))
