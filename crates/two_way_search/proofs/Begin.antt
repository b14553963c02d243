-- How a side begins.
use Rattle.std.proofs.Common.{◌≡◌, ℕ, ◌<◌, Option, Some, None, List, [], length, replicate, is_some, sym, ap, ◌∙◌, inl, inr, arith}
use Rattle.std.specs.Prelude.{slice_set, slice_index_or}
use Rattle.std.proofs.lemmas.List.{get_or-replicate, get_or_past, get_or-set_same, get_or-set_other, length-set, length-replicate}
use Rattle.std.proofs.lemmas.Bool.{cases_eq, cases_lt, cases_Bool}
use Rattle.alt_search.specs.declared.reach.Reach.{Reach}
use Rattle.gh_base.specs.Networks.{Network}
use Rattle.search_queue.specs.Keys.{key_at}
use Rattle.alt_search.specs.Progress.{reach_at, is_settled}
use Rattle.two_way_search.specs.Sides.{IsOrdered, IsUnderway}
use Rattle.walk_rules.proofs.Counting.{count_below-none}
use Rattle.alt_search.proofs.Underway.{settled_true}

-- places for n nodes, with nothing there
abbrev places : (A : Type 0) → ℕ → List (Option A)
places A n = replicate n None

length-places : (A : Type 0) (n : ℕ) → length (places A n) ≡ n
length-places A n = length-replicate n None

pub nowhere : (A : Type 0) (n i : ℕ) → slice_index_or (places A n) i None ≡ None
nowhere A n i = elim (cases_lt i n) [
  | inl l ↦ get_or-replicate n i None None l
  | inr g ↦ get_or_past (places A n) i None (omega (arith, length-places A n))
]

-- where the end alone was reached
pub only_begun : (n end v : ℕ) (reach : Reach) → reach_at (slice_set (replicate n None) end (Some (record { weight = 0; depth = 0; last = None }))) v ≡ Some reach → v ≡ end
only_begun n end v reach r = elim (cases_eq v end) [
  | inl e ↦ e
  | inr ne ↦ absurd (let a = get_or-set_other (places Reach n) end v (Some (record { weight = 0; depth = 0; last = None })) None ne in let c = nowhere Reach n v in cc)
]

module _ (network : Network) (bound : ℕ → Option ℕ) (start n b : ℕ) (l : n ≡ network.nodes) (in_range : start < network.nodes) (b_is : bound start ≡ Some b) where
  abbrev at_start : Reach
  at_start = record { weight = 0; depth = 0; last = None }

  abbrev first_reached : List (Option Reach)
  first_reached = slice_set (replicate n None) start (Some at_start)

  abbrev first_keys : List (Option ℕ)
  first_keys = slice_set (replicate n None) start (Some b)

  reach_here : reach_at first_reached start ≡ Some at_start
  reach_here = get_or-set_same (places Reach n) start (Some at_start) None (omega (arith, length-places Reach n))

  key_here : key_at first_keys start ≡ Some b
  key_here = get_or-set_same (places ℕ n) start (Some b) None (omega (arith, length-places ℕ n))

  only_reach : (v : ℕ) (reach : Reach) → reach_at first_reached v ≡ Some reach → (v ≡ start) × (reach ≡ at_start)
  only_reach v reach r = elim (cases_eq v start) [
    | inl e ↦ (e, let a = reach_here in let c = ap (reach_at first_reached) e in cc)
    | inr ne ↦ absurd (let a = get_or-set_other (places Reach n) start v (Some at_start) None ne in let c = nowhere Reach n v in cc)
  ]

  only_key : (v key : ℕ) → key_at first_keys v ≡ Some key → (v ≡ start) × (key ≡ b)
  only_key v key k = elim (cases_eq v start) [
    | inl e ↦ (e, let a = key_here in let c = ap (key_at first_keys) e in cc)
    | inr ne ↦ absurd (let a = get_or-set_other (places ℕ n) start v (Some b) None ne in let c = nowhere ℕ n v in cc)
  ]

  none_settled : (v : ℕ) (reach : Reach) → reach_at first_reached v ≡ Some reach → key_at first_keys v ≡ None → ⊥
  none_settled v reach r k = let o = only_reach v reach r in let a = key_here in let c = ap (key_at first_keys) o.0 in cc

  pub begin_at : IsUnderway network bound start 0 first_reached first_keys × IsOrdered network bound 0 first_reached first_keys 0 []
  begin_at = (
    record {
      long_reached = length-set (replicate n None) start _ ∙ (length-replicate n _ ∙ l);
      long_keys = length-set (replicate n None) start _ ∙ (length-replicate n _ ∙ l);
      tree = record {
        root = λ node reach r e. let o = only_reach node reach r in (o.0, ap (λ (x : Reach). x.weight) o.1, ap (λ (x : Reach). x.depth) o.1);
        branch = λ node reach step r e. absurd (let o = only_reach node reach r in let a = ap (λ (x : Reach). x.last) o.1 in cc);
        small = λ node reach r.
            let o = only_reach node reach r in
            let a : reach.weight ≡ 0 = ap (λ (x : Reach). x.weight) o.1 in
            let c : reach.depth ≡ 0 = ap (λ (x : Reach). x.depth) o.1 in
            (omega arith, omega arith);
        bounded = λ node reach r. let o = only_reach node reach r in ap is_some (ap bound o.0 ∙ b_is);
        queued = λ node key k. let o = only_key node key k in (at_start, b, ap (reach_at first_reached) o.0 ∙ reach_here, ap bound o.0 ∙ b_is, omega arith);
      };
      counted = sym (count_below-none (is_settled first_reached first_keys) (network.nodes) (λ i. elim (cases_Bool (is_settled first_reached first_keys i)) [
        | inl t ↦ absurd (let s = settled_true first_reached first_keys i t in none_settled i s.0 s.1.reach_is s.1.no_key)
        | inr e ↦ e
      ]));
      end_known = (at_start, reach_here, omega arith);
    },
    record {
      below = λ u reach x s bu. absurd (none_settled u reach s.reach_is s.no_key);
      above = λ u key k. omega arith;
      relaxed = λ u reach hop s c w. absurd (none_settled u reach s.reach_is s.no_key);
    },
  )
