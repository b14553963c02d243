-- Where a search stopped, what it knows of weights is evidence.
use Rattle.std.proofs.Common.{◌≡◌, ℕ, ◌+◌, ◌-◌, ◌<◌, Bool, true, false, Option, Some, None, List, is_some, refl, ap, ◌∙◌, inl, arith}
use Rattle.std.specs.Prelude.{MatchOption}
use Rattle.std.proofs.lemmas.Bool.{le-ltb}
use Rattle.gh_base.specs.Networks.{Network, LeadsToNodes}
use Rattle.walk_rules.specs.Potentials.{IsFeasible}
use Rattle.walk_rules.specs.Evidence.{is_violated, IsLesser, IsShownLeast, IsShownNone}
use Rattle.walk_rules.proofs.Labelling.{told_shows_least}
use Rattle.walk_rules.proofs.Closing.{told_shows_none}
use Rattle.search_queue.specs.Keys.{key_at}
use Rattle.alt_search.specs.declared.reach.Reach.{Reach}
use Rattle.alt_search.specs.Progress.{reach_at, Stops, IsDone}
use Rattle.alt_search.specs.Exploring.{told}
use Rattle.alt_search.proofs.Listed.{emptied}
use Rattle.alt_search.proofs.Finish.{none_left}
use Rattle.alt_search.proofs.Telling.{tells_least}

-- a target that was taken is no longer open
target_taken : (at_target : Bool) (target : ℕ) (before keys : List (Option ℕ)) → Stops at_target target before keys → at_target ≡ true → key_at keys target ≡ None
target_taken false target before keys s e = absurd (cc)
target_taken true target before keys s e = ap (λ xs. key_at xs target) s.1 ∙ emptied before target

module _ {network : Network} {bound : ℕ → Option ℕ} {start target settled : ℕ} {reached : List (Option Reach)} {keys : List (Option ℕ)} {at_target : Bool} (d : IsDone network bound start target settled reached keys at_target) (leads : LeadsToNodes network) (s : start < network.nodes) (t : target < network.nodes) (f : IsFeasible network bound target) where
  pub shown_least : at_target ≡ true → (from : Reach) → reach_at reached target ≡ Some from → IsShownLeast network bound start target from.weight
  shown_least taken from r =
      let tells = tells_least at_target d f.along in
      let here : told (reach_at reached target) (key_at keys target) ≡ Some from.weight = ap (λ o. told o (key_at keys target)) r ∙ ap (λ o. told (Some from) o) (target_taken at_target target d.open_keys keys d.stops taken) in
      told_shows_least leads s t f tells (tells.least target from.weight here)

  pub shown_none : at_target ≡ false → IsShownNone network bound start target
  shown_none stopped =
      let bounded = ap is_some f.at_target in
      told_shows_none leads s t f.along bounded (tells_least at_target d f.along) (none_left d.underway (d.in_order f.along).ordered f.along bounded (rw stopped at d.stops).0)

-- from a node to itself the labels that are 0 everywhere show it
pub shown_at_once : (network : Network) (bound : ℕ → Option ℕ) (start target : ℕ) → IsShownLeast network bound start target 0
shown_at_once network bound start target = record {
  label = λ node. Some 0;
  each = λ node l. right node (bound node);
  evidence = record { at_start = refl; at_target = refl; along = λ node hop c. kept hop.weight };
} where
  right : (node : ℕ) (left : Option ℕ) → MatchOption left (◌≡◌ {A = Option ℕ} (Some 0) (Some 0)) (λ x. (y : ℕ) × (◌≡◌ {A = Option ℕ} (Some 0) (Some y)) × IsLesser network start node (0 - x) y)
  right node None = refl
  right node (Some x) = (0, refl, record { within = omega arith; below = λ hops walk. omega arith; met = inl (omega arith) })

  kept : (weight : Option ℕ) → is_violated (Some 0) weight (Some 0) ≡ false
  kept None = refl
  kept (Some x) = le-ltb (0 + x) 0 (omega arith)
