-- What the two checks show.
use Rattle.std.proofs.Common.{◌≡◌, ℕ, ◌<◌, ◌≤◌, Bool, true, false, Option, Some, None, List, length, Contains, Result, Ok, Err, OnOk, IsOk, refl, ap, ◌∙◌, arith}
use Rattle.std.specs.Prelude.{⊤, ◌↔◌, IfErr}
use Rattle.std.proofs.lemmas.List.{get_or_past}
use Rattle.gh_base.specs.declared.edges.Hop.{Hop}
use Rattle.gh_base.specs.Networks.{Network}
use Rattle.walk_rules.specs.Walks.{hops_from}
use Rattle.walk_rules.specs.Distances.{label_at}
use Rattle.walk_rules.specs.Evidence.{is_violated, violates, IsEvidence, is_out, leads_out, IsClosed}
use Rattle.label_certificate.specs.declared.refuted.Refuted.{Refuted}
use Rattle.label_certificate.specs.Refuting.{is_in, IsReason}
use Rattle.label_certificate.proofs.Reasons.{fails_nowhere, fails_somewhere}

-- at a tail with no label nothing is violated
unlabelled : (weight head : Option ℕ) → is_violated None weight head ≡ false
unlabelled None head = refl
unlabelled (Some w) head = refl

pub labels_past : (network : Network) (labels : List (Option ℕ)) → length labels ≡ network.nodes → (node : ℕ) (hop : Hop) → network.nodes ≤ node → violates (label_at labels) node hop ≡ false
labels_past network labels l node hop g = ap (λ o. is_violated o hop.weight (label_at labels hop.to.0)) (get_or_past labels node None (omega arith)) ∙ unlabelled hop.weight (label_at labels hop.to.0)

-- nothing leads out from outside
outside : (weight : Option ℕ) (b : Bool) → is_out false weight b ≡ false
outside None b = refl
outside (Some w) b = refl

pub set_past : (network : Network) (set : List Bool) → length set ≡ network.nodes → (node : ℕ) (hop : Hop) → network.nodes ≤ node → leads_out (is_in set) node hop ≡ false
set_past network set l node hop g = ap (λ b. is_out b hop.weight (is_in set hop.to.0)) (get_or_past set node false (omega arith)) ∙ outside hop.weight (is_in set hop.to.0)

module _ (network : Network) (labels : List (Option ℕ)) (start target weight : ℕ) (long : length labels ≡ network.nodes) where
  pub walk_accepts : (at_start : label_at labels start ≡ Some 0) (at_target : label_at labels target ≡ Some weight) (result : Result (Unit {0}) Refuted) → OnOk result ((node : ℕ) (hop : Hop) → node < network.nodes → Contains (hops_from network node) hop → violates (label_at labels) node hop ≡ false) → IfErr result (λ why. IsReason network (violates (label_at labels)) ⊤ why) → IsOk result ↔ IsEvidence network (label_at labels) start target weight
  walk_accepts s t (Ok u) fine why = (λ _. record { at_start = s; at_target = t; along = fails_nowhere network (violates (label_at labels)) (labels_past network labels long) fine }, λ _. refl)
  walk_accepts s t (Err e) fine why = (λ no. absurd (cc), λ evidence. absurd (fails_somewhere network (violates (label_at labels)) e why evidence.along))

module _ (network : Network) (set : List Bool) (start target : ℕ) (long : length set ≡ network.nodes) where
  pub none_accepts : (at_start : is_in set start ≡ true) (at_target : is_in set target ≡ false) (result : Result (Unit {0}) Refuted) → OnOk result ((node : ℕ) (hop : Hop) → node < network.nodes → Contains (hops_from network node) hop → leads_out (is_in set) node hop ≡ false) → IfErr result (λ why. IsReason network (leads_out (is_in set)) ⊤ why) → IsOk result ↔ IsClosed network (is_in set) start target
  none_accepts s t (Ok u) fine why = (λ _. record { at_start = s; at_target = t; along = fails_nowhere network (leads_out (is_in set)) (set_past network set long) fine }, λ _. refl)
  none_accepts s t (Err e) fine why = (λ no. absurd (cc), λ closed. absurd (fails_somewhere network (leads_out (is_in set)) e why closed.along))

-- what is accepted shows what it must
pub shows : (Evidence Shown : Type 0) (result : Result (Unit {0}) Refuted) → (Evidence → Shown) → IsOk result ↔ Evidence → OnOk result Shown
shows Evidence Shown (Ok u) f a = f (a.0 refl)
shows Evidence Shown (Err e) f a = tt
