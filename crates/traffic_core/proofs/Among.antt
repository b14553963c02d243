-- What a search says of the walks of a network, said of walks that are the same ones.
use Rattle.std.specs.Prelude.{◌↔◌}
use Rattle.std.proofs.Common.{◌≡◌, ℕ, ◌<◌, ◌≤◌, Bool, Option, None, List, [], ◌∷◌, length, take, Result, IfOk, refl, sym, subst, ap, ◌∙◌, arith}
use Rattle.std.proofs.lemmas.Result.{IfOk-weaker}
use Rattle.std.proofs.lemmas.List.{get_or-take, length-take-le}
use Rattle.gh_base.specs.declared.faults.NoMemory.{NoMemory}
use Rattle.gh_base.specs.declared.edges.Hop.{Hop}
use Rattle.gh_base.specs.declared.query.RouteAnswer.{RouteAnswer}
use Rattle.gh_base.specs.declared.query.RouteAnswer.TheVariants.{NoNode, NoSnap, NoRoute, WeightOverflow, Walk, Labelled}
use Rattle.gh_base.specs.Networks.{Network}
use Rattle.walk_rules.specs.Walks.{IsWalk, IsLeastWeight, IsAtMostEachWalk}
use Rattle.walk_rules.specs.Potentials.{IsFeasible, flat}
use Rattle.walk_rules.specs.Distances.{label_at}
use Rattle.walk_rules.specs.Evidence.{IsEvidence, IsEvidenceLabel}
use Rattle.query_graph.specs.declared.ends.Leave.{Leave}
use Rattle.query_graph.specs.declared.ends.Reach.{Reach}
use Rattle.traffic_core.specs.Trips.{Trip, IsWalkOf, trip_network, trip_start, trip_target}
use Rattle.traffic_core.specs.Answers.{Plan, IsAtMostEach, IsLeastOf, AreRightLabels, IsRightAmong, IsWalkIn, plan_over, plan_of, greatest_weight}

-- a bound of nothing is feasible
pub flat_feasible : (network : Network) (target : ℕ) → IsFeasible network flat target
flat_feasible network target = record { at_target = refl; along = λ node hop c s y e. (0, refl, omega arith) }

module _ (P Q : List Hop → Type 0) (same : (hops : List Hop) → P hops ↔ Q hops) where
  least_same : (weight : ℕ) → IsAtMostEach P weight → IsAtMostEach Q weight
  least_same weight least = λ others q. least others ((same others).1 q)

  least_of_same : (weight : ℕ) → IsLeastOf P weight → IsLeastOf Q weight
  least_of_same weight l = record { hops = l.hops; walk = (same l.hops).0 l.walk; weight_is = l.weight_is; least = least_same weight l.least }

  pub among_same : (plan : Plan) (mm_of : List Hop → ℕ) (towers : ℕ) (labels : Bool) (answer : RouteAnswer) → IsRightAmong P plan mm_of towers labels answer → IsRightAmong Q plan mm_of towers labels answer
  among_same plan mm_of towers labels (NoNode id) h = h
  among_same plan mm_of towers labels (NoSnap point) h = h
  among_same plan mm_of towers labels (NoRoute settled) h = (λ hops q. h.0 hops ((same hops).1 q), h.1, h.2)
  among_same plan mm_of towers labels (WeightOverflow weight) h = (least_of_same weight h.0, h.1)
  among_same plan mm_of towers labels (Walk weight mm settled hops) h = (
    h.0,
    record {
      walk = (same hops).0 h.1.walk;
      weight_is = h.1.weight_is;
      least = least_same weight h.1.least;
      empty = h.1.empty;
      within = h.1.within;
      mm_is = h.1.mm_is;
      shown = h.1.shown;
      starts = h.1.starts;
    },
  )
  among_same plan mm_of towers labels (Labelled weight list) h = (
    h.0,
    record {
      least = least_of_same weight h.1.least;
      within = h.1.within;
      count = h.1.count;
      each = h.1.each;
      all = h.1.all;
      same = h.1.same;
      evidence = h.1.evidence;
    },
  )

module _ (bound : ℕ → Option ℕ) (start target towers weight : ℕ) (full list : List (Option ℕ)) where
  -- the labels of the towers, of those that a certificate has for all nodes
  cut_labels : (network : Network) → towers ≤ network.nodes → list ≡ take towers full → length full ≡ network.nodes
      → IsLeastOf (IsWalkIn network start target) weight → weight ≤ greatest_weight
      → ((node : ℕ) → node < network.nodes → IsEvidenceLabel network bound start weight node (label_at full node))
      → IsEvidence network (label_at full) start target weight
      → AreRightLabels (IsWalkIn network start target) (plan_over network bound start target) towers weight list
  cut_labels network few cut count least within each evidence =
      let same : (node : ℕ) → node < towers → label_at full node ≡ label_at list node = λ node h. rw cut (sym (get_or-take towers full node None h)) in
      record {
        least = least;
        within = within;
        count = rw cut (length-take-le towers full (omega arith));
        each = λ node h. subst (λ (l : Option ℕ). IsEvidenceLabel network bound start weight node l) (same node h) (each node (omega arith));
        all = label_at full;
        same = same;
        evidence = evidence;
      }

  -- a least weight, in other words
  least_weight : (network : Network) → IsLeastOf (IsWalkIn network start target) weight → IsLeastWeight network start target weight
  least_weight network l =
      record { hops = l.hops; is_least = record { walk = l.walk; least = subst (λ (w : ℕ). IsAtMostEachWalk network start target w) (sym l.weight_is) l.least }; weight_is = l.weight_is }

  pub labels_right : (network after : Network) → after ≡ network → IsFeasible network bound target → towers ≤ network.nodes → list ≡ take towers full → length full ≡ after.nodes
      → IsLeastOf (IsWalkIn network start target) weight → weight ≤ greatest_weight
      → (IsFeasible after bound target → IsLeastWeight after start target weight → (node : ℕ) → node < after.nodes → IsEvidenceLabel after bound start weight node (label_at full node))
      → (IsFeasible after bound target → IsLeastWeight after start target weight → IsEvidence after (label_at full) start target weight)
      → AreRightLabels (IsWalkIn network start target) (plan_over network bound start target) towers weight list
  labels_right network after same feasible few cut count least within each evidence =
      let here : IsLeastOf (IsWalkIn after start target) weight = subst (λ (n : Network). IsLeastOf (IsWalkIn n start target) weight) (sym same) least in
      let fits : IsFeasible after bound target = subst (λ (n : Network). IsFeasible n bound target) (sym same) feasible in
      let told = least_weight after here in
      subst (λ (n : Network). AreRightLabels (IsWalkIn n start target) (plan_over n bound start target) towers weight list) same
      (cut_labels after (subst (λ (n : Network). towers ≤ n.nodes) (sym same) few) cut count here within (each fits told) (evidence fits told))

abbrev pub trip_of : Network → Leave → Reach → List (Option Hop) → Trip
trip_of base from to direct = record { base = base; from = from; to = to; direct = direct }

pub trip_is : (b c : Network) (f g : Leave) (r s : Reach) (d e : List (Option Hop)) → b ≡ c → f ≡ g → r ≡ s → d ≡ e
    → trip_of b f r d ≡ trip_of c g s e
trip_is b c f g r s d e p q u v = cc

-- what is right over the network of a trip is right of its walks
module _ (built trip : Trip) (is : built ≡ trip) (network : Network) (start target : ℕ) (n : network ≡ trip_network built) (s : start ≡ trip_start trip) (t : target ≡ trip_target trip) (walks : (hops : List Hop) → IsWalk network (trip_start built) hops (trip_target built) ↔ IsWalkOf built hops) (bound : ℕ → Option ℕ) (mm_of : List Hop → ℕ) (towers : ℕ) (labels : Bool) where
  same : (hops : List Hop) → IsWalkIn network start target hops ↔ IsWalkOf trip hops
  same hops = rw (s, t) (subst (λ (x : Trip). IsWalk network (trip_start x) hops (trip_target x) ↔ IsWalkOf x hops) is (walks hops))

  network_is : network ≡ trip_network trip
  network_is = n ∙ ap (λ (x : Trip). trip_network x) is

  plan_is : plan_over network bound start target ≡ plan_of trip bound
  plan_is = rw (network_is, s, t) refl

  feasible_is : IsFeasible (trip_network trip) bound (trip_target trip) → IsFeasible network bound target
  feasible_is f = rw (network_is, t) f

  pub right_trip : (result : Result RouteAnswer NoMemory)
      → (IsFeasible network bound target → IfOk result (IsRightAmong (IsWalkIn network start target) (plan_over network bound start target) mm_of towers labels))
      → IsFeasible (trip_network trip) bound (trip_target trip) → IfOk result (IsRightAmong (IsWalkOf trip) (plan_of trip bound) mm_of towers labels)
  right_trip result told feasible =
      IfOk-weaker result _ _ (λ answer h.
      subst (λ (plan : Plan). IsRightAmong (IsWalkOf trip) plan mm_of towers labels answer) plan_is
      (among_same (IsWalkIn network start target) (IsWalkOf trip) same (plan_over network bound start target) mm_of towers labels answer h)) (told (feasible_is feasible))

-- a list of no length is empty
pub none_long : (hops : List Hop) (settled : ℕ) → length hops ≤ settled → settled ≡ 0 → hops ≡ []
none_long [] settled h e = refl
none_long (hop ∷ hops) settled h e = absurd (omega arith)
