-- What labels and closed sets show.
use Rattle.std.proofs.Common.{◌≡◌, ℕ, ◌+◌, ◌≤◌, Bool, true, false, unwrap_or, Option, Some, None, List, [], ◌∷◌, IsSome, Contains, refl, sym, ap, ◌∙◌, arith}
use Rattle.std.proofs.lemmas.Bool.{ltb-false}
use Rattle.gh_base.specs.declared.edges.Hop.{Hop}
use Rattle.gh_base.specs.Networks.{Network}
use Rattle.walk_rules.specs.Walks.{hops_from, IsWalk, weight_of, NoWalk, IsAtMostEachWalk}
use Rattle.walk_rules.specs.Evidence.{is_violated, violates, IsEvidence, is_out, leads_out, IsClosed}

-- over one hop that isn't violated
step_label : (tail : Option ℕ) (weight : Option ℕ) (head : Option ℕ) (x : ℕ) → is_violated tail weight head ≡ false → tail ≡ Some x → IsSome weight → (y : ℕ) × (head ≡ Some y) × (y ≤ x + unwrap_or weight 0)
step_label None weight head x v t s = absurd (cc)
step_label (Some z) None head x v t s = absurd (cc)
step_label (Some z) (Some w) None x v t s = absurd (cc)
step_label (Some z) (Some w) (Some y) x v t s = (y, refl, let le = ltb-false (z + w) y v in let same : z ≡ x = cc in omega arith)

-- along a walk over which no hop is violated the labels rise by no more than its weight
pub along_labels : (network : Network) (label : ℕ → Option ℕ) → ((node : ℕ) (hop : Hop) → Contains (hops_from network node) hop → violates label node hop ≡ false) → (hops : List Hop) (a b x : ℕ) → IsWalk network a hops b → label a ≡ Some x → (y : ℕ) × (label b ≡ Some y) × (y ≤ x + weight_of hops)
along_labels network label v [] a b x w e = (x, ap label (sym w) ∙ e, omega arith)
along_labels network label v (hop ∷ hops) a b x w e =
    let here = step_label (label a) hop.weight (label hop.to.0) x (v a hop w.0) e w.1 in
    let rest = along_labels network label v hops hop.to.0 b here.0 w.2 here.1 in
    (rest.0, rest.1, omega arith)

pub evidence_least : (network : Network) (label : ℕ → Option ℕ) (start target weight : ℕ) → IsEvidence network label start target weight → IsAtMostEachWalk network start target weight
evidence_least network label start target weight e others walk =
    let end = along_labels network label e.along others start target 0 walk e.at_start in
    let same : end.0 ≡ weight = let a = end.1 in let b = e.at_target in cc in
    omega arith

-- over one hop that doesn't lead out
step_in : (has : ℕ → Bool) (tail : ℕ) (hop : Hop) → leads_out has tail hop ≡ false → has tail ≡ true → IsSome hop.weight → has hop.to.0 ≡ true
step_in has tail hop l t s = inside (has tail) hop.weight (has hop.to.0) l t s
  where
    inside : (a : Bool) (w : Option ℕ) (b : Bool) → is_out a w b ≡ false → a ≡ true → IsSome w → b ≡ true
    inside a w true l t s = refl
    inside true (Some w) false l t s = absurd (cc)
    inside true None false l t s = absurd (cc)
    inside false w false l t s = absurd (cc)

pub stays_in : (network : Network) (has : ℕ → Bool) → ((node : ℕ) (hop : Hop) → Contains (hops_from network node) hop → leads_out has node hop ≡ false) → (hops : List Hop) (a b : ℕ) → IsWalk network a hops b → has a ≡ true → has b ≡ true
stays_in network has l [] a b w e = ap has (sym w) ∙ e
stays_in network has l (hop ∷ hops) a b w e = stays_in network has l hops hop.to.0 b w.2 (step_in has a hop (l a hop w.0) e w.1)

pub closed_none : (network : Network) (has : ℕ → Bool) (start target : ℕ) → IsClosed network has start target → NoWalk network start target
closed_none network has start target c hops walk = let a = stays_in network has c.along hops start target walk c.at_start in let b = c.at_target in cc
