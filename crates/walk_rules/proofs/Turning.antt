-- Walks and labels over a network that is turned round.
use Rattle.std.proofs.Common.{◌≡◌, ℕ, min, unwrap_or, Option, Some, None, List, [], ◌∷◌, ◌++◌, IsSome, refl, sym, subst, ap, ◌∙◌, arith}
use Rattle.gh_base.specs.declared.edges.Hop.{Hop}
use Rattle.gh_base.specs.Networks.{Network}
use Rattle.walk_rules.specs.Walks.{IsWalk, weight_of, cost, HasEachBack, AreTurned}
use Rattle.walk_rules.specs.Distances.{IsLabel}
use Rattle.walk_rules.proofs.Walking.{walk_push}

pub walk_back : (network back : Network) → HasEachBack network back → (hops : List Hop) (from to : ℕ) → IsWalk network from hops to → (others : List Hop) × IsWalk back to others from × (weight_of others ≡ weight_of hops)
walk_back network back h [] from to w = ([], sym w, refl)
walk_back network back h (hop ∷ hops) from to w =
    let rest = walk_back network back h hops hop.to.0 to w.2 in
    let here = h from hop w.0 w.1 in
    let on = walk_push back rest.0 here.0 to hop.to.0 from rest.1 here.1 (subst (λ (x : Option ℕ). IsSome x) (sym here.3) w.1) here.2 in
    (rest.0 ++ here.0 ∷ [], on.0, let x = on.1 in let y = rest.2 in let z : cost here.0 ≡ cost hop = ap (λ (x : Option ℕ). unwrap_or x 0) here.3 in omega arith)

pub turned_both : (out back : Network) → AreTurned out back → AreTurned back out
turned_both out back t = record { nodes = sym t.nodes; there = t.here; here = t.there }

pub turned_label : (out back : Network) → AreTurned out back → (limit a b : ℕ) (label : Option ℕ) → IsLabel back limit a b label → IsLabel out limit b a label
turned_label out back t limit a b None l = λ hops walk. let o = walk_back out back t.there hops b a walk in l o.0 o.1
turned_label out back t limit a b (Some y) l =
    let o = walk_back back out t.here l.hops a b l.walk in
    record {
      hops = o.0;
      walk = o.1;
      weight = l.weight ∙ ap (λ (n : ℕ). min n limit) (sym o.2);
      least = λ others other.
          let p = walk_back out back t.there others b a other in
          let q = l.least p.0 p.1 in
          let r = p.2 in omega arith;
    }
