-- Two bounds that face each other, over roads and the same turned round.
use Rattle.std.proofs.Common.{◌≡◌, ℕ, ◌+◌, ◌-◌, ◌*◌, ◌^◌, ◌<◌, ◌≤◌, unwrap_or, Option, Some, None, IsSome, IfSome, List, [], ◌∷◌, refl, sym, subst, ap, ◌∙◌, arith}
use Rattle.gh_base.specs.declared.edges.Hop.{Hop}
use Rattle.gh_base.specs.Networks.{Network}
use Rattle.walk_rules.specs.Walks.{IsWalk, weight_of, cost, HasEachBack}
use Rattle.walk_rules.specs.Potentials.{IsWithin, IsFeasible}
use Rattle.walk_rules.proofs.Walking.{falls_along_walk}
use Rattle.walk_rules.proofs.Turning.{walk_back}
use Rattle.walk_rules.specs.Turned.{HasEachTurned, IsTurned}
use Rattle.two_way_search.specs.Opposed.{AreOpposed}
use Rattle.two_way_search.specs.Sides.{reduced, reduced_by, FallsTwice, AreSmall}

pub each_back : (network back : Network) → HasEachTurned network back → HasEachBack network back
each_back network back h node hop c s = let o = h node hop c s in (o.0, o.1, o.2, o.4)

pub opposed : {out back : Network} {ahead behind : ℕ → Option ℕ} {start target : ℕ} → IsTurned out back → IsFeasible out ahead target → IsFeasible back behind start → AreOpposed out back ahead behind start target
opposed turned left passed = record { turned = turned; left = left; passed = passed }

-- the same from the other end
pub facing : {out back : Network} {ahead behind : ℕ → Option ℕ} {start target : ℕ} → AreOpposed out back ahead behind start target → AreOpposed back out behind ahead target start
facing o = record {
  turned = record { nodes = sym o.turned.nodes; there = o.turned.here; here = o.turned.there };
  left = o.passed;
  passed = o.left;
}

reduced_within : (w : ℕ) (a b a' b' : Option ℕ) → IsWithin w a a' → IsWithin w b' b → IsWithin (2 * w) (reduced a b) (reduced a' b')
reduced_within w a b None b' f g y e = absurd (cc)
reduced_within w a None (Some p) None f g y e =
    let s = f p refl in
    let d : p ≡ y = cc in
    (s.0, ap (λ (o : Option ℕ). reduced o None) s.1, let k = s.2 in omega arith)
reduced_within w a None (Some p) (Some q) f g y e =
    let s = f p refl in
    let d : p + (2 ^ 64 - q) ≡ y = cc in
    (s.0, ap (λ (o : Option ℕ). reduced o None) s.1, let k = s.2 in omega arith)
reduced_within w a (Some z) (Some p) None f g y e = absurd (let s = g z refl in let t = s.1 in cc)
reduced_within w a (Some z) (Some p) (Some q) f g y e =
    let s = f p refl in
    let t = g z refl in
    let u : t.0 ≡ q = let v = t.1 in cc in
    let d : p + (2 ^ 64 - q) ≡ y = cc in
    (s.0 + (2 ^ 64 - z), ap (λ (o : Option ℕ). reduced o (Some z)) s.1, let k = s.2 in let l = t.2 in omega arith)

pub reduced_falls : {out back : Network} {ahead behind : ℕ → Option ℕ} {start target : ℕ} → AreOpposed out back ahead behind start target → FallsTwice out (reduced_by ahead behind)
reduced_falls {out} {back} {ahead} {behind} o node hop c s =
    let turned = o.turned.there node hop c s in
    let weighs : cost turned.0 ≡ cost hop = ap (λ (x : Option ℕ). unwrap_or x 0) turned.4 in
    let on = o.passed.along hop.to.0 turned.0 turned.1 (subst (λ (x : Option ℕ). IsSome x) (sym turned.4) s) in
    let rises : IsWithin (cost hop) (behind hop.to.0) (behind node) = subst (λ (w : ℕ). IsWithin w (behind hop.to.0) (behind node)) weighs (subst (λ (n : ℕ). IsWithin (cost turned.0) (behind hop.to.0) (behind n)) turned.2 on) in
    reduced_within (cost hop) (ahead node) (behind node) (ahead hop.to.0) (behind hop.to.0) (o.left.along node hop c s) rises

pub falls_twice_along : (network : Network) (bound : ℕ → Option ℕ) → FallsTwice network bound → (hops : List Hop) (from to : ℕ) → IsWalk network from hops to → IsWithin (2 * weight_of hops) (bound from) (bound to)
falls_twice_along network bound f [] from to w = λ y e. (y, ap bound w ∙ e, omega arith)
falls_twice_along network bound f (hop ∷ hops) from to w = λ y e.
    let rest = falls_twice_along network bound f hops hop.to.0 to w.2 y e in
    let here = f from hop w.0 w.1 rest.0 rest.1 in
    (here.0, here.1, omega arith)

module _ {out back : Network} {ahead behind : ℕ → Option ℕ} {start target : ℕ} (o : AreOpposed out back ahead behind start target) where
  -- a walk the other way
  pub turned_walk : (hops : List Hop) (a b : ℕ) → IsWalk out a hops b → (others : List Hop) × IsWalk back b others a × (weight_of others ≡ weight_of hops)
  turned_walk hops a b w = walk_back out back (each_back out back o.turned.there) hops a b w

  -- what lies behind rises along a walk
  pub passed_rises : (hops : List Hop) (a b : ℕ) → IsWalk out a hops b → IsWithin (weight_of hops) (behind b) (behind a)
  passed_rises hops a b w y e =
      let t = turned_walk hops a b w in
      let r = falls_along_walk back behind o.passed.along t.0 b a t.1 y e in
      (r.0, r.1, let x = t.2 in let z = r.2 in omega arith)

  -- no more lies behind a node than a walk from the start weighs
  pub passed_below : (hops : List Hop) (b : ℕ) → IsWalk out start hops b → (y : ℕ) × (behind b ≡ Some y) × (y ≤ weight_of hops)
  passed_below hops b w = let r = passed_rises hops start b w 0 o.passed.at_target in (r.0, r.1, let z = r.2 in omega arith)

-- the bound of a node with both
pub reduced_both : (ahead behind : ℕ → Option ℕ) (node x y b : ℕ) → ahead node ≡ Some x → behind node ≡ Some y → reduced_by ahead behind node ≡ Some b → b ≡ x + (2 ^ 64 - y)
reduced_both ahead behind node x y b e f r =
    let s : reduced_by ahead behind node ≡ Some (x + (2 ^ 64 - y)) = ap (λ (o : Option ℕ). reduced o (behind node)) e ∙ ap (λ (o : Option ℕ). reduced (Some x) o) f in
    cc

pub reduced_is : (ahead behind : ℕ → Option ℕ) (node x y : ℕ) → ahead node ≡ Some x → behind node ≡ Some y → reduced_by ahead behind node ≡ Some (x + (2 ^ 64 - y))
reduced_is ahead behind node x y e f = ap (λ (o : Option ℕ). reduced o (behind node)) e ∙ ap (λ (o : Option ℕ). reduced (Some x) o) f

left_of : (left passed : Option ℕ) (b : ℕ) → reduced left passed ≡ Some b → (x : ℕ) × (left ≡ Some x)
left_of None passed b e = absurd (cc)
left_of (Some x) passed b e = (x, refl)

-- where there is a bound, something is left
pub left_there : (ahead behind : ℕ → Option ℕ) (node b : ℕ) → reduced_by ahead behind node ≡ Some b → (x : ℕ) × (ahead node ≡ Some x)
left_there ahead behind node b e = left_of (ahead node) (behind node) b e

below_of : (o : Option ℕ) (x : ℕ) → IfSome o (λ x. x < 2 ^ 64) → o ≡ Some x → x < 2 ^ 64
below_of None x h e = absurd (cc)
below_of (Some y) x h e = let s : y ≡ x = cc in omega arith

pub small_left : (ahead behind : ℕ → Option ℕ) (node x : ℕ) → AreSmall ahead behind node → ahead node ≡ Some x → x < 2 ^ 64
small_left ahead behind node x a e = below_of (ahead node) x a.left e

pub small_passed : (ahead behind : ℕ → Option ℕ) (node y : ℕ) → AreSmall ahead behind node → behind node ≡ Some y → y < 2 ^ 64
small_passed ahead behind node y a e = below_of (behind node) y a.passed e
