-- Whole grains: why they bound what isn't rounded, and why 16 bits keep them.
use Rattle.std.specs.Prelude.{◌==◌}
use Rattle.std.proofs.Common.{◌≡◌, ℕ, ◌+◌, ◌*◌, ◌/◌, ◌%◌, ◌^◌, ◌<◌, ◌≤◌, min, false, Option, Some, None, List, [], ◌∷◌, map, IsSome, Contains, unwrap_or, mul-add, refl, sym, ap, ◌∙◌, inl, inr, zero, suc, arith}
use Rattle.std.proofs.lemmas.Bool.{cases_lt, ne_eqb}
use Rattle.std.proofs.Math.Nat.{mul-le-mul_left, mul-div_cancel_left}
use Rattle.gh_base.specs.declared.edges.Hop.{Hop}
use Rattle.gh_base.specs.Networks.{Network}
use Rattle.walk_rules.specs.Walks.{IsWalk, weight_of, cost, IsNoFaster}
use Rattle.walk_rules.specs.Distances.{rounded, rounded_hop, in_grains, IsLabel}
use Rattle.label_spread.specs.Cutting.{cut, Contains-map_from}
use Rattle.landmark_prep.specs.Packing.{packed, unpacked}

pub Contains-map : {A B : Type 0} (f : A → B) (xs : List A) (x : A) → Contains xs x → Contains (map f xs) (f x)
Contains-map f [] x c = absurd (omega (arith, c.1))
Contains-map f (y ∷ xs) x (zero, l, e) = (0, omega arith, ap f e)
Contains-map f (y ∷ xs) x (suc k, l, e) = let rest = Contains-map f xs x (k, omega arith, e) in (suc rest.0, omega (arith, rest.1), rest.2)

rounds_down : (grain : ℕ) (weight : Option ℕ) → 1 ≤ grain → IsSome weight → IsSome (rounded grain weight) × (unwrap_or (rounded grain weight) 0 ≤ unwrap_or weight 0)
rounds_down grain None l s = absurd (cc)
rounds_down grain (Some w) l s = (refl, omega arith)

-- a network is no faster than itself in whole grains
pub grains_no_faster : (grain : ℕ) (base : Network) → 1 ≤ grain → IsNoFaster (in_grains grain base) base
grains_no_faster grain base l node hop c s =
    let down = rounds_down grain hop.weight l s in
    (rounded_hop grain hop, Contains-map (rounded_hop grain) (base.hops node) hop c, down.0, refl, down.1)

-- a label cut at less
pub label_cut : (network : Network) (limit less a b : ℕ) (label : Option ℕ) → less ≤ limit → IsLabel network limit a b label → IsLabel network less a b (cut less label)
label_cut network limit less a b None l n = n
label_cut network limit less a b (Some y) l n = record {
  hops = n.hops;
  walk = n.walk;
  weight = let e = n.weight in omega arith;
  least = λ others walk. let e = n.least others walk in omega arith;
}

whole_hop : (grain : ℕ) (weight : Option ℕ) → (k : ℕ) × (unwrap_or (rounded grain weight) 0 ≡ grain * k)
whole_hop grain None = (0, omega arith)
whole_hop grain (Some w) = (w / grain, refl)

-- each walk weighs whole grains
pub whole_grains : (grain : ℕ) (base : Network) (hops : List Hop) (a b : ℕ) → IsWalk (in_grains grain base) a hops b → (k : ℕ) × (weight_of hops ≡ grain * k)
whole_grains grain base [] a b w = (0, omega arith)
whole_grains grain base (hop ∷ hops) a b w =
    let rest = whole_grains grain base hops hop.to.0 b w.2 in
    let from = Contains-map_from (rounded_hop grain) (base.hops a) hop w.0 in
    let here : hop.weight ≡ rounded grain from.0.weight = ap (λ (h : Hop). h.weight) (sym from.2) in
    let one = whole_hop grain from.0.weight in
    let weighs : cost hop ≡ grain * one.0 = ap (λ (o : Option ℕ). unwrap_or o 0) here ∙ one.1 in
    (one.0 + rest.0, rw (mul-add grain one.0 rest.0) (let e = rest.1 in omega arith))

-- so many grains, of which at most 65534 count
grains_least : (grain k : ℕ) → grain * min k 65534 ≡ min (grain * k) (65534 * grain)
grains_least grain k = elim (cases_lt k 65534) [
  | inl l ↦
      let few : min k 65534 ≡ k = omega arith in
      let less : grain * k ≤ grain * 65534 = mul-le-mul_left grain (omega arith) in
      rw few (omega arith)
  | inr l ↦
      let many : min k 65534 ≡ 65534 = omega arith in
      let more : grain * 65534 ≤ grain * k = mul-le-mul_left grain l in
      rw many (omega arith)
]

-- whole grains, or more than can be kept: the number of grains gives the label cut at 65534 grains
packed_whole : (grain k y : ℕ) → 1 ≤ grain → grain ≤ 2 ^ 46 → y ≡ min (grain * k) (2 ^ 62) → grain * min (y / grain) 65534 ≡ min y (65534 * grain)
packed_whole grain k y fine coarse e = elim (cases_lt (2 ^ 62) (grain * k)) [
  | inl l ↦
      let far : y ≡ 2 ^ 62 = omega arith in
      let whole : grain * (y / grain) + y % grain ≡ y = omega arith in
      let rest : y % grain < grain = omega arith in
      let many : 65534 ≤ y / grain = many_grains grain (y / grain) (y % grain) fine coarse (whole ∙ far) rest in
      let most : min (y / grain) 65534 ≡ 65534 = omega arith in
      rw most (omega arith)
  | inr l ↦
      let near : y ≡ grain * k = omega arith in
      let number : y / grain ≡ k = ap (λ (n : ℕ). n / grain) near ∙ mul-div_cancel_left k fine in
      rw number (grains_least grain k ∙ ap (λ (n : ℕ). min n (65534 * grain)) (sym near))
]
  where
    many_grains : (grain n r : ℕ) → 1 ≤ grain → grain ≤ 2 ^ 46 → grain * n + r ≡ 2 ^ 62 → r < grain → 65534 ≤ n
    many_grains grain n r fine coarse e l = elim (cases_lt n 65534) [
      | inr m ↦ m
      | inl m ↦ absurd (let less : grain * n ≤ grain * 65533 = mul-le-mul_left grain (omega arith) in omega arith)
    ]

-- a label that is kept in 16 bits is the label cut at 65534 grains
pub kept_label : (grain : ℕ) (base : Network) (a b : ℕ) (label : Option ℕ) → 1 ≤ grain → grain ≤ 2 ^ 46 → IsLabel (in_grains grain base) (2 ^ 62) a b label → IsLabel (in_grains grain base) (65534 * grain) a b (unpacked grain (packed grain label))
kept_label grain base a b None fine coarse n = n
kept_label grain base a b (Some y) fine coarse n =
    let whole = whole_grains grain base n.hops a b n.walk in
    let number : min (y / grain) 65534 == 65535 ≡ false = ne_eqb (min (y / grain) 65534) 65535 (λ same. omega arith) in
    let same : grain * min (y / grain) 65534 ≡ min y (65534 * grain) = packed_whole grain whole.0 y fine coarse (n.weight ∙ ap (λ (w : ℕ). min w (2 ^ 62)) whole.1) in
    rw (number, same) (label_cut (in_grains grain base) (2 ^ 62) (65534 * grain) a b (Some y) (omega arith) n)
