-- Which items may follow, by the hops of their nodes turned round.
use Rattle.std.specs.Prelude.{◌==◌}
use Rattle.std.proofs.Common.{◌≡◌, ℕ, ◌<◌, ◌≤◌, true, Option, Some, None, is_some, List, [], ◌∷◌, ◌++◌, Contains, refl, sym, subst, ap, ◌∙◌, append_assoc, arith}
use Rattle.std.proofs.lemmas.List.{append-nil}
use Rattle.std.proofs.lemmas.Bool.Decides.{nat_tests}
use Rattle.gh_base.specs.declared.edges.Hop.{Hop}
use Rattle.gh_base.specs.Networks.{Network, LeadsToNodes}
use Rattle.walk_rules.specs.Walks.{hops_from, AreTurned}
use Rattle.prep_store.specs.declared.item.Item.{Item}
use Rattle.prep_store.specs.Evidence.{label_in, label_after, IsReached, MayFollow, MayAllFollow}
use Rattle.prep_store.specs.Steps.{gives, gives_back}
use Rattle.prep_store.proofs.Lookups.{no_some}

-- what a hop gives
pub record Gives (grain : ℕ) (items : List Item) (label : ℕ) (hop : Hop) : Type 0 where
  pub tail : ℕ
  pub tail_is : label_in items hop.to.0 ≡ Some tail
  pub weight : ℕ
  pub weighs : hop.weight ≡ Some weight
  pub label_is : label ≡ label_after grain tail weight

given_by : (grain : ℕ) (items : List Item) (label : ℕ) (hop : Hop) (tail weight : Option ℕ) → label_in items hop.to.0 ≡ tail → hop.weight ≡ weight → gives grain tail weight label ≡ true → Gives grain items label hop
given_by grain items label hop None weight a b e = absurd (cc)
given_by grain items label hop (Some tail) None a b e = absurd (cc)
given_by grain items label hop (Some tail) (Some weight) a b e = record { tail = tail; tail_is = a; weight = weight; weighs = b; label_is = grind (arith, nat_tests) }

given : (grain : ℕ) (items : List Item) (label : ℕ) (hop : Hop) → gives_back grain items label hop ≡ true → Gives grain items label hop
given grain items label hop e = given_by grain items label hop (label_in items hop.to.0) hop.weight refl refl e

-- a label that is given isn't that which stands for none
pub given_small : (grain : ℕ) (items : List Item) (label : ℕ) (hop : Hop) → gives_back grain items label hop ≡ true → label < 65535
given_small grain items label hop e = let g = given grain items label hop e in omega (arith, g.label_is)

module _ (network back : Network) (turned : AreTurned network back) (leads : LeadsToNodes network) (grain landmark : ℕ) (items : List Item) (item : Item) (some : items ≡ [] → ⊥) where
  reached_back : (hop : Hop) → Contains (hops_from back item.node.0) hop → gives_back grain items item.label hop ≡ true → IsReached network grain items item
  reached_back hop c e =
      let g = given grain items item.label hop e in
      let other = turned.here item.node.0 hop c (ap is_some g.weighs) in
      record { node = hop.to.0; label = g.tail; label_is = g.tail_is; hop = other.0; leaves = other.1; leads = other.2; weight = g.weight; weighs = other.3 ∙ g.weighs; gives = g.label_is }

  back_reached : IsReached network grain items item → (hop : Hop) × Contains (hops_from back item.node.0) hop × (gives_back grain items item.label hop ≡ true)
  back_reached r =
      let other = turned.there r.node r.hop r.leaves (ap is_some r.weighs) in
      let tail : label_in items other.0.to.0 ≡ Some r.label = ap (label_in items) other.2 ∙ r.label_is in
      let weighs : other.0.weight ≡ Some r.weight = other.3 ∙ r.weighs in
      let same : (item.label == label_after grain r.label r.weight) ≡ true = let g = r.gives in grind (arith, nat_tests) in (
        other.0,
        subst (λ (n : ℕ). Contains (hops_from back n) other.0) r.leads other.1,
        ap (λ (o : Option ℕ). gives grain o other.0.weight item.label) tail ∙ (ap (λ (o : Option ℕ). gives grain (Some r.label) o item.label) weighs ∙ same),
      )

  -- behind other items: new, and reached
  into : (xs : List Item) → (xs ≡ [] → ⊥) → label_in xs item.node.0 ≡ None → IsReached network grain xs item → MayFollow network grain landmark xs item
  into [] s n r = absurd (s refl)
  into (x ∷ xs) s n r = (n, r)

  from : (xs : List Item) → (xs ≡ [] → ⊥) → MayFollow network grain landmark xs item → (label_in xs item.node.0 ≡ None) × IsReached network grain xs item
  from [] s f = absurd (s refl)
  from (x ∷ xs) s f = f

  pub follows_not_past : network.nodes ≤ item.node.0 → MayFollow network grain landmark items item → ⊥
  follows_not_past past f = let r = (from items some f).1 in omega (arith, past, r.leads, leads r.node r.hop r.leaves)

  pub follows_not_listed : (label : ℕ) → label_in items item.node.0 ≡ Some label → MayFollow network grain landmark items item → ⊥
  follows_not_listed label listed f = no_some (sym (from items some f).0 ∙ listed)

  pub follows_if : label_in items item.node.0 ≡ None → (hop : Hop) × Contains (hops_from back item.node.0) hop × (gives_back grain items item.label hop ≡ true) → MayFollow network grain landmark items item
  follows_if new h = into items some new (reached_back h.0 h.1 h.2)

  pub follows_then : MayFollow network grain landmark items item → (hop : Hop) × Contains (hops_from back item.node.0) hop × (gives_back grain items item.label hop ≡ true)
  follows_then f = back_reached (from items some f).1

-- one more item behind others
pub follow_push : (network : Network) (grain landmark : ℕ) (before items : List Item) (item : Item) → MayAllFollow network grain landmark before items → MayFollow network grain landmark (before ++ items) item → MayAllFollow network grain landmark before (items ++ item ∷ [])
follow_push network grain landmark before [] item all f = (subst (λ (xs : List Item). MayFollow network grain landmark xs item) (append-nil before) f, tt)
follow_push network grain landmark before (x ∷ items) item all f =
    (all.0, follow_push network grain landmark (before ++ x ∷ []) items item all.1 (subst (λ (xs : List Item). MayFollow network grain landmark xs item) (sym (append_assoc before (x ∷ []) items)) f))
