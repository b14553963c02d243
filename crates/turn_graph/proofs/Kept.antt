-- The rows of a table have the restrictions that count.
use Rattle.std.specs.Ordering.{int_eq}
use Rattle.std.proofs.Common.{◌≡◌, ◌↔◌, ℕ, ℤ, suc, ◌<◌, Bool, true, Option, Some, None, List, [], ◌∷◌, filter, length, slice_get, Contains, refl, sym, ap, ◌∙◌, subst, inl, inr, arith}
use Rattle.std.proofs.lemmas.Bool.{cases_Bool, and_parts, and_from}
use Rattle.std.proofs.lemmas.Bool.Decides.{Decides-int_eq}
use Rattle.base_graph.specs.Graphs.{IsGraph, around_of}
use Rattle.turn_graph.specs.declared.turn.Turn.{Turn}
use Rattle.turn_graph.specs.Restrictions.{Streets, CountsAt}
use Rattle.turn_graph.specs.Counting.{turns_in, standing_at, has_way, counts_by}
use Rattle.turn_graph.specs.Leading.{first_or_later, from_filter}
use Rattle.turn_graph.proofs.Around.{starts_by, ends_by, has_by_start, has_by_end}

pub into_filter : {A : Type 0} (p : A → Bool) (xs : List A) (x : A) → Contains xs x → p x ≡ true → Contains (filter p xs) x
into_filter p [] x c t = absurd (omega (arith, c.1))
into_filter p (y ∷ xs) x c t = elim (first_or_later y xs x c) [
  | inl e ↦ let h : p y ≡ true = ap p e ∙ t in rw h (0, omega arith, e)
  | inr l ↦
      let rest = into_filter p xs x l t in
      elim (cases_Bool (p y)) [
        | inl h ↦ rw h (suc rest.0, omega (arith, rest.1), rest.2)
        | inr f ↦ rw f rest
      ]
]

module _ (streets : Streets) (facts : IsGraph streets.graph) (turns : List Turn) (rows : ℤ → Option (List Turn)) (each : (id : ℤ) → turns_in (rows id) ≡ filter (λ turn. int_eq id turn.via) turns) where
  -- those that stand over the node of a tower
  stands : (id : Option ℤ) (turn : Turn) → Contains (standing_at rows id) turn → Contains turns turn × (id ≡ Some turn.via)
  stands None turn c = absurd (omega (arith, c.1))
  stands (Some id) turn c =
      let from = from_filter (λ (turn : Turn). int_eq id turn.via) turns turn (rw (each id) at c) in
      (from.0, ap (λ (i : ℤ). Some i) ((Decides-int_eq id turn.via).0 from.1))

  standing : (id : Option ℤ) (turn : Turn) → Contains turns turn → id ≡ Some turn.via → Contains (standing_at rows id) turn
  standing id turn c e =
      let there : Contains (turns_in (rows turn.via)) turn =
      rw (each turn.via) (into_filter (λ (t : Turn). int_eq turn.via t.via) turns turn c ((Decides-int_eq turn.via turn.via).1 refl)) in
      subst (λ (i : Option ℤ). Contains (standing_at rows i) turn) (sym e) there

  -- of these the ones whose ways have an edge there are those that count
  pub row_is : (tower : ℕ) (turn : Turn) → tower < length streets.graph.places →
      Contains (filter (counts_by streets.ways (around_of streets.graph tower)) (standing_at rows (slice_get streets.ids tower))) turn
      ↔ (Contains turns turn × CountsAt streets turn tower)
  row_is tower turn l =
      let p = counts_by streets.ways (around_of streets.graph tower) in
      let there = standing_at rows (slice_get streets.ids tower) in
      let has : ℤ → Bool = λ way. has_way streets.ways way (around_of streets.graph tower) in (
        λ c.
            let from = from_filter p there turn c in
            let stood = stands (slice_get streets.ids tower) turn from.0 in
            let both = and_parts (has turn.from) (has turn.to) from.1 in
            (stood.0, record { via = stood.1; from = ends_by streets facts turn.from tower both.0; to = starts_by streets facts turn.to tower both.1 }),
        λ h.
            into_filter p there turn (standing (slice_get streets.ids tower) turn h.0 h.1.via)
            (and_from (has turn.from) (has turn.to) (has_by_end streets facts turn.from tower l h.1.from) (has_by_start streets facts turn.to tower l h.1.to)),
      )
