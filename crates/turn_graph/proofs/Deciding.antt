-- The tests of a table decide what is banned.
use Rattle.std.specs.Ordering.{int_eq}
use Rattle.std.proofs.Common.{◌≡◌, ◌≢◌, ℤ, ◌<◌, ◌==◌, ◌||◌, not, Bool, true, false, List, length, refl, subst, inl, inr}
use Rattle.std.proofs.lemmas.Bool.{cases_Bool, and_parts, and_from, eq-eqb, eqb-true}
use Rattle.std.proofs.lemmas.Bool.Decides.{Decides-int_eq}
use Rattle.gh_base.specs.declared.edges.DirEdge.{DirEdge}
use Rattle.base_graph.specs.Graphs.{same_side}
use Rattle.turn_graph.specs.declared.turn.Turn.{Turn}
use Rattle.turn_graph.specs.Restrictions.{Streets, end_of, way_of, AreOpposite, BansInto, IsBanned}
use Rattle.turn_graph.specs.Tables.{Table, IsTableOf, row_at, are_opposite, bans_into, bans, is_banned}
use Rattle.turn_graph.proofs.Around.{some_passes, passes_some}

pub not_true : (b : Bool) → not b ≡ true → b ≡ false
not_true true t = absurd (cc)
not_true false t = refl

pub true_not : (b : Bool) → b ≡ false → not b ≡ true
true_not true t = absurd (cc)
true_not false t = refl

same_side_true : (a b : Bool) → same_side a b ≡ false → a ≢ b
same_side_true true true t = λ _. absurd (cc)
same_side_true true false t = λ e. cc
same_side_true false true t = λ e. cc
same_side_true false false t = λ _. absurd (cc)

other_side : (a b : Bool) → a ≢ b → same_side a b ≡ false
other_side true true n = absurd (n refl)
other_side true false n = refl
other_side false true n = refl
other_side false false n = absurd (n refl)

opposite_is : (a b : DirEdge) → are_opposite a b ≡ true → AreOpposite a b
opposite_is a b t =
    let parts = and_parts (a.edge.0 == b.edge.0) (not (same_side a.reverse b.reverse)) t in
    record { edge = eqb-true a.edge.0 b.edge.0 parts.0; reverse = same_side_true a.reverse b.reverse (not_true (same_side a.reverse b.reverse) parts.1) }

is_opposite : (a b : DirEdge) → AreOpposite a b → are_opposite a b ≡ true
is_opposite a b o = and_from (a.edge.0 == b.edge.0) (not (same_side a.reverse b.reverse)) (eq-eqb a.edge.0 b.edge.0 o.edge) (true_not (same_side a.reverse b.reverse) (other_side a.reverse b.reverse o.reverse))

-- one or the other, where the first is a test of an equation
implied : (x y : ℤ) (b : Bool) → (not (int_eq x y) || b) ≡ true → x ≡ y → b ≡ true
implied x y b t e = let same : int_eq x y ≡ true = (Decides-int_eq x y).1 e in rw same at t

implies : (x y : ℤ) (b : Bool) → (x ≡ y → b ≡ true) → (not (int_eq x y) || b) ≡ true
implies x y b h = elim (cases_Bool (int_eq x y)) [
  | inl t ↦ rw t (h ((Decides-int_eq x y).0 t))
  | inr f ↦ rw f refl
]

differs : (x y : ℤ) → not (int_eq x y) ≡ true → x ≢ y
differs x y t e = let same : int_eq x y ≡ true = (Decides-int_eq x y).1 e in absurd (let f : not true ≡ true = rw same at t in cc)

different : (x y : ℤ) → x ≢ y → not (int_eq x y) ≡ true
different x y n = elim (cases_Bool (int_eq x y)) [
  | inl t ↦ absurd (n ((Decides-int_eq x y).0 t))
  | inr f ↦ rw f refl
]

bans_into_is : (only : Bool) (ways : List ℤ) (turn : Turn) (a b : DirEdge) → bans_into only ways turn a b ≡ true → BansInto only ways turn a b
bans_into_is true ways turn a b t = differs (way_of ways b) turn.to t
bans_into_is false ways turn a b t =
    let parts = and_parts (int_eq (way_of ways b) turn.to) (not (int_eq turn.from turn.to) || are_opposite a b) t in
    record {
      to = (Decides-int_eq (way_of ways b) turn.to).0 parts.0;
      back = λ e. opposite_is a b (implied turn.from turn.to (are_opposite a b) parts.1 e);
    }

is_bans_into : (only : Bool) (ways : List ℤ) (turn : Turn) (a b : DirEdge) → BansInto only ways turn a b → bans_into only ways turn a b ≡ true
is_bans_into true ways turn a b h = different (way_of ways b) turn.to h
is_bans_into false ways turn a b h =
    and_from (int_eq (way_of ways b) turn.to) (not (int_eq turn.from turn.to) || are_opposite a b)
    ((Decides-int_eq (way_of ways b) turn.to).1 h.to)
    (implies turn.from turn.to (are_opposite a b) (λ e. is_opposite a b (h.back e)))

module _ (streets : Streets) (turns : List Turn) (table : Table) (is : IsTableOf streets turns table) (a b : DirEdge) (there : end_of streets.graph a < length streets.graph.places) where
  -- what the table bans is banned
  pub banned_by : is_banned streets.graph table a b ≡ true → IsBanned streets turns a b
  banned_by t =
      let some = some_passes (bans table.ways a b) (row_at table (end_of streets.graph a)) t in
      let kept = (is.each (end_of streets.graph a) some.0 there).0 some.1 in
      let parts = and_parts (int_eq (way_of table.ways a) some.0.from) (bans_into some.0.only table.ways some.0 a b) some.2 in
      record {
        turn = some.0;
        listed = kept.0;
        counts = kept.1;
        from = subst (λ (ways : List ℤ). way_of ways a ≡ some.0.from) is.ways ((Decides-int_eq (way_of table.ways a) some.0.from).0 parts.0);
        onto = subst (λ (ways : List ℤ). BansInto some.0.only ways some.0 a b) is.ways (bans_into_is some.0.only table.ways some.0 a b parts.1);
      }

  -- and what is banned the table bans
  pub by_banned : IsBanned streets turns a b → is_banned streets.graph table a b ≡ true
  by_banned h =
      let kept = (is.each (end_of streets.graph a) h.turn there).1 (h.listed, h.counts) in
      let first : int_eq (way_of table.ways a) h.turn.from ≡ true = rw is.ways ((Decides-int_eq (way_of streets.ways a) h.turn.from).1 h.from) in
      let second : bans_into h.turn.only table.ways h.turn a b ≡ true = rw is.ways (is_bans_into h.turn.only streets.ways h.turn a b h.onto) in
      passes_some (bans table.ways a b) (row_at table (end_of streets.graph a)) h.turn kept
      (and_from (int_eq (way_of table.ways a) h.turn.from) (bans_into h.turn.only table.ways h.turn a b) first second)
