-- Hops of a node, one after another: the first that gives a label, and the least that is open.
use Rattle.std.specs.Prelude.{IfSome, IfNone}
use Rattle.std.proofs.Common.{◌≡◌, ◌⊎◌, ℕ, ◌<◌, ◌≤◌, ◌+◌, true, false, Option, Some, None, List, [], ◌∷◌, ◌++◌, length, take, drop, slice_index_or, Contains, refl, sym, subst, ap, ◌∙◌, inl, inr, arith}
use Rattle.std.proofs.lemmas.Bool.{cases_Bool}
use Rattle.std.proofs.lemmas.List.{take_more, drop_more, take-append-drop}
use Rattle.std.proofs.lemmas.List.Elements.{Contains-push_cases}
use Rattle.gh_base.specs.declared.edges.DirEdge.{DirEdge}
use Rattle.gh_base.specs.declared.edges.Hop.{Hop}
use Rattle.gh_base.specs.Networks.{Network}
use Rattle.walk_rules.specs.Walks.{hops_from}
use Rattle.walk_rules.proofs.Options.{Contains-cons_cases}
use Rattle.traffic_core.specs.History.{index_of}
use Rattle.prep_store.proofs.Lefts.{contains_first, contains_rest}
use Rattle.prep_store.specs.declared.item.Item.{Item}
use Rattle.prep_store.specs.Evidence.{is_open, IsClosedAt, IsFirstOpenAt, IsFirstOpen}
use Rattle.prep_store.specs.Steps.{gives_back, IsStillSought, IsLeastSoFar}

pub sought_none : (grain : ℕ) (items : List Item) (label : ℕ) (hops : List Hop) → IsStillSought grain items label hops hops
sought_none grain items label hops = record { rest = λ hop c. c; none = λ hop c t. c }

-- a hop gives no label
pub sought_more : {grain : ℕ} {items : List Item} {label : ℕ} {hops left : List Hop} {hop : Hop} → IsStillSought grain items label hops (hop ∷ left) → gives_back grain items label hop ≡ false → IsStillSought grain items label hops left
sought_more {grain} {items} {label} {hops} {left} {hop} s isnt = record {
  rest = λ other c. s.rest other (contains_rest refl other c);
  none = λ other c t. elim (Contains-cons_cases hop left other (s.none other c t)) [
    | inl e ↦ absurd (let bad : gives_back grain items label other ≡ false = subst (λ (h : Hop). gives_back grain items label h ≡ false) e isnt in cc)
    | inr c ↦ c
  ];
}

pub least_none : (grain : ℕ) (items : List Item) (node : ℕ) (hops : List Hop) → IsLeastSoFar grain items node hops hops None
least_none grain items node hops = record { rest = λ hop c. c; found = λ edge e. absurd (cc); least = λ hop c o. inl c }

module _ {grain : ℕ} {items : List Item} {node : ℕ} {hops left : List Hop} {hop : Hop} {first : Option DirEdge} (s : IsLeastSoFar grain items node hops (hop ∷ left) first) where
  -- a hop isn't open
  pub least_kept : is_open grain items node hop ≡ false → IsLeastSoFar grain items node hops left first
  least_kept isnt = record {
    rest = λ other c. s.rest other (contains_rest refl other c);
    found = s.found;
    least = λ other c o. elim (s.least other c o) [
      | inl k ↦ elim (Contains-cons_cases hop left other k) [
        | inl e ↦ absurd (let bad : is_open grain items node other ≡ false = subst (λ (h : Hop). is_open grain items node h ≡ false) e isnt in cc)
        | inr later ↦ inl later
      ]
      | inr f ↦ inr f
    ];
  }

  -- a hop is open
  pub least_now : (now : DirEdge) → is_open grain items node hop ≡ true → (first ≡ Some now) ⊎ (now ≡ hop.by) → index_of now ≤ index_of hop.by → IfSome first (λ edge. index_of now ≤ index_of edge) → IsLeastSoFar grain items node hops left (Some now)
  least_now now does one least before = record {
    rest = λ other c. s.rest other (contains_rest refl other c);
    found = λ edge e. let same : now ≡ edge = cc in elim one [
      | inl f ↦ s.found edge (f ∙ ap Some same)
      | inr b ↦ (hop, s.rest hop (contains_first refl), does, sym b ∙ same)
    ];
    least = λ other c o. elim (s.least other c o) [
      | inl k ↦ elim (Contains-cons_cases hop left other k) [
        | inl e ↦ inr (now, refl, omega (arith, least, ap (λ (h : Hop). index_of h.by) e))
        | inr later ↦ inl later
      ]
      | inr f ↦ inr (now, refl, omega (arith, under first f.0 f.1 before, f.2))
    ];
  }
    where
      under : (first : Option DirEdge) (edge : DirEdge) → first ≡ Some edge → IfSome first (λ edge. index_of now ≤ index_of edge) → index_of now ≤ index_of edge
      under None edge e l = absurd (cc)
      under (Some f) edge e l = let same : f ≡ edge = cc in omega (arith, l, ap index_of same)

module _ {grain : ℕ} {items : List Item} (network : Network) {node : ℕ} {left : List Hop} {first : Option DirEdge} (s : IsLeastSoFar grain items node (hops_from network node) left first) (end : left ≡ []) where
  listed : (hop : Hop) → Contains (hops_from network node) hop → is_open grain items node hop ≡ true → (edge : DirEdge) × (first ≡ Some edge) × (index_of edge ≤ index_of hop.by)
  listed hop c o = elim (s.least hop c o) [
    | inl k ↦ absurd (let none : Contains [] hop = subst (λ (hs : List Hop). Contains hs hop) end k in omega (arith, none.1))
    | inr f ↦ f
  ]

  pub least_closed : first ≡ None → IsClosedAt network grain items node
  least_closed none hop c = elim (cases_Bool (is_open grain items node hop)) [
    | inl o ↦ absurd (let f = listed hop c o in let bad : None ≡ Some f.0 = sym none ∙ f.1 in cc)
    | inr isnt ↦ isnt
  ]

  pub least_found : (edge : DirEdge) → first ≡ Some edge → IsFirstOpenAt network grain items node edge
  least_found edge e =
      let f = s.found edge e in
      record { hop = f.0; leaves = f.1; opens = f.2; over = f.3; first = λ other c o. let l = listed other c o in let same : l.0 ≡ edge = some_one l.0 edge (sym l.1 ∙ e) in omega (arith, l.2, ap index_of same) }
    where
      some_one : (a b : DirEdge) → Some a ≡ Some b → a ≡ b
      some_one a b e = cc

-- items, one after another, of which none has an open hop
module _ (network seen : Network) (same : seen ≡ network) (grain : ℕ) (shown items : List Item) (is : shown ≡ items) (place : ℕ) (within : place < length shown) (d : Item) (closed : (item : Item) → Contains (take place items) item → IsClosedAt network grain items item.node.0) where
  pub first_of : (edge : DirEdge) → IsFirstOpenAt seen grain items (slice_index_or shown place d).node.0 edge → IsFirstOpen network grain items edge
  first_of edge at = record {
    before = take place items;
    item = slice_index_or shown place d;
    after = drop (place + 1) items;
    split = subst (λ (xs : List Item). xs ≡ take place xs ++ slice_index_or shown place d ∷ drop (place + 1) xs) is (sym (take-append-drop place shown) ∙ ap (λ (xs : List Item). take place shown ++ xs) (drop_more shown place d within));
    closed = closed;
    at = subst (λ (n : Network). IsFirstOpenAt n grain items (slice_index_or shown place d).node.0 edge) same at;
  }

  pub closed_next : IsClosedAt seen grain items (slice_index_or shown place d).node.0 → (item : Item) → Contains (take (place + 1) items) item → IsClosedAt network grain items item.node.0
  closed_next shut item c =
      let here = slice_index_or shown place d in
      let next : take (place + 1) items ≡ take place items ++ here ∷ [] = subst (λ (xs : List Item). take (place + 1) xs ≡ take place xs ++ here ∷ []) is (take_more shown place d within) in
      elim (Contains-push_cases (take place items) here item (subst (λ (xs : List Item). Contains xs item) next c)) [
        | inl before ↦ closed item before
        | inr e ↦ subst (λ (i : Item). IsClosedAt network grain items i.node.0) e (subst (λ (n : Network). IsClosedAt n grain items here.node.0) same shut)
      ]

-- by the cases of an option
pub none_then : {A : Type 0} {P : Type 0} (o : Option A) → (o ≡ None → P) → IfNone o P
none_then None f = f refl
none_then (Some x) f = tt

pub some_then : {A : Type 0} {P : A → Type 0} (o : Option A) → ((x : A) → o ≡ Some x → P x) → IfSome o P
some_then None f = tt
some_then (Some x) f = f x refl
