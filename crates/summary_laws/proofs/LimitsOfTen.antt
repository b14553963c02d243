-- Limits after changes that all set 10 km/h: each is that, or the limit that the edge opens with.
use Rattle.std.proofs.Common.{◌≡◌, ℕ, zero, suc, ◌<◌, ◌⊎◌, List, [], ◌∷◌, length, get_or, take, Option, None, Some, All, refl, sym, ap, subst, inl, inr, arith}
use Rattle.std.specs.Prelude.{unwrap_or}
use Rattle.std.specs.List.{cons_option, filter_map, last_or}
use Rattle.std.proofs.lemmas.List.{get_or-take, length-take}
use Rattle.std.proofs.lemmas.List.Elements.{All-cons, All-head, All-nil, All-tail, All-take}
use Rattle.gh_base.specs.declared.edges.DirEdge.{DirEdge}
use Rattle.base_graph.specs.Graphs.{Graph}
use Rattle.weighting.specs.Roads.{opening_of}
use Rattle.traffic_core.specs.declared.entry.Entry.{Entry}
use Rattle.traffic_core.specs.History.{limit_after, speed_on}

-- an entry gives a directed edge no limit, or 10 km/h
abbrev pub IsMild : DirEdge → Entry → Type 0
IsMild by entry = (speed_on by entry ≡ None) ⊎ (speed_on by entry ≡ Some 10000)

-- none of the first entries gives it one
abbrev pub NoneMarks : List Entry → ℕ → DirEdge → Type 0
NoneMarks journal count by = (k : ℕ) (d : Entry) → k < count → k < length journal → speed_on by (get_or journal k d) ≡ None

-- one of them gives it 10 km/h
pub record SomeMarks (journal : List Entry) (count : ℕ) (by : DirEdge) : Type 0 where
  pub place : ℕ
  pub before : place < count
  pub within : place < length journal
  pub is : (d : Entry) → speed_on by (get_or journal place d) ≡ Some 10000

pub not_both : (o : Option ℕ) (n : ℕ) → o ≡ None → o ≡ Some n → ⊥
not_both None n none some = cc
not_both (Some x) n none some = cc

record IsOldLast (f : Entry → Option ℕ) (o : Option ℕ) (h : List Entry) : Type 0 where
  is : last_or o (filter_map f h) ≡ o
  none : All (λ (e : Entry). f e ≡ None) h

record IsTenLast (f : Entry → Option ℕ) (o : Option ℕ) (h : List Entry) : Type 0 where
  is : last_or o (filter_map f h) ≡ Some 10000
  place : ℕ
  within : place < length h
  marks : (d : Entry) → f (get_or h place d) ≡ Some 10000

abbrev Mild : (Entry → Option ℕ) → Entry → Type 0
Mild f e = (f e ≡ None) ⊎ (f e ≡ Some 10000)

last_mild : (f : Entry → Option ℕ) (o : Option ℕ) (h : List Entry) → All (Mild f) h → IsOldLast f o h ⊎ IsTenLast f o h
last_mild f o [] mild = inl (record { is = refl; none = All-nil (λ (e : Entry). f e ≡ None) })
last_mild f o (e ∷ h) mild = elim (All-head (Mild f) e h mild) [
  | inl none ↦ elim (last_mild f o h (All-tail (Mild f) e h mild)) [
    | inl old ↦ inl (record {
      is = subst (λ (r : Option ℕ). last_or o (cons_option r (filter_map f h)) ≡ o) (sym none) old.is;
      none = All-cons (λ (x : Entry). f x ≡ None) e h none old.none;
    })
    | inr ten ↦ inr (record {
      is = subst (λ (r : Option ℕ). last_or o (cons_option r (filter_map f h)) ≡ Some 10000) (sym none) ten.is;
      place = suc ten.place;
      within = let w = ten.within in omega arith;
      marks = ten.marks;
    })
  ]
  | inr some ↦ elim (last_mild f (Some 10000) h (All-tail (Mild f) e h mild)) [
    | inl old ↦ inr (record {
      is = subst (λ (r : Option ℕ). last_or o (cons_option r (filter_map f h)) ≡ Some 10000) (sym some) old.is;
      place = zero;
      within = omega arith;
      marks = λ d. some;
    })
    | inr ten ↦ inr (record {
      is = subst (λ (r : Option ℕ). last_or o (cons_option r (filter_map f h)) ≡ Some 10000) (sym some) ten.is;
      place = suc ten.place;
      within = let w = ten.within in omega arith;
      marks = ten.marks;
    })
  ]
]

-- no entry so far changed the limit, or one did
pub record IsOpening (graph : Graph) (journal : List Entry) (by : DirEdge) (count : ℕ) : Type 0 where
  pub is : limit_after graph (take count journal) by ≡ opening_of graph by
  pub none : NoneMarks journal count by

pub record IsTen (graph : Graph) (journal : List Entry) (by : DirEdge) (count : ℕ) : Type 0 where
  pub is : limit_after graph (take count journal) by ≡ 10000
  pub some : SomeMarks journal count by

pub limit_cases : (graph : Graph) (journal : List Entry) (by : DirEdge) → All (IsMild by) journal → (count : ℕ) → IsOpening graph journal by count ⊎ IsTen graph journal by count
limit_cases graph journal by mild count = elim (last_mild (speed_on by) None (take count journal) (All-take (IsMild by) count journal mild)) [
  | inl old ↦ inl (record {
    is = ap (λ (o : Option ℕ). unwrap_or o (opening_of graph by)) old.is;
    none = λ k d below within. subst (λ (e : Entry). speed_on by e ≡ None) (get_or-take count journal k d below) (old.none k d (omega (arith, length-take count journal)));
  })
  | inr ten ↦
      let w = ten.within in
      let below : ten.place < count = omega (arith, length-take count journal) in
      inr (record {
        is = ap (λ (o : Option ℕ). unwrap_or o (opening_of graph by)) ten.is;
        some = record {
          place = ten.place;
          before = below;
          within = omega (arith, length-take count journal);
          is = λ d. subst (λ (e : Entry). speed_on by e ≡ Some 10000) (get_or-take count journal ten.place d below) (ten.marks d);
        };
      })
]
