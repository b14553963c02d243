-- Links stay right as towers and edges are added.
use Rattle.std.proofs.Common.{◌≡◌, ℕ, suc, ◌+◌, ◌*◌, ◌/◌, ◌%◌, ◌<◌, ◌≤◌, Bool, true, false, cond, eqb, List, [], ◌∷◌, ◌++◌, length, get_or, set, inl, inr, refl, sym, ap, ◌∙◌, subst, arith, length-set, Result, Ok, Err, OnOk, OnErr}
use Rattle.std.proofs.lemmas.Bool.{cases_eq, cases_lt, cases_order, eq-eqb, ne_eqb}
use Rattle.std.proofs.lemmas.List.{get_or_append_left, get_or_push, get_or-set_same, get_or-set_other, length_push}
use Rattle.base_graph.specs.declared.graph.EdgeEnds.{EdgeEnds}
use Rattle.segment_graph.specs.declared.row.EdgeRow.{EdgeRow}
use Rattle.segment_graph.specs.Halves.{link_below}
use Rattle.segment_graph.specs.Rows.{AreLinked, no_row, row_at, tower_on, next_on, tower_by, next_of, linked_row}
use Rattle.segment_graph.proofs.Listing.{same_link, no_link}

pub none_linked : AreLinked [] []
none_linked = record {
  few = omega arith;
  towers = λ h l. absurd (omega arith);
  first = λ tower l. absurd (omega arith);
  next = λ h l. absurd (omega arith);
}

-- a tower that nothing leaves
pub tower_linked : (heads : List ℕ) (rows : List EdgeRow) → AreLinked heads rows → AreLinked (heads ++ 0 ∷ []) rows
tower_linked heads rows linked =
    let more = length_push heads 0 in
    record {
      few = linked.few;
      towers = λ h l. let below = linked.towers h l in omega arith;
      first = λ tower l. elim (cases_lt tower (length heads)) [
        | inl old ↦ get_or_append_left heads (0 ∷ []) 0 tower old ∙ linked.first tower old
        | inr new ↦
            let last : length heads ≡ tower = omega arith in
            get_or_push heads 0 0 tower last
            ∙ sym (no_link (tower_by rows) tower (2 * length rows) (λ h b. let below = linked.towers h b in omega arith))
      ];
      next = linked.next;
    }

-- what rows say of half-edges doesn't change when a row comes behind them
old_row : (rows : List EdgeRow) (row : EdgeRow) (h : ℕ) → h < 2 * length rows → row_at (rows ++ row ∷ []) (h / 2) ≡ row_at rows (h / 2)
old_row rows row h l = get_or_append_left rows (row ∷ []) no_row (h / 2) (omega arith)

old_tower : (rows : List EdgeRow) (row : EdgeRow) (h : ℕ) → h < 2 * length rows → tower_by (rows ++ row ∷ []) h ≡ tower_by rows h
old_tower rows row h l = ap (λ (r : EdgeRow). cond {A = ℕ} (eqb (h % 2) 1) r.adjacent.0 r.base.0) (old_row rows row h l)

old_next : (rows : List EdgeRow) (row : EdgeRow) (h : ℕ) → h < 2 * length rows → next_of (rows ++ row ∷ []) h ≡ next_of rows h
old_next rows row h l = ap (λ (r : EdgeRow). cond {A = ℕ} (eqb (h % 2) 1) r.next_at_adjacent r.next_at_base) (old_row rows row h l)

-- and what they say of the new ones
new_row : (rows : List EdgeRow) (row : EdgeRow) (h : ℕ) → h / 2 ≡ length rows → row_at (rows ++ row ∷ []) (h / 2) ≡ row
new_row rows row h e = get_or_push rows row no_row (h / 2) (sym e)

picked : (rows : List EdgeRow) (row : EdgeRow) (pick : Bool → EdgeRow → ℕ) (h : ℕ) (side : Bool) → h / 2 ≡ length rows → eqb (h % 2) 1 ≡ side
    → pick (eqb (h % 2) 1) (row_at (rows ++ row ∷ []) (h / 2)) ≡ pick side row
picked rows row pick h side e s = ap (λ (b : Bool). pick b (row_at (rows ++ row ∷ []) (h / 2))) s ∙ ap (pick side) (new_row rows row h e)

even : (n : ℕ) → eqb (2 * n % 2) 1 ≡ false
even n = ne_eqb (2 * n % 2) 1 (λ e. absurd (omega arith))

odd : (n : ℕ) → eqb (suc (2 * n) % 2) 1 ≡ true
odd n = eq-eqb (suc (2 * n) % 2) 1 (omega arith)

base_left : (rows : List EdgeRow) (row : EdgeRow) → tower_by (rows ++ row ∷ []) (2 * length rows) ≡ row.base.0
base_left rows row = picked rows row tower_on (2 * length rows) false (omega arith) (even (length rows))

adjacent_left : (rows : List EdgeRow) (row : EdgeRow) → tower_by (rows ++ row ∷ []) (suc (2 * length rows)) ≡ row.adjacent.0
adjacent_left rows row = picked rows row tower_on (suc (2 * length rows)) true (omega arith) (odd (length rows))

base_next : (rows : List EdgeRow) (row : EdgeRow) → next_of (rows ++ row ∷ []) (2 * length rows) ≡ row.next_at_base
base_next rows row = picked rows row next_on (2 * length rows) false (omega arith) (even (length rows))

adjacent_next : (rows : List EdgeRow) (row : EdgeRow) → next_of (rows ++ row ∷ []) (suc (2 * length rows)) ≡ row.next_at_adjacent
adjacent_next rows row = picked rows row next_on (suc (2 * length rows)) true (omega arith) (odd (length rows))

-- a new row whose links are the heads that its towers had, the base first
pub record IsNext (heads : List ℕ) (rows : List EdgeRow) (row : EdgeRow) : Type 0 where
  pub base : row.base.0 < length heads
  pub adjacent : row.adjacent.0 < length heads
  pub room : length rows < 4000000
  pub at_base : row.next_at_base ≡ get_or heads row.base.0 0
  pub at_adjacent : row.next_at_adjacent ≡ cond {A = ℕ} (eqb row.adjacent.0 row.base.0) (2 * length rows + 1) (get_or heads row.adjacent.0 0)

-- below the new half-edges links are as they were
same_below : (rows : List EdgeRow) (row : EdgeRow) (tower n : ℕ) → n ≤ 2 * length rows
    → link_below (tower_by rows) tower n ≡ link_below (tower_by (rows ++ row ∷ [])) tower n
same_below rows row tower n l = same_link (tower_by rows) (tower_by (rows ++ row ∷ [])) tower n (λ h b. sym (old_tower rows row h (omega arith)))

-- the link above the first new half-edge
link_base : (rows : List EdgeRow) (row : EdgeRow) (tower : ℕ)
    → link_below (tower_by (rows ++ row ∷ [])) tower (suc (2 * length rows))
    ≡ cond {A = ℕ} (eqb row.base.0 tower) (suc (2 * length rows)) (link_below (tower_by rows) tower (2 * length rows))
link_base rows row tower =
    let n = 2 * length rows in
    ap (λ (t : ℕ). cond {A = ℕ} (eqb t tower) (suc n) (link_below (tower_by (rows ++ row ∷ [])) tower n)) (base_left rows row)
    ∙ ap (λ (m : ℕ). cond {A = ℕ} (eqb row.base.0 tower) (suc n) m) (sym (same_below rows row tower n (omega arith)))

-- and above both
link_both : (rows : List EdgeRow) (row : EdgeRow) (tower : ℕ)
    → link_below (tower_by (rows ++ row ∷ [])) tower (2 * length (rows ++ row ∷ []))
    ≡ cond {A = ℕ} (eqb row.adjacent.0 tower) (suc (suc (2 * length rows)))
    (cond {A = ℕ} (eqb row.base.0 tower) (suc (2 * length rows)) (link_below (tower_by rows) tower (2 * length rows)))
link_both rows row tower =
    let leaves = tower_by (rows ++ row ∷ []) in
    let n = 2 * length rows in
    let two : 2 * length (rows ++ row ∷ []) ≡ suc (suc n) = omega (arith, length_push rows row) in
    ap (link_below leaves tower) two
    ∙ (ap (λ (t : ℕ). cond {A = ℕ} (eqb t tower) (suc (suc n)) (link_below leaves tower (suc n))) (adjacent_left rows row)
    ∙ ap (λ (m : ℕ). cond {A = ℕ} (eqb row.adjacent.0 tower) (suc (suc n)) m) (link_base rows row tower))

-- the heads that lead to the new half-edges
abbrev pub heads_after : List ℕ → List EdgeRow → EdgeRow → List ℕ
heads_after heads rows row = set (set heads row.base.0 (2 * length rows + 1)) row.adjacent.0 (2 * length rows + 2)

length-heads : (heads : List ℕ) (rows : List EdgeRow) (row : EdgeRow) → length (heads_after heads rows row) ≡ length heads
length-heads heads rows row = length-set (set heads row.base.0 (2 * length rows + 1)) row.adjacent.0 (2 * length rows + 2) ∙ length-set heads row.base.0 (2 * length rows + 1)

first_after : (heads : List ℕ) (rows : List EdgeRow) (row : EdgeRow) (tower : ℕ) → AreLinked heads rows → IsNext heads rows row → tower < length heads
    → get_or (heads_after heads rows row) tower 0 ≡ link_below (tower_by (rows ++ row ∷ [])) tower (2 * length (rows ++ row ∷ []))
first_after heads rows row tower linked new l =
    let n = 2 * length rows in
    let once = set heads row.base.0 (n + 1) in
    let there : row.adjacent.0 < length once = let h = new.adjacent in omega (arith, length-set heads row.base.0 (n + 1)) in
    let link : link_below (tower_by (rows ++ row ∷ [])) tower (2 * length (rows ++ row ∷ []))
    ≡ cond {A = ℕ} (eqb row.adjacent.0 tower) (suc (suc n)) (cond {A = ℕ} (eqb row.base.0 tower) (suc n) (link_below (tower_by rows) tower n)) = link_both rows row tower in
    elim (cases_eq row.adjacent.0 tower) [
      | inl e ↦
          ap (λ (t : ℕ). get_or (set once row.adjacent.0 (n + 2)) t 0) (sym e)
          ∙ (get_or-set_same once row.adjacent.0 (n + 2) 0 there
          ∙ sym (link ∙ (ap (λ (b : Bool). cond {A = ℕ} b (suc (suc n)) (cond {A = ℕ} (eqb row.base.0 tower) (suc n) (link_below (tower_by rows) tower n))) (eq-eqb row.adjacent.0 tower e) ∙ omega arith)))
      | inr a ↦
          let past : link_below (tower_by (rows ++ row ∷ [])) tower (2 * length (rows ++ row ∷ []))
          ≡ cond {A = ℕ} (eqb row.base.0 tower) (suc n) (link_below (tower_by rows) tower n) =
          link ∙ ap (λ (b : Bool). cond {A = ℕ} b (suc (suc n)) (cond {A = ℕ} (eqb row.base.0 tower) (suc n) (link_below (tower_by rows) tower n))) (ne_eqb row.adjacent.0 tower a) in
          get_or-set_other once row.adjacent.0 tower (n + 2) 0 (λ q. a (sym q))
          ∙ elim (cases_eq row.base.0 tower) [
            | inl e ↦
                ap (λ (t : ℕ). get_or (set heads row.base.0 (n + 1)) t 0) (sym e)
                ∙ (get_or-set_same heads row.base.0 (n + 1) 0 new.base
                ∙ sym (past ∙ (ap (λ (b : Bool). cond {A = ℕ} b (suc n) (link_below (tower_by rows) tower n)) (eq-eqb row.base.0 tower e) ∙ omega arith)))
            | inr b ↦
                get_or-set_other heads row.base.0 tower (n + 1) 0 (λ q. b (sym q))
                ∙ (linked.first tower l
                ∙ sym (past ∙ ap (λ (b' : Bool). cond {A = ℕ} b' (suc n) (link_below (tower_by rows) tower n)) (ne_eqb row.base.0 tower b)))
          ]
    ]

-- the links of the new row
link_adjacent : (heads : List ℕ) (rows : List EdgeRow) (row : EdgeRow) → AreLinked heads rows → IsNext heads rows row
    → row.next_at_adjacent ≡ link_below (tower_by (rows ++ row ∷ [])) row.adjacent.0 (suc (2 * length rows))
link_adjacent heads rows row linked new =
    let n = 2 * length rows in
    let link = link_base rows row row.adjacent.0 in
    new.at_adjacent ∙ elim (cases_eq row.adjacent.0 row.base.0) [
      | inl e ↦
          ap (λ (b : Bool). cond {A = ℕ} b (n + 1) (get_or heads row.adjacent.0 0)) (eq-eqb row.adjacent.0 row.base.0 e)
          ∙ sym (link ∙ (ap (λ (b : Bool). cond {A = ℕ} b (suc n) (link_below (tower_by rows) row.adjacent.0 n)) (eq-eqb row.base.0 row.adjacent.0 (sym e)) ∙ omega arith))
      | inr a ↦
          ap (λ (b : Bool). cond {A = ℕ} b (n + 1) (get_or heads row.adjacent.0 0)) (ne_eqb row.adjacent.0 row.base.0 a)
          ∙ (linked.first row.adjacent.0 new.adjacent
          ∙ sym (link ∙ ap (λ (b : Bool). cond {A = ℕ} b (suc n) (link_below (tower_by rows) row.adjacent.0 n)) (ne_eqb row.base.0 row.adjacent.0 (λ q. a (sym q)))))
    ]

next_after : (heads : List ℕ) (rows : List EdgeRow) (row : EdgeRow) (h : ℕ) → AreLinked heads rows → IsNext heads rows row → h < 2 * length (rows ++ row ∷ [])
    → next_of (rows ++ row ∷ []) h ≡ link_below (tower_by (rows ++ row ∷ [])) (tower_by (rows ++ row ∷ []) h) h
next_after heads rows row h linked new l =
    let leaves = tower_by (rows ++ row ∷ []) in
    let n = 2 * length rows in
    let more = length_push rows row in
    elim (cases_order h n) [
      | inl e ↦
          subst (λ (k : ℕ). next_of (rows ++ row ∷ []) k ≡ link_below leaves (leaves k) k) (sym e)
          (base_next rows row ∙ (new.at_base ∙ (linked.first row.base.0 new.base
          ∙ (same_below rows row row.base.0 n (omega arith) ∙ ap (λ (t : ℕ). link_below leaves t n) (sym (base_left rows row))))))
      | inr q ↦ elim q [
        | inl old ↦
            old_next rows row h old
            ∙ (linked.next h old
            ∙ (same_below rows row (tower_by rows h) h (omega arith) ∙ ap (λ (t : ℕ). link_below leaves t h) (sym (old_tower rows row h old))))
        | inr above ↦
            let last : suc n ≡ h = omega arith in
            subst (λ (k : ℕ). next_of (rows ++ row ∷ []) k ≡ link_below leaves (leaves k) k) last
            (adjacent_next rows row ∙ (link_adjacent heads rows row linked new ∙ ap (λ (t : ℕ). link_below leaves t (suc n)) (sym (adjacent_left rows row))))
      ]
    ]

towers_after : (heads : List ℕ) (rows : List EdgeRow) (row : EdgeRow) (h : ℕ) → AreLinked heads rows → IsNext heads rows row → h < 2 * length (rows ++ row ∷ [])
    → tower_by (rows ++ row ∷ []) h < length heads
towers_after heads rows row h linked new l =
    let n = 2 * length rows in
    let more = length_push rows row in
    let base = new.base in
    let adjacent = new.adjacent in
    elim (cases_order h n) [
      | inl e ↦ let there : tower_by (rows ++ row ∷ []) h ≡ row.base.0 = ap (tower_by (rows ++ row ∷ [])) e ∙ base_left rows row in omega arith
      | inr q ↦ elim q [
        | inl old ↦ let there = old_tower rows row h old in let below = linked.towers h old in omega arith
        | inr above ↦
            let last : h ≡ suc n = omega arith in
            let there : tower_by (rows ++ row ∷ []) h ≡ row.adjacent.0 = ap (tower_by (rows ++ row ∷ [])) last ∙ adjacent_left rows row in
            omega arith
      ]
    ]

pub edge_linked : (heads : List ℕ) (rows : List EdgeRow) (row : EdgeRow) → AreLinked heads rows → IsNext heads rows row
    → AreLinked (heads_after heads rows row) (rows ++ row ∷ [])
edge_linked heads rows row linked new =
    let more = length_push rows row in
    let room = new.room in
    let long = length-heads heads rows row in
    record {
      few = omega arith;
      towers = λ h l. let below = towers_after heads rows row h linked new l in omega arith;
      first = λ tower l. first_after heads rows row tower linked new (omega arith);
      next = λ h l. next_after heads rows row h linked new l;
    }

-- whatever came of adding a tower
pub tower_linked_by : {E : Type 0} (heads new : List ℕ) (rows : List EdgeRow) (result : Result Unit E) → AreLinked heads rows
    → OnOk result (new ≡ heads ++ 0 ∷ []) → OnErr result (new ≡ heads) → AreLinked new rows
tower_linked_by heads new rows (Ok u) linked ok err = subst (λ (hs : List ℕ). AreLinked hs rows) (sym ok) (tower_linked heads rows linked)
tower_linked_by heads new rows (Err u) linked ok err = subst (λ (hs : List ℕ). AreLinked hs rows) (sym err) linked

-- an edge is added, step by step
pub edge_linked_by : (heads : List ℕ) (rows : List EdgeRow) (ends : EdgeEnds) (first_point end_point count : ℕ) (row : EdgeRow) (new : List EdgeRow) (once twice : List ℕ)
    → AreLinked heads rows → count ≡ length rows → ends.base.0 < length heads → ends.adjacent.0 < length heads → length rows < 4000000
    → row ≡ linked_row heads (length rows) ends first_point end_point → new ≡ rows ++ row ∷ []
    → once ≡ set heads ends.base.0 (2 * count + 1) → twice ≡ set once ends.adjacent.0 (2 * count + 2) → AreLinked twice new
edge_linked_by heads rows ends first_point end_point count row new once twice linked c base adjacent room r n o t =
    rw (t, o, n, r, c) (edge_linked heads rows (linked_row heads (length rows) ends first_point end_point) linked
    (record { base = base; adjacent = adjacent; room = room; at_base = refl; at_adjacent = refl }))
