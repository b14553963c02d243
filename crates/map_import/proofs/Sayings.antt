-- The definitions of roads in other words.
use Rattle.std.specs.List.{flat_map, slice_range}
use Rattle.std.proofs.Common.{◌≡◌, ℕ, suc, ◌+◌, ◌-◌, Bool, true, false, cond, ltb, leb, List, ℤ, pos, [], ◌∷◌, ◌++◌, length, take, drop, map, get_or, fold, All, Option, Result, Ok, Err, inl, inr, refl, sym, ap, ◌∙◌, subst, arith}
use Rattle.std.proofs.lemmas.Bool.{cases_Bool}
use Rattle.std.proofs.lemmas.List.{append-nil, append_assoc, get_or_push, length_push, take_at}
use Rattle.std.proofs.lemmas.List.Elements.{All-nil, All-cons, All-push}
use Rattle.gh_base.specs.declared.map.Point.{Point}
use Rattle.base_graph.specs.Graphs.{Edge}
use Rattle.map_import.specs.declared.faults.ImportFault.{ImportFault}
use Rattle.map_import.specs.declared.faults.ImportFault.TheVariants as fault
use Rattle.geo_math.specs.Lengths.{line_length}
use Rattle.map_import.specs.Roads.{Piece, IsPiece, cut, cut_from, edge_of, ends_of, first_of, last_of, number, is_numbered, with_tower, with_towers, towers_in_order, points_along, inner}
use Rattle.map_import.specs.Refusals.{Laid, lay, lay_all, and_then, nothing}
use Rattle.map_import.proofs.Built.{has_number, keeps_number, keeps_numbered, make_edge}

abbrev tails : List (List ℤ) → List ℤ
tails pieces = flat_map (λ (piece : List ℤ). drop 1 piece) pieces

last_tail : (a b : ℤ) (ids : List ℤ) → last_of (a ∷ b ∷ ids) ≡ last_of (b ∷ ids)
last_tail a b ids =
    let n : length (a ∷ b ∷ ids) - 1 ≡ suc (length (b ∷ ids) - 1) = omega arith in
    ap (λ (k : ℕ). get_or (a ∷ b ∷ ids) k (pos 0)) n

whole_from : (tower : ℤ → Bool) (b : ℤ) (bs : List ℤ) (id : ℤ) (ids : List ℤ) → tower (last_of (id ∷ ids)) ≡ true
    → tails (cut_from tower (b ∷ bs) (id ∷ ids)) ≡ bs ++ id ∷ ids
whole_from tower b bs id [] t =
    ap (λ (v : Bool). tails (cond v (((b ∷ bs) ++ id ∷ []) ∷ []) [])) t ∙ append-nil (bs ++ id ∷ [])
whole_from tower b bs id (next ∷ ids) t =
    let later : tower (last_of (next ∷ ids)) ≡ true = ap tower (sym (last_tail id next ids)) ∙ t in
    let here : List ℤ = (b ∷ bs) ++ id ∷ [] in
    elim (cases_Bool (tower id)) [
      | inl h ↦
          ap (λ (v : Bool). tails (cond v (here ∷ cut_from tower (id ∷ []) (next ∷ ids)) (cut_from tower here (next ∷ ids)))) h
          ∙ ap (λ (l : List ℤ). (bs ++ id ∷ []) ++ l) (whole_from tower id [] next ids later)
          ∙ append_assoc bs (id ∷ []) (next ∷ ids)
      | inr h ↦
          ap (λ (v : Bool). tails (cond v (here ∷ cut_from tower (id ∷ []) (next ∷ ids)) (cut_from tower here (next ∷ ids)))) h
          ∙ whole_from tower b (bs ++ id ∷ []) next ids later
          ∙ append_assoc bs (id ∷ []) (next ∷ ids)
    ]

pub whole : (tower : ℤ → Bool) (refs : List ℤ) → tower (last_of refs) ≡ true → tails (cut tower refs) ≡ drop 1 refs
whole tower [] t = refl
whole tower (b ∷ []) t = refl
whole tower (b ∷ id ∷ ids) t = whole_from tower b [] id ids (ap tower (sym (last_tail b id ids)) ∙ t)

piece_ends : (tower : ℤ → Bool) (b : ℤ) (bs : List ℤ) (id : ℤ) → tower b ≡ true → All (λ x. tower x ≡ false) bs → tower id ≡ true
    → IsPiece tower ((b ∷ bs) ++ id ∷ [])
piece_ends tower b bs id t none u =
    let refs : List ℤ = (b ∷ bs) ++ id ∷ [] in
    let count : length refs ≡ length (b ∷ bs) + 1 = length_push (b ∷ bs) id in
    let more : length (b ∷ bs) ≡ length bs + 1 = omega arith in
    let end : last_of refs ≡ id = get_or_push (b ∷ bs) id (pos 0) (length refs - 1) (omega arith) in
    let size : length refs - 1 - 1 ≡ length bs = omega arith in
    let between : slice_range refs 1 (length refs - 1) ≡ bs = ap (λ (n : ℕ). take n (bs ++ id ∷ [])) size ∙ take_at bs (id ∷ []) (length bs) refl in
    record {
      two = omega arith;
      first = t;
      last = ap tower end ∙ u;
      inside = subst (All (λ x. tower x ≡ false)) (sym between) none;
    }

pieces_from : (tower : ℤ → Bool) (b : ℤ) (bs rest : List ℤ) → tower b ≡ true → All (λ x. tower x ≡ false) bs → All (IsPiece tower) (cut_from tower (b ∷ bs) rest)
pieces_from tower b bs [] t none = All-nil (IsPiece tower)
pieces_from tower b bs (id ∷ ids) t none =
    let here : List ℤ = (b ∷ bs) ++ id ∷ [] in
    let P : Bool → Type 0 = λ v. All (IsPiece tower) (cond v (here ∷ cut_from tower (id ∷ []) ids) (cut_from tower here ids)) in
    elim (cases_Bool (tower id)) [
      | inl h ↦ subst P (sym h) (All-cons (IsPiece tower) here (cut_from tower (id ∷ []) ids) (piece_ends tower b bs id t none h) (pieces_from tower id [] ids h (All-nil (λ x. tower x ≡ false))))
      | inr h ↦ subst P (sym h) (pieces_from tower b (bs ++ id ∷ []) ids t (All-push (λ x. tower x ≡ false) bs id none h))
    ]

pub pieces : (tower : ℤ → Bool) (refs : List ℤ) → tower (first_of refs) ≡ true → All (IsPiece tower) (cut tower refs)
pieces tower [] t = All-nil (IsPiece tower)
pieces tower (b ∷ ids) t = pieces_from tower b [] ids t (All-nil (λ x. tower x ≡ false))

-- numbers stay as towers are added
keeps_all : (more ids : List ℤ) (id : ℤ) → is_numbered ids id ≡ true → number (fold with_tower ids more) id ≡ number ids id
keeps_all [] ids id h = refl
keeps_all (x ∷ more) ids id h = keeps_all more (with_tower ids x) id (keeps_numbered ids x id h) ∙ keeps_number ids x id h

same_edge : (place : ℤ → Option Point) (a b : List ℤ) (piece : Piece) → number a (first_of piece.refs) ≡ number b (first_of piece.refs)
    → number a (last_of piece.refs) ≡ number b (last_of piece.refs) → edge_of place a piece ≡ edge_of place b piece
unfolding edge_of
same_edge place a b piece e f =
    let points = points_along place piece.refs in
    ap (λ (n : ℕ). make_edge (record { 0 = n }) (record { 0 = number a (last_of piece.refs) }) (line_length points) (inner points) piece.values) e
    ∙ ap (λ (n : ℕ). make_edge (record { 0 = number b (first_of piece.refs) }) (record { 0 = n }) (line_length points) (inner points) piece.values) f

taken : (a b c : Bool) (e f g : ImportFault) (x laid : Laid) → cond a (Err e) (cond b (Err f) (cond c (Err g) (Ok x))) ≡ Ok laid → x ≡ laid
taken true b c e f g x laid h = cc
taken false true c e f g x laid h = cc
taken false false true e f g x laid h = cc
taken false false false e f g x laid h = cc

abbrev pub one_more : (ℤ → Option Point) → Laid → Piece → Laid
one_more place from piece = record {
  ids = with_towers from.ids piece.refs;
  edges = from.edges ++ edge_of place (with_towers from.ids piece.refs) piece ∷ [];
}

lay_gives : (place : ℤ → Option Point) (from mid : Laid) (piece : Piece) → lay place from piece ≡ Ok mid → one_more place from piece ≡ mid
unfolding lay
lay_gives place from mid piece h =
    taken (ltb 4294967295 (line_length (points_along place piece.refs))) (leb 4000000 (length from.edges)) (ltb 2000000 (length (with_towers from.ids piece.refs)))
    (fault.TooLong piece.way) fault.TooManyEdges fault.TooManyNodes (one_more place from piece) mid h

record Gives (place : ℤ → Option Point) (from to : Laid) (pieces : List Piece) : Type 0 where
  edges : to.edges ≡ from.edges ++ map (edge_of place to.ids) pieces
  ids : to.ids ≡ fold with_tower from.ids (flat_map ends_of pieces)

step : (place : ℤ → Option Point) (from to : Laid) (piece : Piece) (later : List Piece)
    → ((mid : Laid) → lay_all place mid later ≡ Ok to → Gives place mid to later)
    → (r : Result Laid ImportFault) → lay place from piece ≡ r → and_then r (λ l. lay_all place l later) ≡ Ok to → Gives place from to (piece ∷ later)
step place from to piece later rest (Err e) same h = absurd (cc)
step place from to piece later rest (Ok mid) same h =
    let given = rest mid h in
    let refs = piece.refs in
    let after = with_towers from.ids refs in
    let is : one_more place from piece ≡ mid = lay_gives place from mid piece same in
    let ids : to.ids ≡ fold with_tower after (flat_map ends_of later) =
    given.ids ∙ ap (λ (l : Laid). fold with_tower l.ids (flat_map ends_of later)) (sym is) in
    let first : number after (first_of refs) ≡ number to.ids (first_of refs) =
    sym (ap (λ (l : List ℤ). number l (first_of refs)) ids
    ∙ keeps_all (flat_map ends_of later) after (first_of refs) (keeps_numbered (with_tower from.ids (first_of refs)) (last_of refs) (first_of refs) (has_number from.ids (first_of refs)))) in
    let last : number after (last_of refs) ≡ number to.ids (last_of refs) =
    sym (ap (λ (l : List ℤ). number l (last_of refs)) ids
    ∙ keeps_all (flat_map ends_of later) after (last_of refs) (has_number (with_tower from.ids (first_of refs)) (last_of refs))) in
    let edge : edge_of place after piece ≡ edge_of place to.ids piece = same_edge place after to.ids piece first last in
    let tail : List Edge = map (edge_of place to.ids) later in
    record {
      edges = given.edges ∙ ap (λ (l : Laid). l.edges ++ tail) (sym is) ∙ append_assoc from.edges (edge_of place after piece ∷ []) tail ∙ ap (λ (e : Edge). from.edges ++ e ∷ tail) edge;
      ids = ids;
    }

gives : (place : ℤ → Option Point) (list : List Piece) (from to : Laid) → lay_all place from list ≡ Ok to → Gives place from to list
gives place [] from to h =
    let same : from ≡ to = cc in
    record { edges = ap (λ (l : Laid). l.edges) (sym same) ∙ sym (append-nil from.edges); ids = ap (λ (l : Laid). l.ids) (sym same) }
gives place (piece ∷ later) from to h = step place from to piece later (λ mid. gives place later mid to) (lay place from piece) refl h

pub edges : (place : ℤ → Option Point) (list : List Piece) (laid : Laid) → lay_all place nothing list ≡ Ok laid → laid.edges ≡ map (edge_of place laid.ids) list
edges place list laid h = (gives place list nothing laid h).edges

pub ids : (place : ℤ → Option Point) (list : List Piece) (laid : Laid) → lay_all place nothing list ≡ Ok laid → laid.ids ≡ towers_in_order list
ids place list laid h = (gives place list nothing laid h).ids
