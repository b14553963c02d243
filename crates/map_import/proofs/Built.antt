-- What stands while edges are laid.
use Rattle.std.specs.Ordering.{int_eq}
use Rattle.std.specs.Option.{is_some}
use Rattle.std.specs.List.{slice_range}
use Rattle.std.proofs.Common.{◌≡◌, ℕ, ◌+◌, ◌-◌, ◌<◌, ◌≤◌, Bool, true, false, cond, ◌||◌, List, ℤ, pos, [], ◌∷◌, ◌++◌, length, take, drop, get_or, map, All, Option, Some, None, Result, Ok, Err, inl, inr, refl, sym, ap, ◌∙◌, subst, arith}
use Rattle.std.proofs.lemmas.Bool.{cases_Bool, false≢true, lt-ltb, le-ltb, le-leb, lt-leb}
use Rattle.std.proofs.lemmas.Cmp.{int_eq_equiv}
use Rattle.std.proofs.lemmas.List.{map-append, length-map, get_or-map, get_or_append_left, drop_more, drop_all, length_push}
use Rattle.std.proofs.lemmas.List.Edits.{split_between}
use Rattle.std.proofs.lemmas.List.Elements.{All-push, All-map}
use Rattle.std.proofs.lemmas.Map.Keys.{IsDistinct-push}
use Rattle.gh_base.specs.declared.edges.NodeId.{NodeId}
use Rattle.gh_base.specs.declared.map.Point.{Point}
use Rattle.gh_base.specs.Places.{IsOnEarth}
use Rattle.encoded_values.specs.Values.{TwoValues}
use Rattle.base_graph.specs.Graphs.{Edge, Graph, IsGraph, IsEdge}
use Rattle.map_import.specs.declared.faults.ImportFault.{ImportFault}
use Rattle.map_import.specs.declared.faults.ImportFault.TheVariants as fault
use Rattle.geo_math.specs.Lengths.{line_length}
use Rattle.map_import.specs.Roads.{Piece, number, is_numbered, origin, place_at, with_tower, with_towers, first_of, last_of, inner, edge_of}
use Rattle.map_import.specs.Roads as road
use Rattle.map_import.specs.Refusals.{Laid, lay}
use Rattle.map_import.specs.Building.{IsBuilt, HasLength, number_of}
use Rattle.map_import.proofs.Numbers.{same_id, id_swaps, id_is_itself, number_below, at_number, number_stays, number_next, numbered_push}

or_true : (b : Bool) → (b || true) ≡ true
or_true true = refl
or_true false = refl

or_false : (b : Bool) → (b || false) ≡ b
or_false true = refl
or_false false = refl

stays : (ids : List ℤ) (id q : ℤ) (b : Bool) → is_numbered ids q ≡ b → cond b (Some (number (ids ++ id ∷ []) q)) None ≡ cond b (Some (number ids q)) None
stays ids id q true e = ap (λ (n : ℕ). Some n) (number_stays ids id q e)
stays ids id q false e = refl

-- numbers after one more tower
numbered_more : (ids : List ℤ) (id q : ℤ) → is_numbered ids id ≡ false
    → number_of (ids ++ id ∷ []) q ≡ cond (int_eq id q) (Some (length ids)) (number_of ids q)
numbered_more ids id q new =
    elim (cases_Bool (int_eq id q)) [
      | inl t ↦
          let back : int_eq q id ≡ true = id_swaps q id ∙ t in
          let fresh : is_numbered ids q ≡ false = ap (is_numbered ids) (sym (same_id id q t)) ∙ new in
          let there : is_numbered (ids ++ id ∷ []) q ≡ true = numbered_push ids id q ∙ ap (λ (b : Bool). is_numbered ids q || b) back ∙ or_true (is_numbered ids q) in
          ap (λ (b : Bool). cond b (Some (number (ids ++ id ∷ []) q)) None) there
          ∙ ap (λ (n : ℕ). Some n) (number_next ids id q fresh back)
          ∙ sym (ap (λ (b : Bool). cond b (Some (length ids)) (number_of ids q)) t)
      | inr t ↦
          let back : int_eq q id ≡ false = id_swaps q id ∙ t in
          let same : is_numbered (ids ++ id ∷ []) q ≡ is_numbered ids q = numbered_push ids id q ∙ ap (λ (b : Bool). is_numbered ids q || b) back ∙ or_false (is_numbered ids q) in
          ap (λ (b : Bool). cond b (Some (number (ids ++ id ∷ []) q)) None) same
          ∙ stays ids id q (is_numbered ids q) refl
          ∙ sym (ap (λ (b : Bool). cond b (Some (length ids)) (number_of ids q)) t)
    ]

pub not_numbered : (ids : List ℤ) (id : ℤ) (o : Option ℕ) → o ≡ number_of ids id → is_some o ≡ false → is_numbered ids id ≡ false
not_numbered ids id o e none =
    elim (cases_Bool (is_numbered ids id)) [
      | inl t ↦
          let some : is_some o ≡ true = ap is_some (e ∙ ap (λ (b : Bool). cond b (Some (number ids id)) None) t) in
          absurd (false≢true (sym none ∙ some))
      | inr t ↦ t
    ]

-- a graph with more towers keeps the lengths of its edges
length_kept : (graph next : Graph) (more : List Point) (edge : Edge) → next.places ≡ graph.places ++ more → IsEdge (length graph.places) edge → HasLength graph edge → HasLength next edge
length_kept graph next more edge e there h =
    let at : (n : ℕ) → n < length graph.places → get_or graph.places n origin ≡ get_or next.places n origin =
    λ n p. sym (ap (λ (l : List Point). get_or l n origin) e ∙ get_or_append_left graph.places more origin n p) in
    h ∙ ap line_length (
    ap (λ (p : Point). p ∷ edge.between ++ get_or graph.places edge.adjacent.0 origin ∷ []) (at edge.base.0 there.base)
    ∙ ap (λ (p : Point). get_or next.places edge.base.0 origin ∷ edge.between ++ p ∷ []) (at edge.adjacent.0 there.adjacent))

-- one more tower
pub tower_built : (place : ℤ → Option Point) (graph next : Graph) (ids later_ids : List ℤ) (id : ℤ) (kept later : ℤ → Option ℕ)
    → IsGraph graph → IsBuilt place graph ids kept → is_numbered ids id ≡ false
    → next.places ≡ graph.places ++ place_at place id ∷ [] → next.edges ≡ graph.edges → later_ids ≡ ids ++ id ∷ []
    → ((q : ℤ) → later q ≡ cond (int_eq id q) (Some (length graph.places)) (kept q))
    → IsBuilt place next later_ids later
tower_built place graph next ids later_ids id kept later facts built new places edges more after =
    let count : length graph.places ≡ length ids = ap length built.places ∙ length-map ids (place_at place) in
    let done : IsBuilt place next (ids ++ id ∷ []) later = record {
      places = places ∙ ap (λ (l : List Point). l ++ place_at place id ∷ []) built.places ∙ sym (map-append (place_at place) ids (id ∷ []));
      numbers = λ q. after q ∙ ap (λ (n : ℕ). cond (int_eq id q) (Some n) (kept q)) count ∙ ap (cond (int_eq id q) (Some (length ids))) (built.numbers q) ∙ sym (numbered_more ids id q new);
      distinct = IsDistinct-push int_eq_equiv ids id built.distinct new;
      lengths = subst (All (HasLength next)) (sym edges) (λ k d h. length_kept graph next (place_at place id ∷ []) (get_or graph.edges k d) places (facts.edges k d h) (built.lengths k d h));
    } in
    subst (λ (l : List ℤ). IsBuilt place next l later) (sym more) done

-- the number of a tower is one of the graph's
pub tower_there : (place : ℤ → Option Point) (graph : Graph) (ids : List ℤ) (kept : ℤ → Option ℕ) (id : ℤ)
    → IsBuilt place graph ids kept → is_numbered ids id ≡ true → number ids id < length graph.places
tower_there place graph ids kept id built there =
    let count : length graph.places ≡ length ids = ap length built.places ∙ length-map ids (place_at place) in
    let below = number_below ids id there in
    omega arith

pub has_number : (ids : List ℤ) (id : ℤ) → is_numbered (with_tower ids id) id ≡ true
has_number ids id =
    elim (cases_Bool (is_numbered ids id)) [
      | inl t ↦ ap (λ (b : Bool). is_numbered (cond b ids (ids ++ id ∷ [])) id) t ∙ t
      | inr t ↦ ap (λ (b : Bool). is_numbered (cond b ids (ids ++ id ∷ [])) id) t ∙ numbered_push ids id id ∙ ap (λ (b : Bool). is_numbered ids id || b) (id_is_itself id) ∙ or_true (is_numbered ids id)
    ]

pub keeps_number : (ids : List ℤ) (more id : ℤ) → is_numbered ids id ≡ true → number (with_tower ids more) id ≡ number ids id
keeps_number ids more id there =
    elim (cases_Bool (is_numbered ids more)) [
      | inl t ↦ ap (λ (b : Bool). number (cond b ids (ids ++ more ∷ [])) id) t
      | inr t ↦ ap (λ (b : Bool). number (cond b ids (ids ++ more ∷ [])) id) t ∙ number_stays ids more id there
    ]

pub keeps_numbered : (ids : List ℤ) (more id : ℤ) → is_numbered ids id ≡ true → is_numbered (with_tower ids more) id ≡ true
keeps_numbered ids more id there =
    elim (cases_Bool (is_numbered ids more)) [
      | inl t ↦ ap (λ (b : Bool). is_numbered (cond b ids (ids ++ more ∷ [])) id) t ∙ there
      | inr t ↦ ap (λ (b : Bool). is_numbered (cond b ids (ids ++ more ∷ [])) id) t ∙ numbered_push ids more id ∙ ap (λ (b : Bool). b || int_eq id more) there
    ]

-- points are the first, those between, and the last
ends_and_inner : (points : List Point) → 2 ≤ length points
    → points ≡ get_or points 0 origin ∷ inner points ++ get_or points (length points - 1) origin ∷ []
ends_and_inner [] two = absurd (omega arith)
ends_and_inner (a ∷ rest) two =
    let points = a ∷ rest in
    let last = length points - 1 in
    let cut : points ≡ take 1 points ++ (slice_range points 1 last ++ drop last points) = split_between points 1 last (omega arith) in
    let end : drop last points ≡ get_or points last origin ∷ [] =
    drop_more points last origin (omega arith) ∙ ap (λ (l : List Point). get_or points last origin ∷ l) (drop_all (last + 1) points (omega arith)) in
    cut ∙ ap (λ (l : List Point). a ∷ slice_range points 1 last ++ l) end

at_number_stands : (place : ℤ → Option Point) (graph : Graph) (ids : List ℤ) (kept : ℤ → Option ℕ) (id : ℤ)
    → IsBuilt place graph ids kept → is_numbered ids id ≡ true → get_or graph.places (number ids id) origin ≡ place_at place id
at_number_stands place graph ids kept id built there =
    ap (λ (l : List Point). get_or l (number ids id) origin) built.places
    ∙ get_or-map (place_at place) ids (number ids id) (pos 0) origin (number_below ids id there)
    ∙ ap (place_at place) (at_number ids id (pos 0) there)

-- the edge of a piece is as long as its segments together
pub edge_length : (place : ℤ → Option Point) (graph : Graph) (ids : List ℤ) (kept : ℤ → Option ℕ) (piece : Piece)
    → IsBuilt place graph ids kept → 2 ≤ length piece.refs → is_numbered ids (first_of piece.refs) ≡ true → is_numbered ids (last_of piece.refs) ≡ true
    → HasLength graph (edge_of place ids piece)
unfolding edge_of
edge_length place graph ids kept piece built two first last =
    let refs = piece.refs in
    let points = map (place_at place) refs in
    let count : length points ≡ length refs = length-map refs (place_at place) in
    let base : get_or points 0 origin ≡ get_or graph.places (number ids (first_of refs)) origin =
    get_or-map (place_at place) refs 0 (pos 0) origin (omega arith) ∙ sym (at_number_stands place graph ids kept (first_of refs) built first) in
    let adjacent : get_or points (length points - 1) origin ≡ get_or graph.places (number ids (last_of refs)) origin =
    ap (λ (n : ℕ). get_or points (n - 1) origin) count
    ∙ get_or-map (place_at place) refs (length refs - 1) (pos 0) origin (omega arith) ∙ sym (at_number_stands place graph ids kept (last_of refs) built last) in
    ap line_length (
    ends_and_inner points (omega arith)
    ∙ ap (λ (p : Point). p ∷ inner points ++ get_or points (length points - 1) origin ∷ []) base
    ∙ ap (λ (p : Point). get_or graph.places (number ids (first_of refs)) origin ∷ inner points ++ p ∷ []) adjacent)

-- one more edge
pub edge_built : (place : ℤ → Option Point) (graph next : Graph) (ids : List ℤ) (kept : ℤ → Option ℕ) (edge : Edge)
    → IsBuilt place graph ids kept → next.places ≡ graph.places → next.edges ≡ graph.edges ++ edge ∷ [] → HasLength graph edge
    → IsBuilt place next ids kept
edge_built place graph next ids kept edge built places edges long =
    let same : (e : Edge) → HasLength graph e → HasLength next e =
    λ e h. h ∙ ap (λ (l : List Point). line_length (get_or l e.base.0 origin ∷ e.between ++ get_or l e.adjacent.0 origin ∷ [])) (sym places) in
    record {
      places = places ∙ built.places;
      numbers = built.numbers;
      distinct = built.distinct;
      lengths = subst (All (HasLength next)) (sym edges) (All-push (HasLength next) graph.edges edge (λ k d h. same (get_or graph.edges k d) (built.lengths k d h)) (same edge long));
    }

abbrev pub make_edge : NodeId → NodeId → ℕ → List Point → TwoValues → Edge
make_edge base adjacent mm between values = record { base = base; adjacent = adjacent; mm = mm; between = between; values = values }

-- an edge with these parts
pub edge_is : (place : ℤ → Option Point) (ids : List ℤ) (piece : Piece) (base adjacent : NodeId) (mm : ℕ) (between points : List Point) (values : TwoValues)
    → base.0 ≡ number ids (first_of piece.refs) → adjacent.0 ≡ number ids (last_of piece.refs)
    → points ≡ road.points_along place piece.refs → mm ≡ line_length points → between ≡ inner points → values ≡ piece.values
    → make_edge base adjacent mm between values ≡ edge_of place ids piece
unfolding edge_of
edge_is place ids piece base adjacent mm between points values b a p m t v =
    let q = road.points_along place piece.refs in
    ap (λ (n : ℕ). make_edge (record { 0 = n }) adjacent mm between values) b
    ∙ ap (λ (n : ℕ). make_edge (record { 0 = number ids (first_of piece.refs) }) (record { 0 = n }) mm between values) a
    ∙ ap (λ (n : ℕ). make_edge (record { 0 = number ids (first_of piece.refs) }) (record { 0 = number ids (last_of piece.refs) }) n between values) (m ∙ ap line_length p)
    ∙ ap (λ (l : List Point). make_edge (record { 0 = number ids (first_of piece.refs) }) (record { 0 = number ids (last_of piece.refs) }) (line_length q) l values) (t ∙ ap inner p)
    ∙ ap (λ (w : TwoValues). make_edge (record { 0 = number ids (first_of piece.refs) }) (record { 0 = number ids (last_of piece.refs) }) (line_length q) (inner q) w) v

-- what comes of a piece
pub is_too_long : (place : ℤ → Option Point) (laid : Laid) (piece : Piece)
    → 4294967295 < line_length (road.points_along place piece.refs) → lay place laid piece ≡ Err (fault.TooLong piece.way)
unfolding lay
is_too_long place laid piece h = rw (lt-ltb 4294967295 (line_length (road.points_along place piece.refs)) h) refl

pub is_full_of_edges : (place : ℤ → Option Point) (laid : Laid) (piece : Piece)
    → line_length (road.points_along place piece.refs) ≤ 4294967295 → 4000000 ≤ length laid.edges → lay place laid piece ≡ Err fault.TooManyEdges
unfolding lay
is_full_of_edges place laid piece h k =
    rw (le-ltb 4294967295 (line_length (road.points_along place piece.refs)) h, le-leb 4000000 (length laid.edges) k) refl

pub is_full_of_nodes : (place : ℤ → Option Point) (laid : Laid) (piece : Piece)
    → line_length (road.points_along place piece.refs) ≤ 4294967295 → length laid.edges < 4000000 → 2000000 < length (with_towers laid.ids piece.refs)
    → lay place laid piece ≡ Err fault.TooManyNodes
unfolding lay
is_full_of_nodes place laid piece h k l =
    rw (le-ltb 4294967295 (line_length (road.points_along place piece.refs)) h, lt-leb 4000000 (length laid.edges) k, lt-ltb 2000000 (length (with_towers laid.ids piece.refs)) l) refl

pub is_laid : (place : ℤ → Option Point) (laid : Laid) (piece : Piece)
    → line_length (road.points_along place piece.refs) ≤ 4294967295 → length laid.edges < 4000000 → length (with_towers laid.ids piece.refs) ≤ 2000000
    → lay place laid piece ≡ Ok (record { ids = with_towers laid.ids piece.refs; edges = laid.edges ++ edge_of place (with_towers laid.ids piece.refs) piece ∷ [] })
unfolding lay
is_laid place laid piece h k l =
    rw (le-ltb 4294967295 (line_length (road.points_along place piece.refs)) h, lt-leb 4000000 (length laid.edges) k, le-ltb 2000000 (length (with_towers laid.ids piece.refs)) l) refl

pub on_earth : (place : ℤ → Option Point) (refs : List ℤ) (points : List Point) → ((id : ℤ) → IsOnEarth (place_at place id))
    → points ≡ road.points_along place refs → All IsOnEarth points
on_earth place refs points earth e = subst (All IsOnEarth) (sym e) (All-map IsOnEarth (place_at place) refs (λ k d h. earth (get_or refs k d)))

pub not_shorter : (ids : List ℤ) (id : ℤ) → length ids ≤ length (with_tower ids id)
not_shorter ids id =
    elim (is_numbered ids id) as (λ b. length ids ≤ length (cond b ids (ids ++ id ∷ []))) [
      | true ↦ omega arith
      | false ↦ let l = length_push ids id in omega arith
    ]

pub found_number : (ids : List ℤ) (id : ℤ) (n : ℕ) → number_of ids id ≡ Some n → (is_numbered ids id ≡ true) × (n ≡ number ids id)
found_number ids id n e =
    elim (cases_Bool (is_numbered ids id)) [
      | inl t ↦
          let some : Some (number ids id) ≡ Some n = sym (ap (λ (b : Bool). cond b (Some (number ids id)) None) t) ∙ e in
          (t, cc)
      | inr t ↦
          let none : None ≡ Some n = sym (ap (λ (b : Bool). cond b (Some (number ids id)) None) t) ∙ e in
          absurd (cc)
    ]

abbrev ok_with : List ℤ → List Edge → Result Laid ImportFault
ok_with ids edges = Ok (record { ids = ids; edges = edges })

abbrev laid_with : (ℤ → Option Point) → Graph → Piece → List ℤ → Result Laid ImportFault
laid_with place before piece ids = ok_with ids (before.edges ++ edge_of place ids piece ∷ [])

-- an edge is laid
pub laid_more : (place : ℤ → Option Point) (before graph next : Graph) (ids0 ids1 ids2 : List ℤ) (kept : ℤ → Option ℕ) (piece : Piece)
    (base adjacent : NodeId) (mm : ℕ) (between points : List Point) (values : TwoValues)
    → 2 ≤ length piece.refs → points ≡ road.points_along place piece.refs → mm ≡ line_length points → mm ≤ 4294967295 → length before.edges < 4000000
    → ids1 ≡ with_tower ids0 (first_of piece.refs) → ids2 ≡ with_tower ids1 (last_of piece.refs)
    → IsGraph graph → IsBuilt place graph ids2 kept → graph.edges ≡ before.edges
    → base.0 ≡ number ids1 (first_of piece.refs) → adjacent.0 ≡ number ids2 (last_of piece.refs)
    → next.places ≡ graph.places → next.edges ≡ graph.edges ++ make_edge base adjacent mm between values ∷ []
    → between ≡ inner points → values ≡ piece.values
    → (lay place (record { ids = ids0; edges = before.edges }) piece ≡ Ok (record { ids = ids2; edges = next.edges })) × IsBuilt place next ids2 kept
laid_more place before graph next ids0 ids1 ids2 kept piece base adjacent mm between points values two p m short few e1 e2 facts built same b a places edges t v =
    let refs = piece.refs in
    let first = first_of refs in
    let last = last_of refs in
    let first1 : is_numbered ids1 first ≡ true = ap (λ (l : List ℤ). is_numbered l first) e1 ∙ has_number ids0 first in
    let first2 : is_numbered ids2 first ≡ true = ap (λ (l : List ℤ). is_numbered l first) e2 ∙ keeps_numbered ids1 last first first1 in
    let last2 : is_numbered ids2 last ≡ true = ap (λ (l : List ℤ). is_numbered l last) e2 ∙ has_number ids1 last in
    let base2 : base.0 ≡ number ids2 first = b ∙ sym (ap (λ (l : List ℤ). number l first) e2 ∙ keeps_number ids1 last first first1) in
    let edge : make_edge base adjacent mm between values ≡ edge_of place ids2 piece = edge_is place ids2 piece base adjacent mm between points values base2 a p m t v in
    let ids : ids2 ≡ with_towers ids0 refs = e2 ∙ ap (λ (l : List ℤ). with_tower l last) e1 in
    let count : length graph.places ≡ length ids2 = ap length built.places ∙ length-map ids2 (place_at place) in
    let most = facts.few_places in
    let room : length (with_towers ids0 refs) ≤ 2000000 = let l = ap length ids in omega arith in
    let long : line_length (road.points_along place refs) ≤ 4294967295 = let l = m ∙ ap line_length p in omega arith in
    let next_edges : next.edges ≡ before.edges ++ edge_of place ids2 piece ∷ [] =
    edges ∙ ap (λ (l : List Edge). l ++ make_edge base adjacent mm between values ∷ []) same ∙ ap (λ (e : Edge). before.edges ++ e ∷ []) edge in (
      is_laid place (record { ids = ids0; edges = before.edges }) piece long few room
          ∙ ap (laid_with place before piece) (sym ids)
          ∙ ap (ok_with ids2) (sym next_edges),
      edge_built place graph next ids2 kept (edge_of place ids2 piece) built places (edges ∙ ap (λ (e : Edge). graph.edges ++ e ∷ []) edge)
          (edge_length place graph ids2 kept piece built two first2 last2),
    )
