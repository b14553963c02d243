-- The way that each piece comes from.
use Rattle.std.proofs.Common.{◌≡◌, ℕ, ◌+◌, ◌<◌, ◌≤◌, Bool, true, false, cond, List, ℤ, [], ◌∷◌, ◌++◌, length, drop, map, get_or, Option, Some, None, Result, Ok, Err, refl, sym, ap, ◌∙◌, append_assoc}
use Rattle.std.proofs.Math.ListN.{drop_of_length-le}
use Rattle.std.proofs.lemmas.List.{drop_more, map-append, length-map, append-nil}
use Rattle.gh_base.specs.declared.map.OsmMap.{OsmMap}
use Rattle.gh_base.specs.declared.map.Point.{Point}
use Rattle.map_import.specs.declared.faults.ImportFault.{ImportFault}
use Rattle.map_import.specs.Roads.{UsedWay, Piece, used_ways, is_tower, place_in, piece_of, cut, cut_from, pieces_of, pieces_of_way, pieces_in, way_ids, ways_of_edges, edge_of}
use Rattle.map_import.specs.Refusals.{Laid, lay_all, nothing, first_twice, first_missing, unless, roads_by, roads}
use Rattle.map_import.proofs.Cuts.{next_way}
use Rattle.map_import.proofs.Sayings as says

-- an id once for each tower among nodes
pub ends_in : (ℤ → Bool) → ℤ → List ℤ → List ℤ
ends_in tower way [] = []
ends_in tower way (id ∷ ids) = cond (tower id) (way ∷ ends_in tower way ids) (ends_in tower way ids)

-- a piece ends at each
pub pieces_end : (tower : ℤ → Bool) (way : UsedWay) (begun ids : List ℤ) → way_ids (map (piece_of way) (cut_from tower begun ids)) ≡ ends_in tower way.id ids
unfolding ends_in
pieces_end tower way begun [] = refl
pieces_end tower way begun (id ∷ ids) =
    elim (tower id) as (λ t. way_ids (map (piece_of way) (cond t ((begun ++ id ∷ []) ∷ cut_from tower (id ∷ []) ids) (cut_from tower (begun ++ id ∷ []) ids))) ≡ cond t (way.id ∷ ends_in tower way.id ids) (ends_in tower way.id ids)) [
      | true ↦ ap (λ (l : List ℤ). way.id ∷ l) (pieces_end tower way (id ∷ []) ids)
      | false ↦ pieces_end tower way (begun ++ id ∷ []) ids
    ]

-- so a way has one piece for each tower behind its first node
pub refs_end : (tower : ℤ → Bool) (way : UsedWay) (refs : List ℤ) → way_ids (map (piece_of way) (cut tower refs)) ≡ ends_in tower way.id (drop 1 refs)
unfolding ends_in
refs_end tower way [] = refl
refs_end tower way (id ∷ ids) = pieces_end tower way (id ∷ []) ids

pub way_ends : (tower : ℤ → Bool) (way : UsedWay) (all rest so_far : List ℤ) → all ≡ way.refs → rest ≡ drop 1 all
    → so_far ++ ends_in tower way.id (drop 0 rest) ≡ so_far ++ way_ids (pieces_of_way tower way)
way_ends tower way all rest so_far are is =
    ap (λ (l : List ℤ). so_far ++ ends_in tower way.id l) (is ∙ ap (drop 1) are) ∙ ap (λ (l : List ℤ). so_far ++ l) (sym (refs_end tower way way.refs))

end_next : (tower : ℤ → Bool) (way : ℤ) (rest : List ℤ) (i : ℕ) (id : ℤ) (t : Bool) → i < length rest → id ≡ get_or rest i id → tower id ≡ t
    → ends_in tower way (drop i rest) ≡ cond t (way ∷ ends_in tower way (drop (i + 1) rest)) (ends_in tower way (drop (i + 1) rest))
unfolding ends_in
end_next tower way rest i id t h e is =
    ap (ends_in tower way) (drop_more rest i id h ∙ ap (λ (x : ℤ). x ∷ drop (i + 1) rest) (sym e))
    ∙ ap (λ (b : Bool). cond b (way ∷ ends_in tower way (drop (i + 1) rest)) (ends_in tower way (drop (i + 1) rest))) is

-- the id is written where a tower stands next
pub end_here : (tower : ℤ → Bool) (way : ℤ) (rest : List ℤ) (i : ℕ) (id : ℤ) (so_far now all : List ℤ) → i < length rest → id ≡ get_or rest i id → tower id ≡ true
    → now ≡ so_far ++ way ∷ [] → so_far ++ ends_in tower way (drop i rest) ≡ all → now ++ ends_in tower way (drop (i + 1) rest) ≡ all
end_here tower way rest i id so_far now all h e t is before =
    ap (λ (l : List ℤ). l ++ ends_in tower way (drop (i + 1) rest)) is ∙ append_assoc so_far (way ∷ []) (ends_in tower way (drop (i + 1) rest))
    ∙ ap (λ (l : List ℤ). so_far ++ l) (sym (end_next tower way rest i id true h e t)) ∙ before

pub end_later : (tower : ℤ → Bool) (way : ℤ) (rest : List ℤ) (i : ℕ) (id : ℤ) (so_far all : List ℤ) → i < length rest → id ≡ get_or rest i id → tower id ≡ false
    → so_far ++ ends_in tower way (drop i rest) ≡ all → so_far ++ ends_in tower way (drop (i + 1) rest) ≡ all
end_later tower way rest i id so_far all h e t before = ap (λ (l : List ℤ). so_far ++ l) (sym (end_next tower way rest i id false h e t)) ∙ before

-- at the end none is left
pub ends_done : (tower : ℤ → Bool) (way : ℤ) (rest : List ℤ) (i : ℕ) (so_far all : List ℤ) → length rest ≤ i
    → so_far ++ ends_in tower way (drop i rest) ≡ all → so_far ≡ all
unfolding ends_in
ends_done tower way rest i so_far all h before =
    sym (append-nil so_far) ∙ ap (λ (l : List ℤ). so_far ++ ends_in tower way l) (sym (drop_of_length-le rest h)) ∙ before

-- the next way's ids come first
pub way_here : (tower : ℤ → Bool) (ways : List UsedWay) (i : ℕ) (way : UsedWay) (so_far now all : List ℤ) → i < length ways → way ≡ get_or ways i way
    → now ≡ so_far ++ way_ids (pieces_of_way tower way) → so_far ++ way_ids (pieces_of tower (drop i ways)) ≡ all → now ++ way_ids (pieces_of tower (drop (i + 1) ways)) ≡ all
way_here tower ways i way so_far now all h e is before =
    ap (λ (l : List ℤ). l ++ way_ids (pieces_of tower (drop (i + 1) ways))) is
    ∙ append_assoc so_far (way_ids (pieces_of_way tower way)) (way_ids (pieces_of tower (drop (i + 1) ways)))
    ∙ ap (λ (l : List ℤ). so_far ++ l) (sym (map-append (λ (piece : Piece). piece.way) (pieces_of_way tower way) (pieces_of tower (drop (i + 1) ways))))
    ∙ ap (λ (l : List Piece). so_far ++ way_ids l) (sym (next_way tower ways i way h e)) ∙ before

pub ways_done : (tower : ℤ → Bool) (ways : List UsedWay) (i : ℕ) (so_far all : List ℤ) → length ways ≤ i
    → so_far ++ way_ids (pieces_of tower (drop i ways)) ≡ all → so_far ≡ all
ways_done tower ways i so_far all h before =
    sym (append-nil so_far) ∙ ap (λ (l : List UsedWay). so_far ++ way_ids (pieces_of tower l)) (sym (drop_of_length-le ways h)) ∙ before

-- with the towers as they are marked
pub origins : (map : OsmMap) (tower : ℤ → Bool) (ways : List UsedWay) (ids : List ℤ) → ((id : ℤ) → tower id ≡ is_tower ways id) → ways ≡ used_ways map.ways
    → ids ≡ way_ids (pieces_of tower ways) → ids ≡ ways_of_edges map
unfolding ways_of_edges
origins map tower ways ids towers used are =
    let same : tower ≡ is_tower ways = λ i id. towers id i in
    are ∙ ap (λ (t : ℤ → Bool). way_ids (pieces_of t ways)) same ∙ ap (λ (l : List UsedWay). way_ids (pieces_of (is_tower l) l)) used

laid_of : (first : Option ImportFault) (found : Result Laid ImportFault) (laid : Laid) → unless first found ≡ Ok laid → found ≡ Ok laid
laid_of None found laid h = h
laid_of (Some e) found laid h = cc

-- one for each edge
pub one_each : (map : OsmMap) (laid : Laid) → roads map ≡ Ok laid → length (ways_of_edges map) ≡ length laid.edges
unfolding roads ways_of_edges
one_each map laid h =
    let place : ℤ → Option Point = place_in map.nodes in
    let tower : ℤ → Bool = is_tower (used_ways map.ways) in
    let found : roads_by place tower (used_ways map.ways) ≡ Ok laid = laid_of (first_twice map.nodes) _ laid h in
    let all : lay_all place nothing (pieces_in map) ≡ Ok laid = laid_of (first_missing place (used_ways map.ways)) _ laid found in
    length-map (pieces_in map) (λ (piece : Piece). piece.way)
    ∙ sym (ap length (says.edges place (pieces_in map) laid all) ∙ length-map (pieces_in map) (edge_of place laid.ids))
