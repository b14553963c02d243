-- Edges laid piece by piece.
use Rattle.std.proofs.Common.{◌≡◌, ℕ, ◌+◌, ◌<◌, Bool, true, false, cond, List, ℤ, [], ◌∷◌, ◌++◌, length, drop, map, get_or, Option, Result, Ok, Err, refl, sym, ap, ◌∙◌}
use Rattle.std.proofs.lemmas.List.{drop_more}
use Rattle.gh_base.specs.declared.map.Point.{Point}
use Rattle.map_import.specs.declared.faults.ImportFault.{ImportFault}
use Rattle.map_import.specs.Roads.{UsedWay, Piece, piece_of, cut_from, pieces_of, pieces_of_way}
use Rattle.map_import.specs.Refusals.{Laid, lay, lay_all, and_then}

-- what comes behind pieces that are laid, or behind a refusal
pub behind : (place : ℤ → Option Point) (pieces more : List Piece) (from : Laid)
    → lay_all place from (pieces ++ more) ≡ and_then (lay_all place from pieces) (λ to. lay_all place to more)
behind place [] more from = refl
behind place (piece ∷ pieces) more from =
    elim (lay place from piece) as (λ r. and_then r (λ l. lay_all place l (pieces ++ more)) ≡ and_then (and_then r (λ l. lay_all place l pieces)) (λ to. lay_all place to more)) [
      | Ok l ↦ behind place pieces more l
      | Err e ↦ refl
    ]

-- where a tower stands next, a piece ends
pub cut_here : (tower : ℤ → Bool) (begun rest : List ℤ) (i : ℕ) (id : ℤ) → i < length rest → id ≡ get_or rest i id → tower id ≡ true
    → cut_from tower begun (drop i rest) ≡ (begun ++ id ∷ []) ∷ cut_from tower (id ∷ []) (drop (i + 1) rest)
cut_here tower begun rest i id h e t =
    ap (cut_from tower begun) (drop_more rest i id h ∙ ap (λ (x : ℤ). x ∷ drop (i + 1) rest) (sym e))
    ∙ ap (λ (b : Bool). cond b ((begun ++ id ∷ []) ∷ cut_from tower (id ∷ []) (drop (i + 1) rest)) (cut_from tower (begun ++ id ∷ []) (drop (i + 1) rest))) t

pub cut_later : (tower : ℤ → Bool) (begun rest : List ℤ) (i : ℕ) (id : ℤ) → i < length rest → id ≡ get_or rest i id → tower id ≡ false
    → cut_from tower begun (drop i rest) ≡ cut_from tower (begun ++ id ∷ []) (drop (i + 1) rest)
cut_later tower begun rest i id h e t =
    ap (cut_from tower begun) (drop_more rest i id h ∙ ap (λ (x : ℤ). x ∷ drop (i + 1) rest) (sym e))
    ∙ ap (λ (b : Bool). cond b ((begun ++ id ∷ []) ∷ cut_from tower (id ∷ []) (drop (i + 1) rest)) (cut_from tower (begun ++ id ∷ []) (drop (i + 1) rest))) t

-- the pieces of the next way come first
pub next_way : (tower : ℤ → Bool) (ways : List UsedWay) (i : ℕ) (way : UsedWay) → i < length ways → way ≡ get_or ways i way
    → pieces_of tower (drop i ways) ≡ pieces_of_way tower way ++ pieces_of tower (drop (i + 1) ways)
next_way tower ways i way h e =
    ap (pieces_of tower) (drop_more ways i way h ∙ ap (λ (w : UsedWay). w ∷ drop (i + 1) ways) (sym e))

-- a piece that ends here is laid
pub way_step : (place : ℤ → Option Point) (way : UsedWay) (tower : ℤ → Bool) (begun rest : List ℤ) (i : ℕ) (id : ℤ) (from to : Laid) (all : Result Laid ImportFault)
    → i < length rest → id ≡ get_or rest i id → tower id ≡ true → lay place from (piece_of way (begun ++ id ∷ [])) ≡ Ok to
    → lay_all place from (map (piece_of way) (cut_from tower begun (drop i rest))) ≡ all
    → lay_all place to (map (piece_of way) (cut_from tower (id ∷ []) (drop (i + 1) rest))) ≡ all
way_step place way tower begun rest i id from to all h e t laid before =
    let later : List Piece = map (piece_of way) (cut_from tower (id ∷ []) (drop (i + 1) rest)) in
    sym (ap (λ (r : Result Laid ImportFault). and_then r (λ l. lay_all place l later)) laid)
    ∙ sym (ap (λ (l : List (List ℤ)). lay_all place from (map (piece_of way) l)) (cut_here tower begun rest i id h e t)) ∙ before

-- a piece that ends here is refused
pub way_refuse : (place : ℤ → Option Point) (way : UsedWay) (tower : ℤ → Bool) (begun rest : List ℤ) (i : ℕ) (id : ℤ) (from : Laid) (fault : ImportFault) (all : Result Laid ImportFault)
    → i < length rest → id ≡ get_or rest i id → tower id ≡ true → lay place from (piece_of way (begun ++ id ∷ [])) ≡ Err fault
    → lay_all place from (map (piece_of way) (cut_from tower begun (drop i rest))) ≡ all → all ≡ Err fault
way_refuse place way tower begun rest i id from fault all h e t laid before =
    let later : List Piece = map (piece_of way) (cut_from tower (id ∷ []) (drop (i + 1) rest)) in
    sym before ∙ ap (λ (l : List (List ℤ)). lay_all place from (map (piece_of way) l)) (cut_here tower begun rest i id h e t)
    ∙ ap (λ (r : Result Laid ImportFault). and_then r (λ l. lay_all place l later)) laid

-- a node inside a piece
pub way_skip : (place : ℤ → Option Point) (way : UsedWay) (tower : ℤ → Bool) (begun rest : List ℤ) (i : ℕ) (id : ℤ) (from : Laid) (all : Result Laid ImportFault)
    → i < length rest → id ≡ get_or rest i id → tower id ≡ false
    → lay_all place from (map (piece_of way) (cut_from tower begun (drop i rest))) ≡ all
    → lay_all place from (map (piece_of way) (cut_from tower (begun ++ id ∷ []) (drop (i + 1) rest))) ≡ all
way_skip place way tower begun rest i id from all h e t before =
    sym (ap (λ (l : List (List ℤ)). lay_all place from (map (piece_of way) l)) (cut_later tower begun rest i id h e t)) ∙ before

-- one way more is laid
pub ways_step : (place : ℤ → Option Point) (tower : ℤ → Bool) (ways : List UsedWay) (i : ℕ) (way : UsedWay) (from to : Laid) (all : Result Laid ImportFault)
    → i < length ways → way ≡ get_or ways i way → lay_all place from (pieces_of_way tower way) ≡ Ok to
    → lay_all place from (pieces_of tower (drop i ways)) ≡ all → lay_all place to (pieces_of tower (drop (i + 1) ways)) ≡ all
ways_step place tower ways i way from to all h e laid before =
    let later : List Piece = pieces_of tower (drop (i + 1) ways) in
    sym (ap (λ (r : Result Laid ImportFault). and_then r (λ l. lay_all place l later)) laid)
    ∙ sym (behind place (pieces_of_way tower way) later from)
    ∙ sym (ap (lay_all place from) (next_way tower ways i way h e)) ∙ before

-- or refused
pub ways_refuse : (place : ℤ → Option Point) (tower : ℤ → Bool) (ways : List UsedWay) (i : ℕ) (way : UsedWay) (from : Laid) (fault : ImportFault) (all : Result Laid ImportFault)
    → i < length ways → way ≡ get_or ways i way → lay_all place from (pieces_of_way tower way) ≡ Err fault
    → lay_all place from (pieces_of tower (drop i ways)) ≡ all → all ≡ Err fault
ways_refuse place tower ways i way from fault all h e laid before =
    let later : List Piece = pieces_of tower (drop (i + 1) ways) in
    sym before ∙ ap (lay_all place from) (next_way tower ways i way h e)
    ∙ behind place (pieces_of_way tower way) later from
    ∙ ap (λ (r : Result Laid ImportFault). and_then r (λ l. lay_all place l later)) laid
