-- How an import ends: with the roads of the map, or its first refusal.
use Rattle.std.specs.Ordering.{int_eq}
use Rattle.std.specs.Result.{IsErrAnd}
use Rattle.std.proofs.Common.{◌≡◌, ◌≢◌, Bool, List, ℤ, [], ◌∷◌, All, Option, Some, None, unwrap_or, Result, Ok, Err, IfErr, cond, inl, inr, refl, sym, ap, ◌∙◌, subst, arith}
use Rattle.std.proofs.lemmas.Bool.{cases_Bool}
use Rattle.std.proofs.lemmas.Int.{ints}
use Rattle.std.proofs.lemmas.List.Elements.{All-head, All-tail}
use Rattle.gh_base.specs.declared.map.OsmMap.{OsmMap}
use Rattle.gh_base.specs.declared.map.OsmNode.{OsmNode}
use Rattle.gh_base.specs.declared.map.Point.{Point}
use Rattle.gh_base.specs.Places.{IsOnEarth}
use Rattle.base_graph.specs.Graphs.{Edge, Graph}
use Rattle.map_import.specs.declared.faults.ImportFault.{ImportFault}
use Rattle.map_import.specs.declared.faults.ImportFault.TheVariants as fault
use Rattle.map_import.specs.Roads.{UsedWay, used_ways, is_tower, pieces_of, place_in, place_at, origin}
use Rattle.map_import.specs.Refusals.{Laid, first_twice, first_missing, lay_all, nothing, unless, roads_by, roads, Refuses}
use Rattle.map_import.specs.Building.{laid_as}

abbrev laid_with : List ℤ → List Edge → Laid
laid_with ids edges = record { ids = ids; edges = edges }

-- what the exit of a `?` refuses
pub refuse_exit : {A : Type 0} (result : Result A ImportFault) (e : ImportFault) (laid : Result Laid ImportFault)
    → IsErrAnd result (λ y. y ≡ e) → (e ≢ fault.NoMemory → laid ≡ Err e) → IfErr result (Refuses laid)
refuse_exit (Ok x) e laid h known = absurd h
refuse_exit (Err y) e laid h known = λ other. known (λ q. other (h ∙ q)) ∙ ap (λ (z : ImportFault). Err z) (sym h)

same_function : {A B : Type 0} (f g : A → B) → ((x : A) → f x ≡ g x) → f ≡ g
same_function f g h = λ i x. h x i

pub roads_twice : (map : OsmMap) (e : ImportFault) → first_twice map.nodes ≡ Some e → roads map ≡ Err e
unfolding roads
roads_twice map e h = ap (λ (o : Option ImportFault). unless o (roads_by (place_in map.nodes) (is_tower (used_ways map.ways)) (used_ways map.ways))) h

pub roads_once : (map : OsmMap) (place : ℤ → Option Point) (tower : ℤ → Bool) (ways : List UsedWay) → first_twice map.nodes ≡ None
    → ((id : ℤ) → place id ≡ place_in map.nodes id) → ((id : ℤ) → tower id ≡ is_tower ways id) → ways ≡ used_ways map.ways
    → roads map ≡ roads_by place tower ways
unfolding roads
roads_once map place tower ways once places towers used =
    ap (λ (o : Option ImportFault). unless o (roads_by (place_in map.nodes) (is_tower (used_ways map.ways)) (used_ways map.ways))) once
    ∙ sym (
    ap (λ (f : ℤ → Option Point). roads_by f tower ways) (same_function place (place_in map.nodes) places)
    ∙ ap (λ (f : ℤ → Bool). roads_by (place_in map.nodes) f ways) (same_function tower (is_tower ways) towers)
    ∙ ap (λ (l : List UsedWay). roads_by (place_in map.nodes) (is_tower l) l) used)

pub roads_missing : (map : OsmMap) (place : ℤ → Option Point) (ways : List UsedWay) (e : ImportFault) → first_twice map.nodes ≡ None
    → ((id : ℤ) → place id ≡ place_in map.nodes id) → ways ≡ used_ways map.ways → first_missing place ways ≡ Some e → roads map ≡ Err e
roads_missing map place ways e once places used missing =
    roads_once map place (is_tower ways) ways once places (λ id. refl) used
    ∙ ap (λ (o : Option ImportFault). unless o (lay_all place nothing (pieces_of (is_tower ways) ways))) missing

pub roads_laid : (map : OsmMap) (place : ℤ → Option Point) (tower : ℤ → Bool) (ways : List UsedWay) (ids : List ℤ) (graph : Graph) (laid : Result Laid ImportFault)
    → first_twice map.nodes ≡ None → ((id : ℤ) → place id ≡ place_in map.nodes id) → ((id : ℤ) → tower id ≡ is_tower ways id) → ways ≡ used_ways map.ways
    → first_missing place ways ≡ None → ids ≡ [] → graph.edges ≡ [] → lay_all place (laid_as ids graph) (pieces_of tower ways) ≡ laid → roads map ≡ laid
roads_laid map place tower ways ids graph laid once places towers used missing no_ids no_edges whole =
    let start : laid_as ids graph ≡ nothing =
    ap (λ (l : List ℤ). laid_with l graph.edges) no_ids ∙ ap (λ (l : List Edge). laid_with [] l) no_edges in
    roads_once map place tower ways once places towers used
    ∙ ap (λ (o : Option ImportFault). unless o (lay_all place nothing (pieces_of tower ways))) missing
    ∙ sym (ap (λ (l : Laid). lay_all place l (pieces_of tower ways)) start) ∙ whole

-- nodes that are there stand on the earth
origin_on_earth : IsOnEarth origin
origin_on_earth = record { south = omega (arith, ints); north = omega (arith, ints); west = omega (arith, ints); east = omega (arith, ints) }

pub place_on_earth : (nodes : List OsmNode) → All (λ (node : OsmNode). IsOnEarth node.place) nodes → (id : ℤ) → IsOnEarth (place_at (place_in nodes) id)
place_on_earth [] all id = origin_on_earth
place_on_earth (node ∷ nodes) all id =
    let P : OsmNode → Type 0 = λ n. IsOnEarth n.place in
    elim (cases_Bool (int_eq node.id id)) [
      | inl t ↦ subst (λ (b : Bool). IsOnEarth (unwrap_or (cond b (Some node.place) (place_in nodes id)) origin)) (sym t) (All-head P node nodes all)
      | inr t ↦ subst (λ (b : Bool). IsOnEarth (unwrap_or (cond b (Some node.place) (place_in nodes id)) origin)) (sym t) (place_on_earth nodes (All-tail P node nodes all) id)
    ]
