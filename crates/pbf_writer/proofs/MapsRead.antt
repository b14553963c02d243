-- The blocks of a map are read again, one behind another.
use Rattle.std.proofs.lemmas.List.Elements.{All-drop}
use Rattle.std.proofs.Common.{◌≡◌, ◌∙◌, ℕ, ◌<◌, ◌≤◌, zero, suc, List, [], ◌∷◌, ◌++◌, length, map, take, drop, codes, All, Ok, true, false, refl, sym, ap, arith, append_assoc, append-nil, length-append, length-drop, take-append-drop}
use Rattle.gh_base.specs.declared.map.OsmNode.{OsmNode}
use Rattle.gh_base.specs.declared.map.OsmWay.{OsmWay}
use Rattle.gh_base.specs.declared.map.OsmMap.{OsmMap}
use Rattle.pbf_wire.specs.declared.fields.Piece.{Piece}
use Rattle.pbf_wire.specs.Blocks.{block_with}
use Rattle.pbf_wire.specs.Files.{reads}
use Rattle.pbf_wire.specs.Writing.{entry_text, features_text, blocks_text, nodes_block, ways_block, cut, nodes_parts, ways_parts, ways_count, pbf_text}
use Rattle.pbf_writer.proofs.Counts.{field_most}
use Rattle.pbf_writer.proofs.FilesRead.{StandsAt, GoesOn, entry_end, rest_there, data_read, features_read, entry_step, end_read}

-- a part whose block is short and, behind what was read, adds the part
pub record IsRead {X : Type 0} (state : List X → OsmMap) (block : List X → List ℕ) (part : List X) : Type 0 where
  pub small : length (block part) ≤ 33554432
  pub adds : (file : List ℕ) (done : List X) (piece : Piece) → drop piece.start (take piece.end file) ≡ block part → block_with file (state done) piece ≡ Ok (state (done ++ part))

-- each first part of such items is one that is read
abbrev pub AreRead : {X : Type 0} → (X → Type 0) → (List X → OsmMap) → (List X → ℕ) → (List X → List ℕ) → Type 0
AreRead {X} P state count block = (x : X) (xs : List X) → All P (x ∷ xs) → (0 < count (x ∷ xs)) × IsRead state block (take (count (x ∷ xs)) (x ∷ xs))

parts_read : {X : Type 0} (P : X → Type 0) (state : List X → OsmMap) (count : List X → ℕ) (block : List X → List ℕ) → AreRead P state count block → (most : ℕ) (xs done : List X) (file rest : List ℕ) (at : ℕ) (r : OsmMap) → length xs ≤ most → All P xs → drop at file ≡ blocks_text (map block (cut count most xs)) ++ rest →
    ((end : ℕ) → drop end file ≡ rest → GoesOn file false (state (done ++ xs)) end r) → GoesOn file false (state done) at r
parts_read P state count block fit zero [] done file rest at r room all e next = rw append-nil at (next at e)
parts_read P state count block fit zero (x ∷ xs) done file rest at r room all e next = absurd (omega arith)
parts_read P state count block fit (suc most) [] done file rest at r room all e next = rw append-nil at (next at e)
parts_read P state count block fit (suc most) (x ∷ xs) done file rest at r room all e next =
    let n = count (x ∷ xs) in
    let part = take n (x ∷ xs) in
    let left = drop n (x ∷ xs) in
    let good = fit x xs all in
    let some = good.0 in
    let tail = blocks_text (map block (cut count most left)) ++ rest in
    let stands : StandsAt file tail (codes "OSMData") (block part) at = record { whole = e ∙ append_assoc (entry_text (codes "OSMData") (block part)) (blocks_text (map block (cut count most left))) rest; short = omega arith; small = good.1.small } in
    let joined : (done ++ part) ++ left ≡ done ++ x ∷ xs = append_assoc done part left ∙ ap (λ l. done ++ l) (take-append-drop n (x ∷ xs)) in
    entry_step file tail (codes "OSMData") (block part) at false (state done) (state (done ++ part)) r stands refl (data_read file tail (block part) at (state done) (state (done ++ part)) stands (λ piece there. good.1.adds file done piece there))
    (parts_read P state count block fit most left (done ++ part) file rest (entry_end at (codes "OSMData") (block part)) r (omega (arith, length-drop n (x ∷ xs))) (All-drop P n (x ∷ xs) all) (rest_there file tail (codes "OSMData") (block part) at stands) (λ end there. rw joined (next end there)))

features_small : length features_text ≤ 33554432
features_small = omega (arith, field_most 4 (codes "OsmSchema-V0.6"), field_most 4 (codes "DenseNodes"), length-append {A = ℕ})

-- a map whose parts are read
pub map_again : (P : OsmNode → Type 0) (Q : OsmWay → Type 0) (m : OsmMap) → AreRead P (λ done. record { nodes = done; ways = [] }) (λ left. 8000) nodes_block → AreRead Q (λ done. record { nodes = m.nodes; ways = done }) ways_count ways_block → All P m.nodes → All Q m.ways → reads (pbf_text m) ≡ Ok m
unfolding reads pbf_text
map_again P Q m nodes ways all_nodes all_ways =
    let first = blocks_text (map nodes_block (nodes_parts m.nodes)) in
    let second = blocks_text (map ways_block (ways_parts m.ways)) in
    let file = entry_text (codes "OSMHeader") features_text ++ (blocks_text (map nodes_block (nodes_parts m.nodes)) ++ blocks_text (map ways_block (ways_parts m.ways))) in
    let none : OsmMap = record { nodes = []; ways = [] } in
    let stands : StandsAt file (first ++ second) (codes "OSMHeader") features_text 0 = record { whole = refl; short = omega arith; small = features_small } in
    entry_step file (first ++ second) (codes "OSMHeader") features_text 0 true (record { nodes = []; ways = [] }) (record { nodes = []; ways = [] }) m stands refl (features_read file (first ++ second) 0 (record { nodes = []; ways = [] }) stands)
    (parts_read P (λ done. record { nodes = done; ways = [] }) (λ left. 8000) nodes_block nodes (length m.nodes) m.nodes [] file second (entry_end 0 (codes "OSMHeader") features_text) m (omega arith) all_nodes (rest_there file (first ++ second) (codes "OSMHeader") features_text 0 stands)
    (λ end there. parts_read Q (λ done. record { nodes = m.nodes; ways = done }) ways_count ways_block ways (length m.ways) m.ways [] file [] end m (omega arith) all_ways (there ∙ sym (append-nil second))
    (λ last none_left. end_read file m last (omega (arith, length-drop last file, ap length none_left))))) (length file) (omega arith)
