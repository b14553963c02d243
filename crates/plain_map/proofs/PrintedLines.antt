-- Printed lines are read again, and so are maps.
use Rattle.std.proofs.Common.{◌≡◌, ◌∙◌, ℕ, ℤ, pos, negsuc, neg_ℤ, ◌≤ℤ◌, ◌+◌, ◌^◌, ◌<◌, ◌≤◌, List, [], ◌∷◌, ◌++◌, map, length, Option, Some, None, true, false, eqb, nat_abs, Result, Ok, codes, IsUtf8, refl, ap, arith, append-nil, append_assoc}
use Rattle.std.proofs.lemmas.Int.{ints}
use Rattle.std.specs.Fmt.{signed_decimal}
use Rattle.std.specs.Str.Lossy.{utf8_valid_len}
use Rattle.std.proofs.lemmas.Bool.{ne_eqb, eq-eqb}
use Rattle.std.proofs.lemmas.Str.{IsUtf8-append, utf8_valid_len-IsUtf8}
use Rattle.gh_base.specs.declared.map.OsmTag.{OsmTag}
use Rattle.gh_base.specs.declared.map.OsmNode.{OsmNode}
use Rattle.gh_base.specs.declared.map.OsmWay.{OsmWay}
use Rattle.gh_base.specs.declared.map.OsmMap.{OsmMap}
use Rattle.gh_base.specs.Maps.{IsShort, IsTextTag, IsFileNode, IsTextWay}
use Rattle.gh_base.specs.Parts.{parts_of}
use Rattle.plain_map.specs.declared.fault.PlainFault.{PlainFault}
use Rattle.plain_map.specs.declared.line.Item.TheVariants.{Node, Way}
use Rattle.plain_map.specs.Fields.{tags_at, refs_at, node_with, way_with}
use Rattle.plain_map.specs.Lines.{node_line, way_line, line_at, reads_from, reads}
use Rattle.plain_map.specs.Printing.{IsPrintable, coordinate_text, tag_text, ref_text, listed, place_text, node_text, way_text, lines_text, plain_text, escaped}
use Rattle.plain_map.proofs.Splits.{Each, each_append, each_more, Without, cut_at, cut_end, no_newline}
use Rattle.plain_map.proofs.PrintedNumbers.{id_again}
use Rattle.plain_map.proofs.PrintedPlaces.{coordinate_again}
use Rattle.plain_map.proofs.PrintedBytes.{IsOfNumber, id_bytes, coordinate_bytes, utf8_number, utf8_ascii, text_utf8}
use Rattle.plain_map.proofs.PrintedWords.{AllItems, all_items, IsInWord, tag_bytes, ref_bytes, tags_again, refs_again}

no_space : (a : List ℕ) → Each IsInWord a → Without 32 a
no_space a h = each_more IsInWord _ (λ b k. ne_eqb b 32 (λ e. omega (arith, k.above))) a h

word_number : (a : List ℕ) → Each IsOfNumber a → Each IsInWord a
word_number a h = each_more IsOfNumber IsInWord (λ b k. record { above = omega (arith, k.low); comma = λ e. omega (arith, k.low) }) a h

letter : (b : ℕ) → 64 < b → IsInWord b
letter b h = record { above = omega arith; comma = λ e. omega arith }

-- ---- a node

node_parts : (id : ℤ) (lat lon : ℤ) → IsShort id → nat_abs lat < 10 ^ 16 → nat_abs lon < 10 ^ 16 → parts_of 32 (110 ∷ signed_decimal id ++ (32 ∷ 121 ∷ (coordinate_text lat ++ (32 ∷ 120 ∷ coordinate_text lon)))) ≡ (110 ∷ signed_decimal id) ∷ (121 ∷ coordinate_text lat) ∷ (120 ∷ coordinate_text lon) ∷ []
node_parts id lat lon h k l =
    let first = no_space (110 ∷ signed_decimal id) (letter 110 (omega arith), word_number (signed_decimal id) (id_bytes id h)) in
    let second = no_space (121 ∷ coordinate_text lat) (letter 121 (omega arith), word_number (coordinate_text lat) (coordinate_bytes lat k)) in
    let third = no_space (120 ∷ coordinate_text lon) (letter 120 (omega arith), word_number (coordinate_text lon) (coordinate_bytes lon l)) in
    cut_at 32 (110 ∷ signed_decimal id) (121 ∷ (coordinate_text lat ++ (32 ∷ 120 ∷ coordinate_text lon))) first
    ∙ ap (λ w. (110 ∷ signed_decimal id) ∷ w) (cut_at 32 (121 ∷ coordinate_text lat) (120 ∷ coordinate_text lon) second ∙ ap (λ w. (121 ∷ coordinate_text lat) ∷ w) (cut_end 32 (120 ∷ coordinate_text lon) third))

lat_again : (lat : ℤ) → nat_abs lat ≤ 900000000 → node_with (record { lat = None; lon = None; tagged = false }) (121 ∷ coordinate_text lat) ≡ Ok (record { lat = Some lat; lon = None; tagged = false })
unfolding node_with
lat_again lat h = rw (coordinate_again 900000000 lat h (omega arith)) refl

lon_again : (lat lon : ℤ) → nat_abs lon ≤ 1800000000 → node_with (record { lat = Some lat; lon = None; tagged = false }) (120 ∷ coordinate_text lon) ≡ Ok (record { lat = Some lat; lon = Some lon; tagged = false })
unfolding node_with
lon_again lat lon h = rw (coordinate_again 1800000000 lon h (omega arith)) refl

node_line_again : (end : ℕ) (id lat lon : ℤ) → IsShort id → nat_abs lat ≤ 900000000 → nat_abs lon ≤ 1800000000 → node_line end (signed_decimal id) ((121 ∷ coordinate_text lat) ∷ (120 ∷ coordinate_text lon) ∷ []) ≡ Ok (Node (record { id = id; place = record { lat = lat; lon = lon } }))
unfolding node_line
node_line_again end id lat lon h k l = rw (id_again id h, lat_again lat k, lon_again lat lon l) refl

-- ---- a way

abbrev field : ℕ → List (List ℕ) → List (List ℕ)
field b [] = []
field b (part ∷ parts) = (b ∷ (part ++ listed (codes ",") parts)) ∷ []

above : (a : List ℕ) → Each IsInWord a → Each (λ b. 32 < b) a
above a h = each_more IsInWord _ (λ b k. k.above) a h

above_no_space : (a : List ℕ) → Each (λ b. 32 < b) a → Without 32 a
above_no_space a h = each_more (λ b. 32 < b) _ (λ b k. ne_eqb b 32 (λ e. omega arith)) a h

listed_above : (parts : List (List ℕ)) → AllItems (Each (λ b. 32 < b)) parts → Each (λ b. 32 < b) (listed (codes ",") parts)
listed_above [] h = tt
listed_above (p ∷ ps) h = (omega arith, each_append (λ b. 32 < b) p (listed (codes ",") ps) h.0 (listed_above ps h.1))

word_above : (b : ℕ) (p : List ℕ) (ps : List (List ℕ)) → 64 < b → AllItems (Each (λ b. 32 < b)) (p ∷ ps) → Without 32 (b ∷ (p ++ listed (codes ",") ps))
word_above b p ps lt h = above_no_space (b ∷ (p ++ listed (codes ",") ps)) (omega arith, each_append (λ b. 32 < b) p (listed (codes ",") ps) h.0 (listed_above ps h.1))

way_parts : (first : List ℕ) (ts ns : List (List ℕ)) → Without 32 first → AllItems (Each (λ b. 32 < b)) ts → AllItems (Each (λ b. 32 < b)) ns → parts_of 32 (first ++ (listed (codes " T") ts ++ listed (codes " N") ns)) ≡ first ∷ (field 84 ts ++ field 78 ns)
way_parts first [] [] f t n = rw (append-nil first) (cut_end 32 first f)
way_parts first (t ∷ ts) [] f h n = rw (append-nil (t ++ listed (codes ",") ts)) (cut_at 32 first (84 ∷ (t ++ listed (codes ",") ts)) f ∙ ap (λ w. first ∷ w) (cut_end 32 (84 ∷ (t ++ listed (codes ",") ts)) (word_above 84 t ts (omega arith) h)))
way_parts first [] (n ∷ ns) f h k = cut_at 32 first (78 ∷ (n ++ listed (codes ",") ns)) f ∙ ap (λ w. first ∷ w) (cut_end 32 (78 ∷ (n ++ listed (codes ",") ns)) (word_above 78 n ns (omega arith) k))
way_parts first (t ∷ ts) (n ∷ ns) f h k =
    cut_at 32 first (84 ∷ ((t ++ listed (codes ",") ts) ++ (32 ∷ 78 ∷ (n ++ listed (codes ",") ns)))) f
    ∙ ap (λ w. first ∷ w) (cut_at 32 (84 ∷ (t ++ listed (codes ",") ts)) (78 ∷ (n ++ listed (codes ",") ns)) (word_above 84 t ts (omega arith) h) ∙ ap (λ w. (84 ∷ (t ++ listed (codes ",") ts)) ∷ w) (cut_end 32 (78 ∷ (n ++ listed (codes ",") ns)) (word_above 78 n ns (omega arith) k)))

tags_word : (refs : Option (List ℤ)) (bytes : List ℕ) (tags : List OsmTag) → tags_at bytes ≡ Ok tags → way_with (record { tags = None; refs = refs }) (84 ∷ bytes) ≡ Ok (record { tags = Some tags; refs = refs })
unfolding way_with
tags_word refs bytes tags e = rw e refl

refs_word : (tags : Option (List OsmTag)) (bytes : List ℕ) (refs : List ℤ) → refs_at bytes ≡ Ok refs → way_with (record { tags = tags; refs = None }) (78 ∷ bytes) ≡ Ok (record { tags = tags; refs = Some refs })
unfolding way_with
refs_word tags bytes refs e = rw e refl

way_line_again : (id : ℤ) (tags : List OsmTag) (refs : List ℤ) → IsShort id → AllItems IsShort refs → way_line (signed_decimal id) (field 84 (map tag_text tags) ++ field 78 (map ref_text refs)) ≡ Ok (Way (record { id = id; tags = tags; refs = refs }))
unfolding way_line
way_line_again id [] [] h k = rw (id_again id h) refl
way_line_again id (t ∷ ts) [] h k = rw (id_again id h, tags_word None (tag_text t ++ listed (codes ",") (map tag_text ts)) (t ∷ ts) (tags_again t ts)) refl
way_line_again id [] (r ∷ rs) h k = rw (id_again id h, refs_word None (ref_text r ++ listed (codes ",") (map ref_text rs)) (r ∷ rs) (refs_again r rs k.0 k.1)) refl
way_line_again id (t ∷ ts) (r ∷ rs) h k = rw (id_again id h, tags_word None (tag_text t ++ listed (codes ",") (map tag_text ts)) (t ∷ ts) (tags_again t ts), refs_word (Some (t ∷ ts)) (ref_text r ++ listed (codes ",") (map ref_text rs)) (r ∷ rs) (refs_again r rs k.0 k.1)) refl

tags_above : (tags : List OsmTag) → AllItems (Each (λ b. 32 < b)) (map tag_text tags)
tags_above [] = tt
tags_above (t ∷ ts) = (above (tag_text t) (tag_bytes t), tags_above ts)

refs_above : (refs : List ℤ) → AllItems IsShort refs → AllItems (Each (λ b. 32 < b)) (map ref_text refs)
refs_above [] h = tt
refs_above (r ∷ rs) h = (above (ref_text r) (ref_bytes r h.0), refs_above rs h.1)

-- ---- their lines

utf8_line : (line : List ℕ) → IsUtf8 line → eqb (utf8_valid_len line) (length line) ≡ true
utf8_line line h = eq-eqb (utf8_valid_len line) (length line) (utf8_valid_len-IsUtf8 line h)

one_ascii : (b : ℕ) → b < 128 → IsUtf8 (b ∷ [])
one_ascii b h = utf8_ascii (b ∷ []) (h, tt)

cons_utf8 : (b : ℕ) (bytes : List ℕ) → b < 128 → IsUtf8 bytes → IsUtf8 (b ∷ bytes)
cons_utf8 b bytes h k = IsUtf8-append (b ∷ []) bytes (one_ascii b h) k

node_utf8 : (id lat lon : ℤ) → IsShort id → nat_abs lat < 10 ^ 16 → nat_abs lon < 10 ^ 16 → IsUtf8 (110 ∷ signed_decimal id ++ (32 ∷ 121 ∷ (coordinate_text lat ++ (32 ∷ 120 ∷ coordinate_text lon))))
node_utf8 id lat lon h k l =
    let third = cons_utf8 32 _ (omega arith) (cons_utf8 120 _ (omega arith) (utf8_number (coordinate_text lon) (coordinate_bytes lon l))) in
    let second = cons_utf8 32 _ (omega arith) (cons_utf8 121 _ (omega arith) (IsUtf8-append (coordinate_text lat) (32 ∷ 120 ∷ coordinate_text lon) (utf8_number (coordinate_text lat) (coordinate_bytes lat k)) third)) in
    cons_utf8 110 _ (omega arith) (IsUtf8-append (signed_decimal id) _ (utf8_number (signed_decimal id) (id_bytes id h)) second)

tag_utf8 : (tag : OsmTag) → IsTextTag tag → IsUtf8 (tag_text tag)
tag_utf8 tag h = IsUtf8-append (escaped tag.key) (61 ∷ escaped tag.value) (text_utf8 tag.key h.key) (cons_utf8 61 (escaped tag.value) (omega arith) (text_utf8 tag.value h.value))

listed_utf8 : {X : Type 0} (text : X → List ℕ) (P : X → Type 0) → ((x : X) → P x → IsUtf8 (text x)) → (lead : List ℕ) → IsUtf8 lead → (xs : List X) → AllItems P xs → IsUtf8 (listed lead (map text xs))
listed_utf8 text P f lead u [] h = utf8_ascii [] tt
listed_utf8 text P f lead u (x ∷ xs) h = IsUtf8-append lead (text x ++ listed (codes ",") (map text xs)) u (IsUtf8-append (text x) (listed (codes ",") (map text xs)) (f x h.0) (listed_utf8 text P f (codes ",") (one_ascii 44 (omega arith)) xs h.1))

ref_utf8 : (id : ℤ) → IsShort id → IsUtf8 (ref_text id)
ref_utf8 id h = cons_utf8 110 (signed_decimal id) (omega arith) (utf8_number (signed_decimal id) (id_bytes id h))

two_utf8 : (a b : ℕ) → a < 128 → b < 128 → IsUtf8 (a ∷ b ∷ [])
two_utf8 a b h k = utf8_ascii (a ∷ b ∷ []) (h, (k, tt))

way_utf8 : (id : ℤ) (tags : List OsmTag) (refs : List ℤ) → IsShort id → AllItems IsTextTag tags → AllItems IsShort refs → IsUtf8 (119 ∷ signed_decimal id ++ (listed (codes " T") (map tag_text tags) ++ listed (codes " N") (map ref_text refs)))
way_utf8 id tags refs h k l =
    cons_utf8 119 _ (omega arith) (IsUtf8-append (signed_decimal id) _ (utf8_number (signed_decimal id) (id_bytes id h))
    (IsUtf8-append (listed (codes " T") (map tag_text tags)) (listed (codes " N") (map ref_text refs)) (listed_utf8 tag_text IsTextTag tag_utf8 (codes " T") (two_utf8 32 84 (omega arith) (omega arith)) tags k) (listed_utf8 ref_text IsShort ref_utf8 (codes " N") (two_utf8 32 78 (omega arith) (omega arith)) refs l)))

within : (most : ℕ) (z : ℤ) → neg_ℤ (pos most) ≤ℤ z → z ≤ℤ pos most → nat_abs z ≤ most
within most (pos n) low high = omega (arith, ints)
within most (negsuc n) low high = omega (arith, ints)

pub node_again : (node : OsmNode) → IsFileNode node → line_at (node_text node) ≡ Ok (Some (Node node))
unfolding line_at node_text
node_again node h =
    let lat : nat_abs node.place.lat ≤ 900000000 = within 900000000 node.place.lat h.place.south h.place.north in
    let lon : nat_abs node.place.lon ≤ 1800000000 = within 1800000000 node.place.lon h.place.west h.place.east in
    rw (utf8_line _ (node_utf8 node.id node.place.lat node.place.lon h.id (omega arith) (omega arith)), node_parts node.id node.place.lat node.place.lon h.id (omega arith) (omega arith), node_line_again _ node.id node.place.lat node.place.lon h.id lat lon) refl

pub way_again : (way : OsmWay) → IsTextWay way → line_at (way_text way) ≡ Ok (Some (Way way))
unfolding line_at way_text
way_again way h =
    let tags = all_items IsTextTag way.tags h.tags in
    let refs = all_items IsShort way.refs h.ids.refs in
    let first = no_space (119 ∷ signed_decimal way.id) (letter 119 (omega arith), word_number (signed_decimal way.id) (id_bytes way.id h.ids.id)) in
    rw (utf8_line _ (way_utf8 way.id way.tags way.refs h.ids.id tags refs), way_parts (119 ∷ signed_decimal way.id) (map tag_text way.tags) (map ref_text way.refs) first (tags_above way.tags) (refs_above way.refs refs), way_line_again way.id way.tags way.refs h.ids.id refs) refl

-- ---- whole maps

at_least : (a : List ℕ) → Each (λ b. 32 < b) a → Each (λ b. 32 ≤ b) a
at_least a h = each_more (λ b. 32 < b) _ (λ b k. omega arith) a h

number_least : (a : List ℕ) → Each IsOfNumber a → Each (λ b. 32 ≤ b) a
number_least a h = each_more IsOfNumber _ (λ b k. omega (arith, k.low)) a h

node_bytes : (node : OsmNode) → IsFileNode node → Each (λ b. 32 ≤ b) (node_text node)
unfolding node_text
node_bytes node h =
    let lat : nat_abs node.place.lat ≤ 900000000 = within 900000000 node.place.lat h.place.south h.place.north in
    let lon : nat_abs node.place.lon ≤ 1800000000 = within 1800000000 node.place.lon h.place.west h.place.east in
    let third = number_least (coordinate_text node.place.lon) (coordinate_bytes node.place.lon (omega arith)) in
    let second = each_append (λ b. 32 ≤ b) (coordinate_text node.place.lat) (32 ∷ 120 ∷ coordinate_text node.place.lon) (number_least (coordinate_text node.place.lat) (coordinate_bytes node.place.lat (omega arith))) (omega arith, (omega arith, third)) in
    (omega arith, each_append (λ b. 32 ≤ b) (signed_decimal node.id) (place_text node.place) (number_least (signed_decimal node.id) (id_bytes node.id h.id)) (omega arith, (omega arith, second)))

lead_bytes : (b : ℕ) (parts : List (List ℕ)) → 64 < b → AllItems (Each (λ c. 32 < c)) parts → Each (λ c. 32 ≤ c) (listed (32 ∷ b ∷ []) parts)
lead_bytes b [] lt h = tt
lead_bytes b (p ∷ ps) lt h = (omega arith, (omega arith, at_least (p ++ listed (codes ",") ps) (each_append (λ c. 32 < c) p (listed (codes ",") ps) h.0 (listed_above ps h.1))))

way_bytes : (way : OsmWay) → IsTextWay way → Each (λ b. 32 ≤ b) (way_text way)
unfolding way_text
way_bytes way h =
    let refs = all_items IsShort way.refs h.ids.refs in
    let behind = each_append (λ b. 32 ≤ b) (listed (codes " T") (map tag_text way.tags)) (listed (codes " N") (map ref_text way.refs)) (lead_bytes 84 (map tag_text way.tags) (omega arith) (tags_above way.tags)) (lead_bytes 78 (map ref_text way.refs) (omega arith) (refs_above way.refs refs)) in
    (omega arith, each_append (λ b. 32 ≤ b) (signed_decimal way.id) (listed (codes " T") (map tag_text way.tags) ++ listed (codes " N") (map ref_text way.refs)) (number_least (signed_decimal way.id) (id_bytes way.id h.ids.id)) behind)

line_cut : (line lines rest : List ℕ) → Each (λ b. 32 ≤ b) line → parts_of 10 ((line ++ 10 ∷ lines) ++ rest) ≡ line ∷ parts_of 10 (lines ++ rest)
line_cut line lines rest h = rw (append_assoc line (10 ∷ lines) rest) (cut_at 10 line (lines ++ rest) (no_newline line h))

nodes_read : (nodes : List OsmNode) (rest : List ℕ) (number : ℕ) (before : List OsmNode) (ways : List OsmWay) (answer : Result OsmMap PlainFault) → AllItems IsFileNode nodes → ((k : ℕ) → reads_from k (record { nodes = before ++ nodes; ways = ways }) (parts_of 10 rest) ≡ answer) → reads_from number (record { nodes = before; ways = ways }) (parts_of 10 (lines_text (map node_text nodes) ++ rest)) ≡ answer
nodes_read [] rest number before ways answer h f = rw (append-nil before) at (f number)
nodes_read (node ∷ nodes) rest number before ways answer h f =
    rw (line_cut (node_text node) (lines_text (map node_text nodes)) rest (node_bytes node h.0), node_again node h.0)
    (nodes_read nodes rest (number + 1) (before ++ node ∷ []) ways answer h.1 (λ k. rw (append_assoc before (node ∷ []) nodes) (f k)))

ways_read : (ways : List OsmWay) (rest : List ℕ) (number : ℕ) (nodes : List OsmNode) (before : List OsmWay) (answer : Result OsmMap PlainFault) → AllItems IsTextWay ways → ((k : ℕ) → reads_from k (record { nodes = nodes; ways = before ++ ways }) (parts_of 10 rest) ≡ answer) → reads_from number (record { nodes = nodes; ways = before }) (parts_of 10 (lines_text (map way_text ways) ++ rest)) ≡ answer
ways_read [] rest number nodes before answer h f = rw (append-nil before) at (f number)
ways_read (way ∷ ways) rest number nodes before answer h f =
    rw (line_cut (way_text way) (lines_text (map way_text ways)) rest (way_bytes way h.0), way_again way h.0)
    (ways_read ways rest (number + 1) nodes (before ++ way ∷ []) answer h.1 (λ k. rw (append_assoc before (way ∷ []) ways) (f k)))

end_read : (k : ℕ) (m : OsmMap) → reads_from k m (parts_of 10 []) ≡ Ok m
unfolding line_at
end_read k m = refl

pub map_again : (m : OsmMap) → IsPrintable m → reads (plain_text m) ≡ Ok m
unfolding reads
map_again m h =
    let nodes = all_items IsFileNode m.nodes h.nodes in
    let ways = all_items IsTextWay m.ways h.ways in
    nodes_read m.nodes (lines_text (map way_text m.ways)) 1 [] [] (Ok m) nodes
    (λ k. rw (← append-nil (lines_text (map way_text m.ways))) (ways_read m.ways [] k m.nodes [] (Ok m) ways (λ i. end_read i m)))
