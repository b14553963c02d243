-- The blocks of ways that can be written fit.
use Rattle.std.proofs.lemmas.Bool.{cond_both, leb-true, ltb-false, or_parts}
use Rattle.std.proofs.lemmas.Int.{ints, fits_signed_from_abs}
use Rattle.std.proofs.Math.Facts.{Fits-of_z, Fits-lt-pow}
use Rattle.std.proofs.lemmas.Str.{IsUtf8-nil}
use Rattle.std.proofs.Common.{◌≡◌, ℕ, ◌+◌, ◌^◌, ◌<◌, ◌≤◌, ◌==◌, ◌||◌, zero, suc, ℤ, pos, List, [], ◌∷◌, ◌++◌, length, map, take, IsUtf8, Ok, true, false, nat_le, nat_lt, arith, append-nil, length-append}
use Rattle.std.proofs.lemmas.List.Elements.{All-nil, All-cons, All-head, All-tail, All-append, All-filter, All-take, All-weaker, recursion_from_All}
use Rattle.std.specs.List.{All, AllByRecursion}
use Rattle.std.specs.Int.{cast_unsigned, w64}
use Rattle.gh_base.specs.declared.map.OsmTag.{OsmTag}
use Rattle.gh_base.specs.declared.map.OsmNode.{OsmNode}
use Rattle.gh_base.specs.declared.map.OsmWay.{OsmWay}
use Rattle.gh_base.specs.declared.map.OsmMap.{OsmMap}
use Rattle.pbf_wire.specs.Files.{reads}
use Rattle.pbf_wire.specs.Put.{bytes_field}
use Rattle.pbf_wire.specs.Parts.{Part, message_text, deltas}
use Rattle.gh_base.specs.Maps.{IsShort, IsFileNode, IsTextTag}
use Rattle.pbf_wire.specs.Writing.{IsWritableWay, IsWritable, fits, firsts, words_of, all_words, table_of, index_of, way_text, strings_text, block_text, ways_block, is_end, end_from, ways_count, pbf_text}
use Rattle.pbf_writer.proofs.FieldsRead.{IsPart, bytes_some}
use Rattle.pbf_writer.proofs.NodesRead.{IsSmall, small_short, zero_small}
use Rattle.pbf_writer.proofs.WaysRead.{IsReadable}
use Rattle.pbf_writer.proofs.BlocksRead.{ways_block_read}
use Rattle.pbf_writer.proofs.MapsRead.{IsRead, map_again}
use Rattle.pbf_writer.proofs.Fits.{deltas_fit, packed_least, nodes_are_read}
use Rattle.pbf_writer.proofs.Grown.{all_front, all_behind, table_has, ways_of}
use Rattle.pbf_writer.proofs.Tables.{Has, place_small}

-- fields of bytes that fit together fit each
bytes_parts : {X : Type 0} (number : ℕ) (f : X → List ℕ) (xs : List X) → 0 < number → number < 2 ^ 32 → length (message_text (map (λ x. Part.Bytes number (f x)) xs)) < 2 ^ 64 → AllByRecursion IsPart (map (λ x. Part.Bytes number (f x)) xs)
bytes_parts number f [] some few small = tt
bytes_parts number f (x ∷ xs) some few small =
    let size = length-append (bytes_field number (f x)) (message_text (map (λ x. Part.Bytes number (f x)) xs)) in
    let least = bytes_some number (f x) in
    ((some, few, omega arith), bytes_parts number f xs some few (omega arith))

bytes_count : {X : Type 0} (number : ℕ) (f : X → List ℕ) (xs : List X) → length xs ≤ length (message_text (map (λ x. Part.Bytes number (f x)) xs))
bytes_count number f [] = omega arith
bytes_count number f (x ∷ xs) = omega (arith, bytes_some number (f x), bytes_count number f xs, length-append (bytes_field number (f x)) (message_text (map (λ x. Part.Bytes number (f x)) xs)))

all_firsts : (P : List ℕ → Type 0) (words : List (List ℕ)) → All P words → All P (firsts words)
all_firsts P [] h = h
all_firsts P (word ∷ words) h = All-cons P word _ (All-head P word words h) (All-filter _ P (firsts words) (all_firsts P words (All-tail P word words h)))

words_text : (tags : List OsmTag) → All IsTextTag tags → All IsUtf8 (words_of tags)
words_text [] h = All-nil IsUtf8
words_text (tag ∷ tags) h =
    let here = All-head IsTextTag tag tags h in
    All-cons IsUtf8 tag.key (tag.value ∷ words_of tags) here.key (All-cons IsUtf8 tag.value (words_of tags) here.value (words_text tags (All-tail IsTextTag tag tags h)))

ways_words : (ways : List OsmWay) → All IsWritableWay ways → All IsUtf8 (all_words ways)
ways_words [] h = All-nil IsUtf8
ways_words (way ∷ ways) h = All-append IsUtf8 (words_of way.tags) (all_words ways) (words_text way.tags (All-head IsWritableWay way ways h).text.tags) (ways_words ways (All-tail IsWritableWay way ways h))

table_text : (ways : List OsmWay) → All IsWritableWay ways → AllByRecursion IsUtf8 (table_of ways)
unfolding table_of
table_text ways h = recursion_from_All IsUtf8 (firsts ([] ∷ all_words ways)) (all_firsts IsUtf8 ([] ∷ all_words ways) (All-cons IsUtf8 [] (all_words ways) IsUtf8-nil (ways_words ways h)))

keys_fit : (table : List (List ℕ)) (tags : List OsmTag) → length table < 2 ^ 32 → AllByRecursion (Has table) (words_of tags) → AllByRecursion (λ v. v < 2 ^ 64) (map (λ tag. index_of table tag.key) tags)
keys_fit table [] few h = tt
keys_fit table (tag ∷ tags) few h =
    let here = place_small table tag.key h.0 in
    (omega arith, keys_fit table tags few h.1.1)

values_fit : (table : List (List ℕ)) (tags : List OsmTag) → length table < 2 ^ 32 → AllByRecursion (Has table) (words_of tags) → AllByRecursion (λ v. v < 2 ^ 64) (map (λ tag. index_of table tag.value) tags)
values_fit table [] few h = tt
values_fit table (tag ∷ tags) few h =
    let here = place_small table tag.value h.1.0 in
    (omega arith, values_fit table tags few h.1.1)

id_fits : (id : ℤ) → IsShort id → cast_unsigned w64 id < 2 ^ 64
id_fits id h =
    Fits-lt-pow {w = w64} (Fits-of_z {w = w64} {z = id} (fits_signed_from_abs w64 id (omega (arith, ints))))

-- a way of a table that has its words can be written
way_fits : (table : List (List ℕ)) (way : OsmWay) → length table < 2 ^ 32 → AllByRecursion (Has table) (words_of way.tags) → length (way_text table way) < 2 ^ 64 → IsWritableWay way → IsReadable table way
unfolding way_text
way_fits table way few has small h =
    let keys = packed_least 2 (map (λ (tag : OsmTag). index_of table tag.key) way.tags) in
    let values = packed_least 3 (map (λ (tag : OsmTag). index_of table tag.value) way.tags) in
    let refs = packed_least 8 (deltas (pos 0) way.refs) in
    let short = recursion_from_All IsShort way.refs h.text.ids.refs in
    let near = recursion_from_All IsSmall way.refs (All-weaker IsShort IsSmall small_short way.refs h.text.ids.refs) in
    record {
      parts = (
        (omega arith, omega arith, id_fits way.id h.text.ids.id),
        (
          (omega arith, omega arith, omega (arith, length-append {A = ℕ}), keys_fit table way.tags few has),
          (
            (omega arith, omega arith, omega (arith, length-append {A = ℕ}), values_fit table way.tags few has),
            ((omega arith, omega arith, omega (arith, length-append {A = ℕ}), deltas_fit (pos 0) way.refs zero_small near), tt),
          ),
        ),
      );
      has = has;
      id = h.text.ids.id;
      refs = short;
    }

ways_fit : (table : List (List ℕ)) (ways : List OsmWay) → length table < 2 ^ 32 → AllByRecursion (Has table) (all_words ways) → length (ways_of table ways) < 2 ^ 64 → All IsWritableWay ways → AllByRecursion (IsReadable table) ways
ways_fit table [] few has small h = tt
ways_fit table (way ∷ ways) few has small h =
    let size = length-append (bytes_field 3 (way_text table way)) (ways_of table ways) in
    let least = bytes_some 3 (way_text table way) in
    (way_fits table way few (all_front (Has table) (words_of way.tags) (all_words ways) has) (omega arith) (All-head IsWritableWay way ways h), ways_fit table ways few (all_behind (Has table) (words_of way.tags) (all_words ways) has) (omega arith) (All-tail IsWritableWay way ways h))

ways_read : (nodes : List OsmNode) (ways : List OsmWay) → length (ways_block ways) ≤ 33554432 → All IsWritableWay ways → IsRead (λ done. record { nodes = nodes; ways = done }) ways_block ways
unfolding ways_block block_text
ways_read nodes ways small h =
    let strings = strings_text (table_of ways) in
    let group = ways_of (table_of ways) ways in
    let size : length (bytes_field 1 strings ++ (bytes_field 2 group ++ [])) ≡ length (bytes_field 1 strings) + length (bytes_field 2 group) = simp (length-append, append-nil) in
    let strings_least = bytes_some 1 strings in
    let group_least = bytes_some 2 group in
    let count : length (table_of ways) ≤ length strings = bytes_count 1 (λ (word : List ℕ). word) (table_of ways) in
    let readable = ways_fit (table_of ways) ways (omega arith) (table_has ways) (omega arith) h in
    let parts = bytes_parts 3 (way_text (table_of ways)) ways (omega arith) (omega arith) (omega arith) in
    record {
      small = small;
      adds = λ file done piece there. ways_block_read file (record { nodes = nodes; ways = done }) piece ways (omega arith) readable parts (record {
        fields = ((omega arith, omega arith, omega arith), ((omega arith, omega arith, omega arith), tt));
        words = bytes_parts 1 (λ (word : List ℕ). word) (table_of ways) (omega arith) (omega arith) (omega arith);
        texts = table_text ways h;
      }) there;
    }

-- what holds before an end, and at one more where none is, holds at the end
end_holds : (P : ℕ → Type 0) (ways : List OsmWay) → ((n : ℕ) → is_end ways n ≡ false → P (n + 1)) → (most n : ℕ) → P n → P (end_from most ways n)
end_holds P ways more zero n here = here
end_holds P ways more (suc most) n here = cond_both (is_end ways n) n (end_from most ways (n + 1)) P (λ t. here) (λ f. end_holds P ways more most (n + 1) (more n f))

ways_some : (ways : List OsmWay) → 0 < ways_count ways
unfolding ways_count
ways_some ways = end_holds (λ n. 0 < n) ways (λ n f. omega arith) (length ways) 1 (omega arith)

count_small : (way : OsmWay) (ways : List OsmWay) → fits way ≡ true → length (ways_block (take (ways_count (way ∷ ways)) (way ∷ ways))) ≤ 33554432
unfolding ways_count
count_small way ways fit = end_holds (λ n. length (ways_block (take n (way ∷ ways))) ≤ 33554432) (way ∷ ways) (λ n f. short n f) (length (way ∷ ways)) 1 (leb-true (length (ways_block (way ∷ []))) 33554432 fit)
  where
    short : (n : ℕ) → is_end (way ∷ ways) n ≡ false → length (ways_block (take (n + 1) (way ∷ ways))) ≤ 33554432
    short n f = omega (arith, ltb-false 16777216 (length (ways_block (take (n + 1) (way ∷ ways)))) (or_parts (n == 8000 || nat_le (length (way ∷ ways)) n) (nat_lt 16777216 (length (ways_block (take (n + 1) (way ∷ ways))))) f).1)

-- the law
pub maps_again : (m : OsmMap) → IsWritable m → reads (pbf_text m) ≡ Ok m
maps_again m h = map_again IsFileNode IsWritableWay m nodes_are_read (λ way ways all. let n = ways_count (way ∷ ways) in (ways_some (way ∷ ways), ways_read m.nodes (take n (way ∷ ways)) (count_small way ways (All-head IsWritableWay way ways all).fits) (All-take IsWritableWay n (way ∷ ways) all))) h.nodes h.ways
