-- A block of ways with one way more.
use Rattle.std.proofs.Math.Seq.{take-append_seam}
use Rattle.std.proofs.lemmas.List.{drop_more, take_more}
use Rattle.std.proofs.lemmas.List.Elements.{All-tail, recursion_from_All}
use Rattle.std.proofs.Common.{◌≡◌, ◌∙◌, ℕ, ◌+◌, ◌<◌, Bool, true, false, List, [], ◌∷◌, ◌++◌, length, map, take, drop, get_or, refl, sym, ap, arith, append_assoc, append-nil, length-append}
use Rattle.std.specs.List.{AllByRecursion}
use Rattle.gh_base.specs.declared.map.OsmTag.{OsmTag}
use Rattle.gh_base.specs.declared.map.OsmWay.{OsmWay}
use Rattle.pbf_wire.specs.Put.{bytes_field}
use Rattle.pbf_wire.specs.Parts.{Part, message_text}
use Rattle.pbf_wire.specs.Writing.{firsts, words_of, all_words, table_of, index_of, way_text, strings_text, block_text, ways_block}
use Rattle.pbf_writer.specs.declared.ways.WaysBlock.{WaysBlock}
use Rattle.pbf_writer.specs.Strings.{spelled, with_word, grown, IsText}
use Rattle.pbf_writer.specs.Growing.{IsBlockOf, IsWrittenAs, Tried}
use Rattle.pbf_writer.proofs.Tables.{Has, key_place, value_place, place_grown, firsts_has, table_push, grown_more, strings_append}

-- the tag that is next, and those behind it
pub next_tag : (tags : List OsmTag) (i : ℕ) (tag : OsmTag) → i < length tags → tag ≡ get_or tags i tag → drop i tags ≡ tag ∷ drop (i + 1) tags
next_tag tags i tag h e = drop_more tags i tag h ∙ ap (λ t. t ∷ drop (i + 1) tags) (sym e)

-- the strings after one tag more
pub words_more : (left more : List OsmTag) (tag : OsmTag) (key value : List ℕ) (table one two whole : List (List ℕ)) → left ≡ tag ∷ more → key ≡ tag.key → value ≡ tag.value → one ≡ with_word table key → two ≡ with_word one value → grown table (words_of left) ≡ whole → grown two (words_of more) ≡ whole
words_more left more tag key value table one two whole e k v f g before = rw (g, f, k, v) (rw e at before)

-- the place of its key, and that of its value
pub keys_more : (left more : List OsmTag) (tag : OsmTag) (key : List ℕ) (table one final : List (List ℕ)) (old now whole : List ℕ) (place : ℕ) → left ≡ tag ∷ more → key ≡ tag.key → one ≡ with_word table key → grown table (words_of left) ≡ final → place ≡ index_of one key → now ≡ old ++ place ∷ [] →
    old ++ map (λ (tag : OsmTag). index_of final tag.key) left ≡ whole → now ++ map (λ (tag : OsmTag). index_of final tag.key) more ≡ whole
keys_more left more tag key table one final old now whole place e k f last is put before =
    let stands : index_of final tag.key ≡ index_of (with_word table tag.key) tag.key = rw (← last, e) (key_place table (words_of more) tag.key tag.value) in
    rw (put, is, f, k, ← stands, append_assoc) (rw e at before)

pub values_more : (left more : List OsmTag) (tag : OsmTag) (key value : List ℕ) (table one two final : List (List ℕ)) (old now whole : List ℕ) (place : ℕ) → left ≡ tag ∷ more → key ≡ tag.key → value ≡ tag.value → one ≡ with_word table key → two ≡ with_word one value → grown table (words_of left) ≡ final → place ≡ index_of two value → now ≡ old ++ place ∷ [] →
    old ++ map (λ (tag : OsmTag). index_of final tag.value) left ≡ whole → now ++ map (λ (tag : OsmTag). index_of final tag.value) more ≡ whole
values_more left more tag key value table one two final old now whole place e k v f g last is put before =
    let stands : index_of final tag.value ≡ index_of (with_word (with_word table tag.key) tag.value) tag.value = rw (← last, e) (value_place table (words_of more) tag.key tag.value) in
    rw (put, is, g, f, k, v, ← stands, append_assoc) (rw e at before)

pub all_front : {X : Type 0} (P : X → Type 0) (xs ys : List X) → AllByRecursion P (xs ++ ys) → AllByRecursion P xs
all_front P [] ys h = tt
all_front P (x ∷ xs) ys h = (h.0, all_front P xs ys h.1)

pub all_behind : {X : Type 0} (P : X → Type 0) (xs ys : List X) → AllByRecursion P (xs ++ ys) → AllByRecursion P ys
all_behind P [] ys h = h
all_behind P (x ∷ xs) ys h = all_behind P xs ys h.1

-- what a table has stays where it is when the table grows
keys_stay : (table more : List (List ℕ)) (tags : List OsmTag) → AllByRecursion (Has table) (words_of tags) → map (λ tag. index_of (grown table more) tag.key) tags ≡ map (λ tag. index_of table tag.key) tags
keys_stay table more [] h = refl
keys_stay table more (tag ∷ tags) h = rw (place_grown table more tag.key h.0, keys_stay table more tags h.1.1) refl

values_stay : (table more : List (List ℕ)) (tags : List OsmTag) → AllByRecursion (Has table) (words_of tags) → map (λ tag. index_of (grown table more) tag.value) tags ≡ map (λ tag. index_of table tag.value) tags
values_stay table more [] h = refl
values_stay table more (tag ∷ tags) h = rw (place_grown table more tag.value h.1.0, values_stay table more tags h.1.1) refl

way_stays : (table more : List (List ℕ)) (way : OsmWay) → AllByRecursion (Has table) (words_of way.tags) → way_text (grown table more) way ≡ way_text table way
unfolding way_text
way_stays table more way h = rw (keys_stay table more way.tags h, values_stay table more way.tags h) refl

-- the ways of a group, with a table
abbrev pub ways_of : List (List ℕ) → List OsmWay → List ℕ
ways_of table ways = message_text (map (λ way. Part.Bytes 3 (way_text table way)) ways)

ways_stay : (table more : List (List ℕ)) (ways : List OsmWay) → AllByRecursion (Has table) (all_words ways) → ways_of (grown table more) ways ≡ ways_of table ways
ways_stay table more [] h = refl
ways_stay table more (way ∷ ways) h = rw (way_stays table more way (all_front (Has table) (words_of way.tags) (all_words ways) h), ways_stay table more ways (all_behind (Has table) (words_of way.tags) (all_words ways) h)) refl

pub table_has : (ways : List OsmWay) → AllByRecursion (Has (table_of ways)) (all_words ways)
unfolding table_of
table_has ways = recursion_from_All (Has (firsts ([] ∷ all_words ways))) (all_words ways) (All-tail (Has (firsts ([] ∷ all_words ways))) [] (all_words ways) (firsts_has ([] ∷ all_words ways)))

ways_push : (table : List (List ℕ)) (ways : List OsmWay) (way : OsmWay) → ways_of table (ways ++ way ∷ []) ≡ ways_of table ways ++ bytes_field 3 (way_text table way)
ways_push table [] way = append-nil (bytes_field 3 (way_text table way))
ways_push table (first ∷ ways) way = ap (λ l. bytes_field 3 (way_text table first) ++ l) (ways_push table ways way) ∙ sym (append_assoc (bytes_field 3 (way_text table first)) (ways_of table ways) (bytes_field 3 (way_text table way)))

-- the group of one way more
group_more : (ways : List OsmWay) (way : OsmWay) → ways_of (table_of (ways ++ way ∷ [])) (ways ++ way ∷ []) ≡ ways_of (table_of ways) ways ++ bytes_field 3 (way_text (table_of (ways ++ way ∷ [])) way)
group_more ways way = ways_push (table_of (ways ++ way ∷ [])) ways way ∙ ap (λ l. l ++ bytes_field 3 (way_text (table_of (ways ++ way ∷ [])) way)) (ap (λ t. ways_of t ways) (table_push ways way) ∙ ways_stay (table_of ways) (words_of way.tags) ways (table_has ways))

-- and its table
text_more : (ways : List OsmWay) (way : OsmWay) → (more : List ℕ) × (strings_text (table_of (ways ++ way ∷ [])) ≡ strings_text (table_of ways) ++ more)
text_more ways way =
    let more = grown_more (table_of ways) (words_of way.tags) in
    (strings_text more.0, ap strings_text (table_push ways way ∙ more.1) ∙ strings_append (table_of ways) more.0)

pub block_start : (block : WaysBlock) (old : List (List ℕ)) → old ≡ [] → spelled block.strings.words ≡ with_word old [] → IsText block.strings → block.group.items ≡ [] → IsBlockOf [] block
unfolding table_of
block_start block old none words text group =
    let one : spelled block.strings.words ≡ [] ∷ [] = words ∙ ap (λ t. with_word t []) none in
    record { words = one; written = record { text = text ∙ ap strings_text one; group = group } }

pub block_more : (ways : List OsmWay) (way : OsmWay) (old new : WaysBlock) (bytes : List ℕ) → IsBlockOf ways old → spelled new.strings.words ≡ grown (spelled old.strings.words) (words_of way.tags) → (IsText old.strings → IsText new.strings) → bytes ≡ way_text (spelled new.strings.words) way → new.group.items ≡ old.group.items ++ bytes_field 3 bytes → IsBlockOf (ways ++ way ∷ []) new
block_more ways way old new bytes is words text same group =
    let all : spelled new.strings.words ≡ table_of (ways ++ way ∷ []) = words ∙ ap (λ t. grown t (words_of way.tags)) is.words ∙ sym (table_push ways way) in
    record {
      words = all;
      written = record {
        text = text (is.written.text ∙ ap strings_text (sym is.words)) ∙ ap strings_text all;
        group = group ∙ ap (λ l. l ++ bytes_field 3 bytes) is.written.group ∙ ap (λ b. ways_of (table_of ways) ways ++ bytes_field 3 b) (same ∙ ap (λ t. way_text t way) all) ∙ sym (group_more ways way);
      };
    }

pub block_size : (ways : List OsmWay) (block : WaysBlock) (a b : ℕ) → IsWrittenAs ways block → a ≡ length (bytes_field 1 block.strings.text.items) → b ≡ length (bytes_field 2 block.group.items) → a + b ≡ length (ways_block ways)
unfolding ways_block block_text
block_size ways block a b is e f =
    let first = bytes_field 1 (strings_text (table_of ways)) in
    let second = bytes_field 2 (ways_of (table_of ways) ways) in
    let one : a ≡ length first = e ∙ ap (λ l. length (bytes_field 1 l)) is.text in
    let two : b ≡ length second = f ∙ ap (λ l. length (bytes_field 2 l)) is.group in
    let all : length (first ++ (second ++ [])) ≡ length first + length second = length-append first (second ++ []) ∙ ap (λ l. length first + length l) (append-nil second) in
    rw all (omega arith)

pub block_bytes : (ways : List OsmWay) (block : WaysBlock) (bytes : List ℕ) → IsWrittenAs ways block → bytes ≡ bytes_field 1 block.strings.text.items ++ bytes_field 2 block.group.items → bytes ≡ ways_block ways
unfolding ways_block block_text
block_bytes ways block bytes is e = e ∙ ap (λ l. bytes_field 1 l ++ bytes_field 2 block.group.items) is.text ∙ ap (λ l. bytes_field 1 (strings_text (table_of ways)) ++ l) (ap (bytes_field 2) is.group ∙ sym (append-nil (bytes_field 2 (ways_of (table_of ways) ways))))

-- what was put in is cut off again
pub cut_back : (ways : List OsmWay) (way : OsmWay) (old new last : WaysBlock) → IsBlockOf ways old → IsBlockOf (ways ++ way ∷ []) new → last.strings.text.items ≡ take (length old.strings.text.items) new.strings.text.items → last.group.items ≡ take (length old.group.items) new.group.items → IsWrittenAs ways last
cut_back ways way old new last was is text group =
    let more = text_more ways way in
    let front = strings_text (table_of ways) in
    let group_front = ways_of (table_of ways) ways in
    let group_back = bytes_field 3 (way_text (table_of (ways ++ way ∷ [])) way) in
    record {
      text = text ∙ ap (λ l. take (length old.strings.text.items) l) (is.written.text ∙ more.1) ∙ ap (λ l. take (length l) (front ++ more.0)) was.written.text ∙ take-append_seam front more.0;
      group = group ∙ ap (λ l. take (length old.group.items) l) (is.written.group ∙ group_more ways way) ∙ ap (λ l. take (length l) (group_front ++ group_back)) was.written.group ∙ take-append_seam group_front group_back;
    }

-- the block of the first way
pub one_way : (ways : List OsmWay) (way : OsmWay) (block : WaysBlock) → 0 < length ways → way ≡ get_or ways 0 way → IsBlockOf (way ∷ []) block → IsBlockOf (take 1 ways) block
one_way [] way block some e is = absurd (omega arith)
one_way (first ∷ ways) way block some e is = rw (← e) is

-- and those of one more
pub next_take : (ways : List OsmWay) (i : ℕ) (way : OsmWay) → i < length ways → way ≡ get_or ways i way → take i ways ++ way ∷ [] ≡ take (i + 1) ways
next_take ways i way h e = ap (λ w. take i ways ++ w ∷ []) e ∙ sym (take_more ways i way h)

pub was_added : (added : Bool) (ways : List OsmWay) (way : OsmWay) (block : WaysBlock) → added ≡ true → Tried added ways way block → Tried true ways way block
was_added added ways way block e tried = rw e at tried

pub was_refused : (added : Bool) (ways : List OsmWay) (way : OsmWay) (block : WaysBlock) → added ≡ false → Tried added ways way block → Tried false ways way block
was_refused added ways way block e tried = rw e at tried
