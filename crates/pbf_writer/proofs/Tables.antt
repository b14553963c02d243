-- The strings of a block, as they come.
use Rattle.std.proofs.lemmas.Slice.Eq.{bytes_eq-Decides}
use Rattle.std.proofs.lemmas.Bool.{cases_Bool, ne_eqb, false_from_ne_true}
use Rattle.std.proofs.lemmas.List.{map_push}
use Rattle.std.proofs.lemmas.List.Elements.{All-nil, All-cons, All-weaker, filter-append}
use Rattle.std.proofs.lemmas.List.Folds.{list_any-append, prefix_len-append}
use Rattle.std.proofs.lemmas.List.Sums.{passes_at_first}
use Rattle.std.proofs.lemmas.Map.Views.{any-filter_same}
use Rattle.std.proofs.lemmas.Option.{slice_get-get_or}
use Rattle.std.proofs.Math.Bool.{or-true}
use Rattle.std.proofs.Common.{◌≡◌, ◌∙◌, ℕ, ◌+◌, ◌<◌, List, [], ◌∷◌, ◌++◌, length, map, filter, All, inl, inr, Bool, true, false, not, ◌||◌, cond, refl, sym, ap, arith, append_assoc, append-nil, if◌then◌else◌, Some, slice_get}
use Rattle.std.specs.List.{list_any, position_or_len}
use Rattle.std.specs.Str.{bytes_eq}
use denote.Ref.{Bor}
use Rattle.gh_base.specs.declared.map.OsmWay.{OsmWay}
use Rattle.pbf_wire.specs.Put.{bytes_field}
use Rattle.pbf_wire.specs.Writing.{firsts, words_of, all_words, table_of, index_of, strings_text}
use Rattle.pbf_writer.specs.Strings.{with_word, grown}

-- a table has a word
abbrev pub Has : List (List ℕ) → List ℕ → Type 0
Has table word = list_any (bytes_eq word) table ≡ true

any_spelled : (word : List ℕ) (keys : List (Bor (List ℕ))) → list_any (λ k. bytes_eq word k.now) keys ≡ list_any (bytes_eq word) (map (λ k. k.now) keys)
any_spelled word [] = refl
any_spelled word (k ∷ keys) = ap (λ b. bytes_eq word k.now || b) (any_spelled word keys)

place_spelled : (word : List ℕ) (keys : List (Bor (List ℕ))) → position_or_len (λ k. bytes_eq word k.now) keys ≡ position_or_len (bytes_eq word) (map (λ k. k.now) keys)
place_spelled word [] = refl
place_spelled word (k ∷ keys) = ap (λ n. cond (not (bytes_eq word k.now)) (1 + n) 0) (place_spelled word keys)

inserted_by : (t : Bool) (keys : List (Bor (List ℕ))) (word : Bor (List ℕ)) → map (λ k. k.now) (if t then keys else keys ++ word ∷ []) ≡ (if t then map (λ k. k.now) keys else map (λ k. k.now) keys ++ word.now ∷ [])
inserted_by true keys word = refl
inserted_by false keys word = map_push (λ (k : Bor (List ℕ)). k.now) keys word

-- an inserted string, as bytes
pub spelled_with : (keys : List (Bor (List ℕ))) (word : Bor (List ℕ)) → map (λ k. k.now) (if list_any (λ k. bytes_eq word.now k.now) keys then keys else keys ++ word ∷ []) ≡ with_word (map (λ k. k.now) keys) word.now
spelled_with keys word = rw (any_spelled word.now keys) (inserted_by (list_any (bytes_eq word.now) (map (λ k. k.now) keys)) keys word)

bytes_eq_same : (w : List ℕ) → bytes_eq w w ≡ true
bytes_eq_same w = (bytes_eq-Decides w w).1 refl

same_word : (v w : List ℕ) → bytes_eq v w ≡ true → v ≡ w
same_word v w e = (bytes_eq-Decides v w).0 e

put_by : (b u : Bool) (x : List ℕ) (table : List (List ℕ)) (word : List ℕ) → bytes_eq word x ≡ b → list_any (bytes_eq word) table ≡ u → index_of (if u then table else table ++ word ∷ []) word ≡ index_of table word →
    index_of (with_word (x ∷ table) word) word ≡ index_of (x ∷ table) word
put_by true u x table word e f h = rw (e, e) refl
put_by false true x table word e f h = rw (e, f, e) refl
put_by false false x table word e f h = rw (e, f, e) (ap (λ n. 1 + n) h)

-- where a word stands that is put in
put_place : (table : List (List ℕ)) (word : List ℕ) → index_of (with_word table word) word ≡ index_of table word
put_place [] word = rw (bytes_eq_same word) refl
put_place (x ∷ table) word = put_by (bytes_eq word x) (list_any (bytes_eq word) table) x table word refl refl (put_place table word)

pub place_with : (keys : List (Bor (List ℕ))) (word : Bor (List ℕ)) → position_or_len (λ k. bytes_eq word.now k.now) keys ≡ index_of (with_word (map (λ k. k.now) keys) word.now) word.now
place_with keys word = place_spelled word.now keys ∙ sym (put_place (map (λ k. k.now) keys) word.now)

-- a word that a table has stands where it is said to stand
pub place_small : (table : List (List ℕ)) (word : List ℕ) → Has table word → index_of table word < length table
place_small [] word h = absurd (cc)
place_small (x ∷ table) word h = elim (cases_Bool (bytes_eq word x)) [
  | inl t ↦ rw t (omega arith)
  | inr f ↦ let behind = place_small table word (rw f at h) in rw f (omega arith)
]

pub word_at : (table : List (List ℕ)) (word : List ℕ) → Has table word → slice_get table (index_of table word) ≡ Some word
word_at table word h =
    let inside = place_small table word h in
    slice_get-get_or table (index_of table word) [] inside ∙ ap Some (sym (same_word word _ (passes_at_first (bytes_eq word) table [] inside)))

-- and stays there
pub place_stays : (table more : List (List ℕ)) (word : List ℕ) → Has table word → index_of (table ++ more) word ≡ index_of table word
place_stays table more word h =
    let inside = place_small table word h in
    rw (prefix_len-append (λ x. not (bytes_eq word x)) table more, ne_eqb (index_of table word) (length table) (λ e. absurd (omega arith))) refl

has_last : (table : List (List ℕ)) (word : List ℕ) → Has (table ++ word ∷ []) word
has_last table word = rw (list_any-append (bytes_eq word) table (word ∷ []), bytes_eq_same word) (or-true (list_any (bytes_eq word) table))

with_by : (b : Bool) (table : List (List ℕ)) (word : List ℕ) → list_any (bytes_eq word) table ≡ b → Has (if b then table else table ++ word ∷ []) word
with_by true table word e = e
with_by false table word e = has_last table word

pub has_with : (table : List (List ℕ)) (word : List ℕ) → Has (with_word table word) word
has_with table word = with_by (list_any (bytes_eq word) table) table word refl

more_by : (b : Bool) (table : List (List ℕ)) (word : List ℕ) → (more : List (List ℕ)) × ((if b then table else table ++ word ∷ []) ≡ table ++ more)
more_by true table word = ([], sym (append-nil table))
more_by false table word = (word ∷ [], refl)

-- a table only grows behind
pub grown_more : (table words : List (List ℕ)) → (more : List (List ℕ)) × (grown table words ≡ table ++ more)
grown_more table [] = ([], sym (append-nil table))
grown_more table (word ∷ words) =
    let first = more_by (list_any (bytes_eq word) table) table word in
    let rest = grown_more (with_word table word) words in
    (first.0 ++ rest.0, rest.1 ∙ ap (λ l. l ++ rest.0) first.1 ∙ append_assoc table first.0 rest.0)

pub place_grown : (table words : List (List ℕ)) (word : List ℕ) → Has table word → index_of (grown table words) word ≡ index_of table word
place_grown table words word h =
    let more = grown_more table words in
    rw more.1 (place_stays table more.0 word h)

-- where the words of a tag stand in the end, which are put in one after the other
pub key_place : (table words : List (List ℕ)) (key value : List ℕ) → index_of (grown table (key ∷ value ∷ words)) key ≡ index_of (with_word table key) key
key_place table words key value = place_grown (with_word table key) (value ∷ words) key (has_with table key)

pub value_place : (table words : List (List ℕ)) (key value : List ℕ) → index_of (grown table (key ∷ value ∷ words)) value ≡ index_of (with_word (with_word table key) value) value
value_place table words key value = place_grown (with_word (with_word table key) value) words value (has_with (with_word table key) value)

turned : (v w : List ℕ) → bytes_eq v w ≡ false → bytes_eq w v ≡ false
turned v w apart = false_from_ne_true (bytes_eq w v) (λ t. absurd (let same : w ≡ v = same_word w v t in let other : bytes_eq v w ≡ true = rw same (bytes_eq_same v) in cc))

-- words apart from one, among others
any_rest : (u w : List ℕ) (l : List (List ℕ)) → bytes_eq u w ≡ false → list_any (bytes_eq u) (filter (λ y. not (bytes_eq w y)) l) ≡ list_any (bytes_eq u) l
any_rest u w l apart = any-filter_same (bytes_eq u) (λ y. not (bytes_eq w y)) true (λ y same. rw (← same_word u y same) (rw (turned u w apart) refl)) l

firsts_by : (b c : Bool) (x w : List ℕ) (l : List (List ℕ)) → bytes_eq w x ≡ b → list_any (bytes_eq w) l ≡ c →
    x ∷ filter (λ y. not (bytes_eq x y)) (if c then l else l ++ w ∷ []) ≡ with_word (x ∷ filter (λ y. not (bytes_eq x y)) l) w
firsts_by true true x w l e f = rw e refl
firsts_by true false x w l e f =
    let same : w ≡ x = same_word w x e in
    let again : bytes_eq x w ≡ true = rw same (bytes_eq_same x) in
    rw (e, filter-append (λ y. not (bytes_eq x y)) l (w ∷ []), again, append-nil (filter (λ y. not (bytes_eq x y)) l)) refl
firsts_by false true x w l e f = rw (e, any_rest w x l e, f) refl
firsts_by false false x w l e f = rw (e, any_rest w x l e, f, filter-append (λ y. not (bytes_eq x y)) l (w ∷ []), turned w x e) refl

-- one word more
pub firsts_push : (words : List (List ℕ)) (w : List ℕ) → firsts (words ++ w ∷ []) ≡ with_word (firsts words) w
firsts_push [] w = refl
firsts_push (x ∷ words) w = rw (firsts_push words w) (firsts_by (bytes_eq w x) (list_any (bytes_eq w) (firsts words)) x w (firsts words) refl refl)

pub firsts_grown : (words more : List (List ℕ)) → firsts (words ++ more) ≡ grown (firsts words) more
firsts_grown words [] = ap firsts (append-nil words)
firsts_grown words (w ∷ more) = ap firsts (sym (append_assoc words (w ∷ []) more)) ∙ firsts_grown (words ++ w ∷ []) more ∙ ap (λ t. grown t more) (firsts_push words w)

has_front : (b : Bool) (u w : List ℕ) (l : List (List ℕ)) → bytes_eq u w ≡ b → Has l u → Has (w ∷ filter (λ y. not (bytes_eq w y)) l) u
has_front true u w l e h = rw e refl
has_front false u w l e h = rw (e, any_rest u w l e) h

-- the first uses have all words
pub firsts_has : (words : List (List ℕ)) → All (Has (firsts words)) words
firsts_has [] = All-nil (Has [])
firsts_has (w ∷ words) = All-cons (Has (firsts (w ∷ words))) w words (rw (bytes_eq_same w) refl) (All-weaker (Has (firsts words)) (Has (firsts (w ∷ words))) (λ u h. has_front (bytes_eq u w) u w (firsts words) refl h) words (firsts_has words))

pub all_words_push : (ways : List OsmWay) (way : OsmWay) → all_words (ways ++ way ∷ []) ≡ all_words ways ++ words_of way.tags
all_words_push [] way = append-nil (words_of way.tags)
all_words_push (first ∷ ways) way = ap (λ l. words_of first.tags ++ l) (all_words_push ways way) ∙ sym (append_assoc (words_of first.tags) (all_words ways) (words_of way.tags))

-- the table of one way more
pub table_push : (ways : List OsmWay) (way : OsmWay) → table_of (ways ++ way ∷ []) ≡ grown (table_of ways) (words_of way.tags)
unfolding table_of
table_push ways way = ap (λ l. firsts ([] ∷ l)) (all_words_push ways way) ∙ firsts_grown ([] ∷ all_words ways) (words_of way.tags)

pub strings_append : (table more : List (List ℕ)) → strings_text (table ++ more) ≡ strings_text table ++ strings_text more
strings_append [] more = refl
strings_append (word ∷ table) more = ap (λ l. bytes_field 1 word ++ l) (strings_append table more) ∙ sym (append_assoc (bytes_field 1 word) (strings_text table) (strings_text more))

new_by : (t : Bool) (table : List (List ℕ)) (word : List ℕ) → true ≡ not t → strings_text (if t then table else table ++ word ∷ []) ≡ strings_text table ++ bytes_field 1 word
new_by true table word e = absurd (cc)
new_by false table word e = strings_append table (word ∷ []) ∙ ap (λ l. strings_text table ++ l) (append-nil (bytes_field 1 word))

-- what `insert_full` leaves
abbrev pub inserted : List (Bor (List ℕ)) → Bor (List ℕ) → List (Bor (List ℕ))
inserted keys word = if list_any (λ k. bytes_eq word.now k.now) keys then keys else keys ++ word ∷ []

pub spelled_after : (keys new : List (Bor (List ℕ))) (word : Bor (List ℕ)) → new ≡ inserted keys word → map (λ k. k.now) new ≡ with_word (map (λ k. k.now) keys) word.now
spelled_after keys new word e = ap (λ ks. map (λ k. k.now) ks) e ∙ spelled_with keys word

pub place_after : (keys new : List (Bor (List ℕ))) (word : Bor (List ℕ)) (place : ℕ) → new ≡ inserted keys word → place ≡ position_or_len (λ k. bytes_eq word.now k.now) keys → place ≡ index_of (map (λ k. k.now) new) word.now
place_after keys new word place e is = is ∙ place_with keys word ∙ ap (λ t. index_of t word.now) (sym (spelled_after keys new word e))

pub text_after : (keys new : List (Bor (List ℕ))) (word : Bor (List ℕ)) (is_new : Bool) (old bytes now : List ℕ) → new ≡ inserted keys word → is_new ≡ not (list_any (λ k. bytes_eq word.now k.now) keys) → is_new ≡ true → bytes ≡ word.now → now ≡ old ++ bytes_field 1 bytes → old ≡ strings_text (map (λ k. k.now) keys) → now ≡ strings_text (map (λ k. k.now) new)
text_after keys new word is_new old bytes now e is fresh same put text =
    let new_word : true ≡ not (list_any (bytes_eq word.now) (map (λ k. k.now) keys)) = sym fresh ∙ is ∙ ap not (any_spelled word.now keys) in
    let more : strings_text (with_word (map (λ k. k.now) keys) word.now) ≡ strings_text (map (λ k. k.now) keys) ++ bytes_field 1 word.now = new_by (list_any (bytes_eq word.now) (map (λ k. k.now) keys)) (map (λ k. k.now) keys) word.now new_word in
    put ∙ ap (λ l. l ++ bytes_field 1 bytes) text ∙ ap (λ b. strings_text (map (λ k. k.now) keys) ++ bytes_field 1 b) same ∙ sym more ∙ ap strings_text (sym (spelled_after keys new word e))
