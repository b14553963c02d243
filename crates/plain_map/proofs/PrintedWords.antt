-- Printed tags and references are read again.
use Rattle.std.proofs.Common.{◌≡◌, ◌≢◌, ◌∙◌, ℕ, suc, ℤ, ◌<◌, List, [], ◌∷◌, ◌++◌, map, length, length-append, true, false, eqb, Ok, codes, refl, ap, arith, append-nil}
use Rattle.std.specs.Prelude.{All}
use Rattle.std.specs.List.{list_all}
use Rattle.std.proofs.lemmas.Bool.Decides.{nat_tests}
use Rattle.gh_base.specs.declared.map.OsmTag.{OsmTag}
use Rattle.gh_base.specs.Parts.{parts_of}
use Rattle.plain_map.specs.Fields.{tag_at, tags_of, tags_at, is_pair, refs_of, refs_at}
use Rattle.gh_base.specs.Maps.{IsShort}
use Rattle.plain_map.specs.Printing.{escaped, tag_text, ref_text, listed}
use Rattle.plain_map.proofs.Splits.{Each, each_append, each_more, IsClean, no_comma, no_equals, cut_at, cut_end}
use Rattle.plain_map.proofs.PrintedNumbers.{id_again}
use Rattle.plain_map.proofs.PrintedTexts.{text_again, escaped_clean}
use Rattle.plain_map.proofs.PrintedBytes.{clean_number, id_bytes}

abbrev pub AllItems : {X : Type 0} → (X → Type 0) → List X → Type 0
AllItems P [] = Unit {0}
AllItems P (x ∷ xs) = P x × AllItems P xs

pub all_items : {X : Type 0} (P : X → Type 0) (xs : List X) → All P xs → AllItems P xs
all_items P [] h = tt
all_items P (x ∷ xs) h = (h 0 x (omega arith), all_items P xs (λ k d lt. h (suc k) d (omega arith)))

-- neither a newline, a space nor a comma
pub record IsInWord (b : ℕ) : Type 0 where
  pub above : 32 < b
  pub comma : b ≢ 44

in_word : (b : ℕ) → IsClean b → IsInWord b
in_word b h = record { above = h.above; comma = h.comma }

pub tag_bytes : (tag : OsmTag) → Each IsInWord (tag_text tag)
tag_bytes tag = each_append IsInWord (escaped tag.key) (61 ∷ escaped tag.value) (each_more IsClean IsInWord in_word (escaped tag.key) (escaped_clean tag.key)) (record { above = omega arith; comma = λ e. omega arith }, each_more IsClean IsInWord in_word (escaped tag.value) (escaped_clean tag.value))

pub ref_bytes : (id : ℤ) → IsShort id → Each IsInWord (ref_text id)
ref_bytes id h = (record { above = omega arith; comma = λ e. omega arith }, each_more _ IsInWord (λ b k. in_word b (clean_number b k)) _ (id_bytes id h))

tag_parts : (tag : OsmTag) → parts_of 61 (tag_text tag) ≡ escaped tag.key ∷ escaped tag.value ∷ []
tag_parts tag = cut_at 61 (escaped tag.key) (escaped tag.value) (no_equals (escaped tag.key) (escaped_clean tag.key)) ∙ ap (λ l. escaped tag.key ∷ l) (cut_end 61 (escaped tag.value) (no_equals (escaped tag.value) (escaped_clean tag.value)))

tag_again : (tag : OsmTag) → tag_at (tag_text tag) ≡ Ok tag
unfolding tag_at
tag_again tag = rw (tag_parts tag, text_again tag.key, text_again tag.value) refl

tag_pair : (tag : OsmTag) → is_pair (tag_text tag) ≡ true
tag_pair tag = rw (tag_parts tag) refl

pairs_again : (tags : List OsmTag) → list_all is_pair (map tag_text tags) ≡ true
pairs_again [] = refl
pairs_again (tag ∷ tags) = rw (tag_pair tag, pairs_again tags) refl

each_again : (tags : List OsmTag) → tags_of (map tag_text tags) ≡ Ok tags
each_again [] = refl
each_again (tag ∷ tags) = rw (tag_again tag, each_again tags) refl

listed_parts : {X : Type 0} (text : X → List ℕ) (P : X → Type 0) → ((x : X) → P x → Each IsInWord (text x)) → (x : X) (xs : List X) → P x → AllItems P xs → parts_of 44 (text x ++ listed (codes ",") (map text xs)) ≡ text x ∷ map text xs
listed_parts text P f x [] p h = rw (append-nil (text x)) (cut_end 44 (text x) (no_comma (text x) (each_more IsInWord _ (λ b k. k.comma) (text x) (f x p))))
listed_parts text P f x (y ∷ ys) p h = cut_at 44 (text x) (text y ++ listed (codes ",") (map text ys)) (no_comma (text x) (each_more IsInWord _ (λ b k. k.comma) (text x) (f x p))) ∙ ap (λ l. text x ∷ l) (listed_parts text P f y ys h.0 h.1)

some_bytes : (a b : List ℕ) → 0 < length a → eqb (length (a ++ b)) 0 ≡ false
some_bytes a b h = let k : 0 < length (a ++ b) = omega (arith, length-append a b) in grind (arith, nat_tests)

any_items : {X : Type 0} (xs : List X) → AllItems (λ x. Unit {0}) xs
any_items [] = tt
any_items (x ∷ xs) = (tt, any_items xs)

pub tags_again : (tag : OsmTag) (tags : List OsmTag) → tags_at (tag_text tag ++ listed (codes ",") (map tag_text tags)) ≡ Ok (tag ∷ tags)
unfolding tags_at
tags_again tag tags =
    let some : 0 < length (tag_text tag) = omega (arith, length-append (escaped tag.key) (61 ∷ escaped tag.value)) in
    rw (some_bytes (tag_text tag) (listed (codes ",") (map tag_text tags)) some, listed_parts tag_text (λ x. Unit {0}) (λ x h. tag_bytes x) tag tags tt (any_items tags), pairs_again (tag ∷ tags)) (each_again (tag ∷ tags))

refs_each : (ids : List ℤ) → AllItems IsShort ids → refs_of (map ref_text ids) ≡ Ok ids
refs_each [] h = refl
refs_each (id ∷ ids) h = rw (id_again id h.0, refs_each ids h.1) refl

pub refs_again : (id : ℤ) (ids : List ℤ) → IsShort id → AllItems IsShort ids → refs_at (ref_text id ++ listed (codes ",") (map ref_text ids)) ≡ Ok (id ∷ ids)
unfolding refs_at
refs_again id ids p h =
    let some : 0 < length (ref_text id) = omega arith in
    rw (some_bytes (ref_text id) (listed (codes ",") (map ref_text ids)) some, listed_parts ref_text IsShort ref_bytes id ids p h) (refs_each (id ∷ ids) (p, h))
