-- The words of a node, one by one, and that neighbours may change places.
use Rattle.std.proofs.Common.{◌≡◌, ◌∙◌, ℕ, ◌+◌, ℤ, List, [], ◌∷◌, ◌++◌, length, Bool, true, false, eqb, Option, Some, None, Result, Ok, Err, IsTrue, refl, ap, sym, arith}
use Rattle.std.specs.Prelude.{if◌then◌else◌}
use Rattle.std.proofs.lemmas.Bool.Decides.{nat_tests}
use Rattle.gh_base.specs.declared.kinds.PlainKind.{PlainKind}
use Rattle.gh_base.specs.declared.kinds.PlainKind.TheVariants.{Field}
use Rattle.gh_base.specs.declared.map.OsmTag.{OsmTag}
use Rattle.gh_base.specs.Places.{most_lat, most_lon}
use Rattle.plain_map.specs.declared.fields.NodeSoFar.{NodeSoFar}
use Rattle.plain_map.specs.Escapes.{◌>>=◌}
use Rattle.plain_map.specs.Fields.{behind, lat_with, lon_with, node_tags_with, coordinate_at, tags_at, is_skipped, node_with}
use Rattle.plain_map.specs.Lines.{at_byte, node_words}

-- what a word says, wherever it stands
data Word : Type 0 where
  lat : ℤ → Word
  lon : ℤ → Word
  tags : Word
  skipped : Word
  wrong : Word

abbrev state : Option ℤ → Option ℤ → Bool → NodeSoFar
state y x tagged = record { lat = y; lon = x; tagged = tagged }

abbrev does_by : Word → Option ℤ → Option ℤ → Bool → Option NodeSoFar
does_by (lat z) None x tagged = Some (state (Some z) x tagged)
does_by (lat z) (Some y) x tagged = None
does_by (lon z) y None tagged = Some (state y (Some z) tagged)
does_by (lon z) y (Some x) tagged = None
does_by tags y x false = Some (state y x true)
does_by tags y x true = None
does_by skipped y x tagged = Some (state y x tagged)
does_by wrong y x tagged = None

abbrev does : Word → NodeSoFar → Option NodeSoFar
does word s = does_by word s.lat s.lon s.tagged

abbrev bind : Option NodeSoFar → (NodeSoFar → Option NodeSoFar) → Option NodeSoFar
bind None f = None
bind (Some s) f = f s

abbrev value : {K : Type 0} → Result NodeSoFar K → Option NodeSoFar
value (Ok s) = Some s
value (Err kind) = None

abbrev lat_word : Result ℤ PlainKind → Word
lat_word (Ok z) = lat z
lat_word (Err kind) = wrong

abbrev lon_word : Result ℤ PlainKind → Word
lon_word (Ok z) = lon z
lon_word (Err kind) = wrong

abbrev tags_word : Result (List OsmTag) PlainKind → Word
tags_word (Ok ts) = tags
tags_word (Err kind) = wrong

abbrev word_by : Option (List ℕ) → Option (List ℕ) → Option (List ℕ) → Bool → Word
word_by (Some bytes) x t skips = lat_word (coordinate_at most_lat bytes)
word_by None (Some bytes) t skips = lon_word (coordinate_at most_lon bytes)
word_by None None (Some bytes) skips = tags_word (tags_at bytes)
word_by None None None true = skipped
word_by None None None false = wrong

abbrev word_of : List ℕ → Word
word_of word = word_by (behind 121 word) (behind 120 word) (behind 84 word) (is_skipped word)

-- ---- neighbours

bind_none : (o : Option NodeSoFar) → bind o (λ s. None) ≡ None
bind_none None = refl
bind_none (Some s) = refl

bind_id : (o : Option NodeSoFar) → bind o (λ s. Some s) ≡ o
bind_id None = refl
bind_id (Some s) = refl

commute : (a b : Word) (y x : Option ℤ) (tagged : Bool) → bind (does_by a y x tagged) (does b) ≡ bind (does_by b y x tagged) (does a)
commute (lat z) (lat w) None x tagged = refl
commute (lat z) (lat w) (Some v) x tagged = refl
commute (lat z) (lon w) None None tagged = refl
commute (lat z) (lon w) None (Some u) tagged = refl
commute (lat z) (lon w) (Some v) None tagged = refl
commute (lat z) (lon w) (Some v) (Some u) tagged = refl
commute (lat z) tags None x false = refl
commute (lat z) tags None x true = refl
commute (lat z) tags (Some v) x false = refl
commute (lat z) tags (Some v) x true = refl
commute (lon z) (lat w) None None tagged = refl
commute (lon z) (lat w) None (Some u) tagged = refl
commute (lon z) (lat w) (Some v) None tagged = refl
commute (lon z) (lat w) (Some v) (Some u) tagged = refl
commute (lon z) (lon w) y None tagged = refl
commute (lon z) (lon w) y (Some u) tagged = refl
commute (lon z) tags y None false = refl
commute (lon z) tags y None true = refl
commute (lon z) tags y (Some u) false = refl
commute (lon z) tags y (Some u) true = refl
commute tags (lat w) None x false = refl
commute tags (lat w) None x true = refl
commute tags (lat w) (Some v) x false = refl
commute tags (lat w) (Some v) x true = refl
commute tags (lon w) y None false = refl
commute tags (lon w) y None true = refl
commute tags (lon w) y (Some u) false = refl
commute tags (lon w) y (Some u) true = refl
commute tags tags y x false = refl
commute tags tags y x true = refl
commute wrong (lat z) y x tagged = sym (bind_none (does_by (lat z) y x tagged))
commute skipped (lat z) y x tagged = sym (bind_id (does_by (lat z) y x tagged))
commute wrong (lon z) y x tagged = sym (bind_none (does_by (lon z) y x tagged))
commute skipped (lon z) y x tagged = sym (bind_id (does_by (lon z) y x tagged))
commute wrong tags y x tagged = sym (bind_none (does_by tags y x tagged))
commute skipped tags y x tagged = sym (bind_id (does_by tags y x tagged))
commute wrong skipped y x tagged = sym (bind_none (does_by skipped y x tagged))
commute skipped skipped y x tagged = sym (bind_id (does_by skipped y x tagged))
commute wrong wrong y x tagged = sym (bind_none (does_by wrong y x tagged))
commute skipped wrong y x tagged = sym (bind_id (does_by wrong y x tagged))
commute (lat z) wrong y x tagged = bind_none (does_by (lat z) y x tagged)
commute (lat z) skipped y x tagged = bind_id (does_by (lat z) y x tagged)
commute (lon z) wrong y x tagged = bind_none (does_by (lon z) y x tagged)
commute (lon z) skipped y x tagged = bind_id (does_by (lon z) y x tagged)
commute tags wrong y x tagged = bind_none (does_by tags y x tagged)
commute tags skipped y x tagged = bind_id (does_by tags y x tagged)

-- ---- each word

lat_does : (r : Result ℤ PlainKind) (y x : Option ℤ) (tagged : Bool) (bytes : List ℕ) (other : Result NodeSoFar PlainKind) → coordinate_at most_lat bytes ≡ r → value (lat_with (state y x tagged) (Some bytes) other) ≡ does_by (lat_word r) y x tagged
lat_does (Ok z) None x tagged bytes other e = rw e refl
lat_does (Ok z) (Some y) x tagged bytes other e = refl
lat_does (Err k) None x tagged bytes other e = rw e refl
lat_does (Err k) (Some y) x tagged bytes other e = refl

lon_does : (r : Result ℤ PlainKind) (y x : Option ℤ) (tagged : Bool) (bytes : List ℕ) (other : Result NodeSoFar PlainKind) → coordinate_at most_lon bytes ≡ r → value (lon_with (state y x tagged) (Some bytes) other) ≡ does_by (lon_word r) y x tagged
lon_does (Ok z) y None tagged bytes other e = rw e refl
lon_does (Ok z) y (Some x) tagged bytes other e = refl
lon_does (Err k) y None tagged bytes other e = rw e refl
lon_does (Err k) y (Some x) tagged bytes other e = refl

tags_does : (r : Result (List OsmTag) PlainKind) (y x : Option ℤ) (tagged : Bool) (bytes : List ℕ) (other : Result NodeSoFar PlainKind) → tags_at bytes ≡ r → value (node_tags_with (state y x tagged) (Some bytes) other) ≡ does_by (tags_word r) y x tagged
tags_does (Ok ts) y x false bytes other e = rw e refl
tags_does (Ok ts) y x true bytes other e = refl
tags_does (Err k) y x false bytes other e = rw e refl
tags_does (Err k) y x true bytes other e = refl

does_so : (b c d : Option (List ℕ)) (skips : Bool) (s : NodeSoFar) → value (lat_with s b (lon_with s c (node_tags_with s d (if skips then Ok s else Err Field)))) ≡ does (word_by b c d skips) s
does_so (Some bytes) c d skips s = lat_does (coordinate_at most_lat bytes) s.lat s.lon s.tagged bytes (lon_with s c (node_tags_with s d (if skips then Ok s else Err Field))) refl
does_so None (Some bytes) d skips s = lon_does (coordinate_at most_lon bytes) s.lat s.lon s.tagged bytes (node_tags_with s d (if skips then Ok s else Err Field)) refl
does_so None None (Some bytes) skips s = tags_does (tags_at bytes) s.lat s.lon s.tagged bytes (if skips then Ok s else Err Field) refl
does_so None None None true s = refl
does_so None None None false s = refl

word_does : (s : NodeSoFar) (word : List ℕ) → value (node_with s word) ≡ does (word_of word) s
unfolding node_with
word_does s word = does_so (behind 121 word) (behind 120 word) (behind 84 word) (is_skipped word) s

-- ---- all words

abbrev all_do : List (List ℕ) → NodeSoFar → Option NodeSoFar
all_do [] s = Some s
all_do (word ∷ words) s = bind (does (word_of word) s) (all_do words)

go_on : (r : Result NodeSoFar PlainKind) (o : Option NodeSoFar) (at next : ℕ) (words : List (List ℕ)) → value r ≡ o → ((t : NodeSoFar) → value (node_words t next words) ≡ all_do words t) →
    value (at_byte at r >>= λ t. node_words t next words) ≡ bind o (all_do words)
go_on (Ok t) o at next words e f = rw (← e) (f t)
go_on (Err k) o at next words e f = rw (← e) refl

all_words : (words : List (List ℕ)) (byte : ℕ) (s : NodeSoFar) → value (node_words s byte words) ≡ all_do words s
all_words [] byte s = refl
all_words (word ∷ words) byte s = go_on (node_with s word) (does (word_of word) s) byte (byte + length word + 1) words (word_does s word) (λ t. all_words words (byte + length word + 1) t)

under : (o : Option NodeSoFar) (f g : NodeSoFar → Option NodeSoFar) → ((s : NodeSoFar) → f s ≡ g s) → bind o f ≡ bind o g
under None f g h = refl
under (Some s) f g h = h s

bind_bind : (o : Option NodeSoFar) (f g : NodeSoFar → Option NodeSoFar) → bind o (λ s. bind (f s) g) ≡ bind (bind o f) g
bind_bind None f g = refl
bind_bind (Some s) f g = refl

swap_first : (one two : List ℕ) (back : List (List ℕ)) (s : NodeSoFar) → all_do (one ∷ two ∷ back) s ≡ all_do (two ∷ one ∷ back) s
swap_first one two back s =
    bind_bind (does (word_of one) s) (does (word_of two)) (all_do back)
    ∙ (ap (λ (o : Option NodeSoFar). bind o (all_do back)) (commute (word_of one) (word_of two) s.lat s.lon s.tagged) ∙ sym (bind_bind (does (word_of two) s) (does (word_of one)) (all_do back)))

swapped : (front : List (List ℕ)) (one two : List ℕ) (back : List (List ℕ)) (s : NodeSoFar) → all_do (front ++ one ∷ two ∷ back) s ≡ all_do (front ++ two ∷ one ∷ back) s
swapped [] one two back s = swap_first one two back s
swapped (word ∷ front) one two back s = under (does (word_of word) s) (all_do (front ++ one ∷ two ∷ back)) (all_do (front ++ two ∷ one ∷ back)) (swapped front one two back)

is_ok : {K : Type 0} (r : Result NodeSoFar K) (t : NodeSoFar) → value r ≡ Some t → r ≡ Ok t
is_ok (Ok s) t e = cc
is_ok (Err k) t e = cc

pub node_words_swapped : (s t : NodeSoFar) (byte : ℕ) (front : List (List ℕ)) (one two : List ℕ) (back : List (List ℕ)) → node_words s byte (front ++ one ∷ two ∷ back) ≡ Ok t → node_words s byte (front ++ two ∷ one ∷ back) ≡ Ok t
node_words_swapped s t byte front one two back e =
    is_ok (node_words s byte (front ++ two ∷ one ∷ back)) t
    (all_words (front ++ two ∷ one ∷ back) byte s ∙ (sym (swapped front one two back s) ∙ (sym (all_words (front ++ one ∷ two ∷ back) byte s) ∙ ap (λ r. value r) e)))

-- ---- words that are skipped

skips_letters : (word : List ℕ) → is_skipped word ≡ true → word_of word ≡ skipped
skips_letters [] h = cc
skips_letters (b ∷ bytes) h =
    let y : eqb b 121 ≡ false = grind (arith, nat_tests) in
    let x : eqb b 120 ≡ false = grind (arith, nat_tests) in
    let t : eqb b 84 ≡ false = grind (arith, nat_tests) in
    rw (y, x, t, h) refl

without : (front : List (List ℕ)) (word : List ℕ) (back : List (List ℕ)) (s : NodeSoFar) → is_skipped word ≡ true → all_do (front ++ word ∷ back) s ≡ all_do (front ++ back) s
without [] word back s h = rw (skips_letters word h) refl
without (other ∷ front) word back s h = under (does (word_of other) s) (all_do (front ++ word ∷ back)) (all_do (front ++ back)) (λ t. without front word back t h)

pub node_words_skipped : (s t : NodeSoFar) (byte : ℕ) (front : List (List ℕ)) (word : List ℕ) (back : List (List ℕ)) → IsTrue (is_skipped word) → node_words s byte (front ++ back) ≡ Ok t → node_words s byte (front ++ word ∷ back) ≡ Ok t
node_words_skipped s t byte front word back h e =
    is_ok (node_words s byte (front ++ word ∷ back)) t
    (all_words (front ++ word ∷ back) byte s ∙ (without front word back s h ∙ (sym (all_words (front ++ back) byte s) ∙ ap (λ r. value r) e)))
