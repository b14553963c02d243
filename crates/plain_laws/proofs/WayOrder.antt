-- The words of a way, one by one, and that neighbours may change places.
use Rattle.std.proofs.Common.{◌≡◌, ◌∙◌, ℕ, ◌+◌, ℤ, List, [], ◌∷◌, ◌++◌, length, Bool, true, false, eqb, Option, Some, None, Result, Ok, Err, IsTrue, refl, ap, sym, arith}
use Rattle.std.specs.Prelude.{if◌then◌else◌}
use Rattle.std.proofs.lemmas.Bool.Decides.{nat_tests}
use Rattle.gh_base.specs.declared.kinds.PlainKind.{PlainKind}
use Rattle.gh_base.specs.declared.kinds.PlainKind.TheVariants.{Field}
use Rattle.gh_base.specs.declared.map.OsmTag.{OsmTag}
use Rattle.plain_map.specs.declared.fields.WaySoFar.{WaySoFar}
use Rattle.plain_map.specs.Escapes.{◌>>=◌}
use Rattle.plain_map.specs.Fields.{behind, tags_with, refs_with, tags_at, refs_at, is_skipped, way_with}
use Rattle.plain_map.specs.Lines.{at_byte, way_words}

-- what a word says, wherever it stands
data Word : Type 0 where
  tags : List OsmTag → Word
  refs : List ℤ → Word
  skipped : Word
  wrong : Word

abbrev state : Option (List OsmTag) → Option (List ℤ) → WaySoFar
state t n = record { tags = t; refs = n }

abbrev does_by : Word → Option (List OsmTag) → Option (List ℤ) → Option WaySoFar
does_by (tags z) None n = Some (state (Some z) n)
does_by (tags z) (Some t) n = None
does_by (refs z) t None = Some (state t (Some z))
does_by (refs z) t (Some n) = None
does_by skipped t n = Some (state t n)
does_by wrong t n = None

abbrev does : Word → WaySoFar → Option WaySoFar
does word s = does_by word s.tags s.refs

abbrev bind : Option WaySoFar → (WaySoFar → Option WaySoFar) → Option WaySoFar
bind None f = None
bind (Some s) f = f s

abbrev value : {K : Type 0} → Result WaySoFar K → Option WaySoFar
value (Ok s) = Some s
value (Err kind) = None

abbrev tags_word : Result (List OsmTag) PlainKind → Word
tags_word (Ok ts) = tags ts
tags_word (Err kind) = wrong

abbrev refs_word : Result (List ℤ) PlainKind → Word
refs_word (Ok ids) = refs ids
refs_word (Err kind) = wrong

abbrev word_by : Option (List ℕ) → Option (List ℕ) → Bool → Word
word_by (Some bytes) n skips = tags_word (tags_at bytes)
word_by None (Some bytes) skips = refs_word (refs_at bytes)
word_by None None true = skipped
word_by None None false = wrong

abbrev word_of : List ℕ → Word
word_of word = word_by (behind 84 word) (behind 78 word) (is_skipped word)

-- ---- neighbours

bind_none : (o : Option WaySoFar) → bind o (λ s. None) ≡ None
bind_none None = refl
bind_none (Some s) = refl

bind_id : (o : Option WaySoFar) → bind o (λ s. Some s) ≡ o
bind_id None = refl
bind_id (Some s) = refl

commute : (a b : Word) (t : Option (List OsmTag)) (n : Option (List ℤ)) → bind (does_by a t n) (does b) ≡ bind (does_by b t n) (does a)
commute (tags z) (tags w) None n = refl
commute (tags z) (tags w) (Some v) n = refl
commute (tags z) (refs w) None None = refl
commute (tags z) (refs w) None (Some u) = refl
commute (tags z) (refs w) (Some v) None = refl
commute (tags z) (refs w) (Some v) (Some u) = refl
commute (refs z) (tags w) None None = refl
commute (refs z) (tags w) None (Some u) = refl
commute (refs z) (tags w) (Some v) None = refl
commute (refs z) (tags w) (Some v) (Some u) = refl
commute (refs z) (refs w) t None = refl
commute (refs z) (refs w) t (Some u) = refl
commute wrong (tags z) t n = sym (bind_none (does_by (tags z) t n))
commute skipped (tags z) t n = sym (bind_id (does_by (tags z) t n))
commute wrong (refs z) t n = sym (bind_none (does_by (refs z) t n))
commute skipped (refs z) t n = sym (bind_id (does_by (refs z) t n))
commute wrong skipped t n = sym (bind_none (does_by skipped t n))
commute skipped skipped t n = sym (bind_id (does_by skipped t n))
commute wrong wrong t n = sym (bind_none (does_by wrong t n))
commute skipped wrong t n = sym (bind_id (does_by wrong t n))
commute (tags z) wrong t n = bind_none (does_by (tags z) t n)
commute (tags z) skipped t n = bind_id (does_by (tags z) t n)
commute (refs z) wrong t n = bind_none (does_by (refs z) t n)
commute (refs z) skipped t n = bind_id (does_by (refs z) t n)

-- ---- each word

tags_does : (r : Result (List OsmTag) PlainKind) (t : Option (List OsmTag)) (n : Option (List ℤ)) (bytes : List ℕ) (other : Result WaySoFar PlainKind) → tags_at bytes ≡ r → value (tags_with (state t n) (Some bytes) other) ≡ does_by (tags_word r) t n
tags_does (Ok z) None n bytes other e = rw e refl
tags_does (Ok z) (Some t) n bytes other e = refl
tags_does (Err k) None n bytes other e = rw e refl
tags_does (Err k) (Some t) n bytes other e = refl

refs_does : (r : Result (List ℤ) PlainKind) (t : Option (List OsmTag)) (n : Option (List ℤ)) (bytes : List ℕ) (other : Result WaySoFar PlainKind) → refs_at bytes ≡ r → value (refs_with (state t n) (Some bytes) other) ≡ does_by (refs_word r) t n
refs_does (Ok z) t None bytes other e = rw e refl
refs_does (Ok z) t (Some n) bytes other e = refl
refs_does (Err k) t None bytes other e = rw e refl
refs_does (Err k) t (Some n) bytes other e = refl

does_so : (b c : Option (List ℕ)) (skips : Bool) (s : WaySoFar) → value (tags_with s b (refs_with s c (if skips then Ok s else Err Field))) ≡ does (word_by b c skips) s
does_so (Some bytes) c skips s = tags_does (tags_at bytes) s.tags s.refs bytes (refs_with s c (if skips then Ok s else Err Field)) refl
does_so None (Some bytes) skips s = refs_does (refs_at bytes) s.tags s.refs bytes (if skips then Ok s else Err Field) refl
does_so None None true s = refl
does_so None None false s = refl

word_does : (s : WaySoFar) (word : List ℕ) → value (way_with s word) ≡ does (word_of word) s
unfolding way_with
word_does s word = does_so (behind 84 word) (behind 78 word) (is_skipped word) s

-- ---- all words

abbrev all_do : List (List ℕ) → WaySoFar → Option WaySoFar
all_do [] s = Some s
all_do (word ∷ words) s = bind (does (word_of word) s) (all_do words)

go_on : (r : Result WaySoFar PlainKind) (o : Option WaySoFar) (at next : ℕ) (words : List (List ℕ)) → value r ≡ o → ((t : WaySoFar) → value (way_words t next words) ≡ all_do words t) →
    value (at_byte at r >>= λ t. way_words t next words) ≡ bind o (all_do words)
go_on (Ok t) o at next words e f = rw (← e) (f t)
go_on (Err k) o at next words e f = rw (← e) refl

all_words : (words : List (List ℕ)) (byte : ℕ) (s : WaySoFar) → value (way_words s byte words) ≡ all_do words s
all_words [] byte s = refl
all_words (word ∷ words) byte s = go_on (way_with s word) (does (word_of word) s) byte (byte + length word + 1) words (word_does s word) (λ t. all_words words (byte + length word + 1) t)

under : (o : Option WaySoFar) (f g : WaySoFar → Option WaySoFar) → ((s : WaySoFar) → f s ≡ g s) → bind o f ≡ bind o g
under None f g h = refl
under (Some s) f g h = h s

bind_bind : (o : Option WaySoFar) (f g : WaySoFar → Option WaySoFar) → bind o (λ s. bind (f s) g) ≡ bind (bind o f) g
bind_bind None f g = refl
bind_bind (Some s) f g = refl

swap_first : (one two : List ℕ) (back : List (List ℕ)) (s : WaySoFar) → all_do (one ∷ two ∷ back) s ≡ all_do (two ∷ one ∷ back) s
swap_first one two back s =
    bind_bind (does (word_of one) s) (does (word_of two)) (all_do back)
    ∙ (ap (λ (o : Option WaySoFar). bind o (all_do back)) (commute (word_of one) (word_of two) s.tags s.refs) ∙ sym (bind_bind (does (word_of two) s) (does (word_of one)) (all_do back)))

swapped : (front : List (List ℕ)) (one two : List ℕ) (back : List (List ℕ)) (s : WaySoFar) → all_do (front ++ one ∷ two ∷ back) s ≡ all_do (front ++ two ∷ one ∷ back) s
swapped [] one two back s = swap_first one two back s
swapped (word ∷ front) one two back s = under (does (word_of word) s) (all_do (front ++ one ∷ two ∷ back)) (all_do (front ++ two ∷ one ∷ back)) (swapped front one two back)

is_ok : {K : Type 0} (r : Result WaySoFar K) (t : WaySoFar) → value r ≡ Some t → r ≡ Ok t
is_ok (Ok s) t e = cc
is_ok (Err k) t e = cc

pub way_words_swapped : (s t : WaySoFar) (byte : ℕ) (front : List (List ℕ)) (one two : List ℕ) (back : List (List ℕ)) → way_words s byte (front ++ one ∷ two ∷ back) ≡ Ok t → way_words s byte (front ++ two ∷ one ∷ back) ≡ Ok t
way_words_swapped s t byte front one two back e =
    is_ok (way_words s byte (front ++ two ∷ one ∷ back)) t
    (all_words (front ++ two ∷ one ∷ back) byte s ∙ (sym (swapped front one two back s) ∙ (sym (all_words (front ++ one ∷ two ∷ back) byte s) ∙ ap (λ r. value r) e)))

-- ---- words that are skipped

skips_letters : (word : List ℕ) → is_skipped word ≡ true → word_of word ≡ skipped
skips_letters [] h = cc
skips_letters (b ∷ bytes) h =
    let t : eqb b 84 ≡ false = grind (arith, nat_tests) in
    let n : eqb b 78 ≡ false = grind (arith, nat_tests) in
    rw (t, n, h) refl

without : (front : List (List ℕ)) (word : List ℕ) (back : List (List ℕ)) (s : WaySoFar) → is_skipped word ≡ true → all_do (front ++ word ∷ back) s ≡ all_do (front ++ back) s
without [] word back s h = rw (skips_letters word h) refl
without (other ∷ front) word back s h = under (does (word_of other) s) (all_do (front ++ word ∷ back)) (all_do (front ++ back)) (λ t. without front word back t h)

pub way_words_skipped : (s t : WaySoFar) (byte : ℕ) (front : List (List ℕ)) (word : List ℕ) (back : List (List ℕ)) → IsTrue (is_skipped word) → way_words s byte (front ++ back) ≡ Ok t → way_words s byte (front ++ word ∷ back) ≡ Ok t
way_words_skipped s t byte front word back h e =
    is_ok (way_words s byte (front ++ word ∷ back)) t
    (all_words (front ++ word ∷ back) byte s ∙ (without front word back s h ∙ (sym (all_words (front ++ back) byte s) ∙ ap (λ r. value r) e)))
