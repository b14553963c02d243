-- Each command's line is read as it.
use Rattle.std.proofs.Common.{◌≡◌, ◌≢◌, ◌∙◌, ℕ, zero, suc, ◌≤◌, List, [], ◌∷◌, map, Bool, false, Option, Some, None, refl, ap, ap₂, arith, le-leb}
use Rattle.std.specs.Prelude.{if◌then◌else◌, codes, decimal, flat_map}
use Rattle.std.specs.List.{All}
use Rattle.std.specs.List.Sorted.{IsPermutation}
use Rattle.std.specs.Option.{option_map}
use Rattle.std.specs.Str.{bytes_eq}
use Rattle.std.proofs.lemmas.List.Elements.{All-head, All-tail}
use Rattle.std.proofs.lemmas.List.Sorted.{All-permutation, IsPermutation-sym}
use Rattle.clap.specs.Simple.{App, built}
use Rattle.clap.specs.Walk.{Row, Text, first_of}
use Rattle.gh_base.specs.Decimals.{◌>>=◌}
use Rattle.gh_base.specs.declared.kinds.Form.{Form}
use Rattle.gh_base.specs.declared.kinds.Form.TheVariants.{Plain, Pbf}
use Rattle.gh_words.specs.declared.request.Request.{Request}
use Rattle.gh_words.specs.declared.request.Request.TheVariants as request
use Rattle.gh_words.specs.Words.{CountedMap, MapAt, Both, Check, Convert, Generate, Prep, Roads, Serve, Turns, asked, asked_by, convert_app, convert_asked, convert_in, counted_app, counted_in, counted_words, form_in, form_of, found_in, generate_app, generate_asked, generate_in, is_dashes, map_app, map_at_in, map_in, map_words, name_of, number_in, number_of, within}
use Rattle.gh_words.proofs.Spellings.{reads}
use Rattle.word_laws.specs.Writing.{IsAskable, IsLineOf, IsNumberFrom, IsSpellable, Named, Spelled, command_of, form_word, option, options_of, words_of}
use Rattle.word_laws.proofs.Rules.{first_of_rows, row}
use Rattle.word_laws.proofs.Walks.{IsOptionName, same_name}
use Rattle.word_laws.proofs.Orders.{IsAsked, fits, found_by, found_in_order}
use Rattle.word_laws.proofs.Found.{built_app, found_so}

-- ---- values

name_again : (name : List ℕ) → name ≢ [] → name_of name ≡ Some name
name_again [] some = absurd (some refl)
name_again (b ∷ bytes) some = refl

form_again : (form : Form) → form_of (form_word form) ≡ Some form
form_again Plain = refl
form_again Pbf = refl

number_again : (least most n : ℕ) → 1 ≤ least → most ≤ 999 → IsNumberFrom least most n → number_of least most (decimal n) ≡ Some n
number_again least most n some few is =
    let read = reads (decimal n) n (omega (arith, is.0)) (omega (arith, is.1)) refl in
    let in_bounds : within least most n ≡ Some n = rw (le-leb least n is.0, le-leb n most is.1) refl in
    ap₂ (λ (b : Bool) (o : Option ℕ). if b then None else o >>= within least most) read.0 read.1 ∙ in_bounds

given_values : (options : List Spelled) → All IsSpellable options → All (λ (o : Named). o.value ≢ []) (map (λ s. s.of) options)
given_values [] all k d lt = absurd (omega arith)
given_values (s ∷ options) all zero d lt = (All-head IsSpellable s options all).some
given_values (s ∷ options) all (suc k) d lt = given_values options (All-tail IsSpellable s options all) k d (omega arith)

-- the value that is found by a name
value_found : (os : List Named) (o : Named) → found_by o.name os ≡ Some o → first_of o.name (map row os) ≡ Some o.value
value_found os o e = first_of_rows o.name os ∙ ap (option_map (λ (o : Named). o.value)) e

-- ---- the names of options

map_name : IsOptionName (codes "map")
map_name = record { alone = refl; joined = λ v. refl; alone_is = refl; joined_is = λ v. refl; alone_dashes = refl; joined_dashes = λ v. refl }

form_name : IsOptionName (codes "form")
form_name = record { alone = refl; joined = λ v. refl; alone_is = refl; joined_is = λ v. refl; alone_dashes = refl; joined_dashes = λ v. refl }

to_name : IsOptionName (codes "to")
to_name = record { alone = refl; joined = λ v. refl; alone_is = refl; joined_is = λ v. refl; alone_dashes = refl; joined_dashes = λ v. refl }

count_name : IsOptionName (codes "count")
count_name = record { alone = refl; joined = λ v. refl; alone_is = refl; joined_is = λ v. refl; alone_dashes = refl; joined_dashes = λ v. refl }

size_name : IsOptionName (codes "size")
size_name = record { alone = refl; joined = λ v. refl; alone_is = refl; joined_is = λ v. refl; alone_dashes = refl; joined_dashes = λ v. refl }

one : (n : ℕ) → n ≡ 1 → n ≤ 1
one n e = omega arith

-- ---- a size alone

module _ (size : List ℕ) (options : List Spelled) (order : IsPermutation (option (codes "size") size ∷ []) (map (λ s. s.of) options)) (spellable : All IsSpellable options) where
  abbrev size_wanted : List Named
  size_wanted = option (codes "size") size ∷ []

  abbrev size_os : List Named
  size_os = map (λ s. s.of) options

  size_asked : IsAsked (codes "size" ∷ []) size_wanted
  size_asked = record { among = (refl, tt); once = (one _ refl, tt) }

  by_size : found_by (codes "size") size_os ≡ Some (option (codes "size") size)
  by_size = found_in_order size_wanted size_os (option (codes "size") size) order (λ e. refl, tt) (0, omega arith, refl) refl

  size_found : found_in generate_app (codes "generate" ∷ flat_map words_of options) ≡ Some (map row size_os)
  size_found = found_so (codes "generate") (codes "size" ∷ []) (size_name, tt) options (fits (codes "size" ∷ []) size_wanted options size_asked order spellable same_name)
      generate_app (codes "generate") refl refl refl ((option (codes "size") size, by_size), tt)

  size_value : first_of (codes "size") (map row size_os) ≡ Some size
  size_value = value_found size_os (option (codes "size") size) by_size

-- ---- a map in a form

module _ (m f : List ℕ) (options : List Spelled) (order : IsPermutation (option (codes "map") m ∷ option (codes "form") f ∷ []) (map (λ s. s.of) options)) (spellable : All IsSpellable options) where
  abbrev map_wanted : List Named
  map_wanted = option (codes "map") m ∷ option (codes "form") f ∷ []

  abbrev map_os : List Named
  map_os = map (λ s. s.of) options

  map_asked : IsAsked (codes "map" ∷ codes "form" ∷ []) map_wanted
  map_asked = record { among = (refl, (refl, tt)); once = (one _ refl, (one _ refl, tt)) }

  by_map : found_by (codes "map") map_os ≡ Some (option (codes "map") m)
  by_map = found_in_order map_wanted map_os (option (codes "map") m) order (λ e. refl, (λ e. cc, tt)) (0, omega arith, refl) refl

  by_form : found_by (codes "form") map_os ≡ Some (option (codes "form") f)
  by_form = found_in_order map_wanted map_os (option (codes "form") f) order (λ e. cc, (λ e. refl, tt)) (1, omega arith, refl) refl

  map_found : (app : App) (title : Text) → built app ≡ built_app title (codes "map" ∷ codes "form" ∷ []) → app.top.no_binary_name ≡ false → is_dashes title ≡ false →
      found_in app (title ∷ flat_map words_of options) ≡ Some (map row map_os)
  map_found app title is named dashes =
      found_so title (codes "map" ∷ codes "form" ∷ []) (map_name, (form_name, tt)) options (fits (codes "map" ∷ codes "form" ∷ []) map_wanted options map_asked order spellable same_name)
      app title is named dashes ((option (codes "map") m, by_map), ((option (codes "form") f, by_form), tt))

  map_value : first_of (codes "map") (map row map_os) ≡ Some m
  map_value = value_found map_os (option (codes "map") m) by_map

  form_value : first_of (codes "form") (map row map_os) ≡ Some f
  form_value = value_found map_os (option (codes "form") f) by_form

  map_some : m ≢ []
  map_some = All-head (λ (o : Named). o.value ≢ []) (option (codes "map") m) (option (codes "form") f ∷ [])
      (All-permutation (λ (o : Named). o.value ≢ []) map_os map_wanted (IsPermutation-sym map_wanted map_os order) (given_values options spellable))

-- ---- a map in a form, and one option more

pub record IsThird (third : Text) : Type 0 where
  pub name : IsOptionName third
  pub map_before : bytes_eq (codes "map") third ≡ false
  pub map_behind : bytes_eq third (codes "map") ≡ false
  pub form_before : bytes_eq (codes "form") third ≡ false
  pub form_behind : bytes_eq third (codes "form") ≡ false

module _ (third : Text) (is : IsThird third) (m f v : List ℕ) (options : List Spelled)
    (order : IsPermutation (option (codes "map") m ∷ option (codes "form") f ∷ option third v ∷ []) (map (λ s. s.of) options)) (spellable : All IsSpellable options) where
  abbrev wanted : List Named
  wanted = option (codes "map") m ∷ option (codes "form") f ∷ option third v ∷ []

  abbrev names : List Text
  names = codes "map" ∷ codes "form" ∷ third ∷ []

  abbrev os : List Named
  os = map (λ s. s.of) options

  three_asked : IsAsked names wanted
  three_asked = record {
    among = (refl, (refl, (rw (is.map_before, is.form_before, same_name third) refl, tt)));
    once = (one _ (rw is.map_behind refl), (one _ (rw is.form_behind refl), (one _ (rw (is.map_before, is.form_before, same_name third) refl), tt)));
  }

  three_map : found_by (codes "map") os ≡ Some (option (codes "map") m)
  three_map = found_in_order wanted os (option (codes "map") m) order (λ e. refl, (λ e. cc, (λ e. cc (is.map_behind), tt))) (0, omega arith, refl) refl

  three_form : found_by (codes "form") os ≡ Some (option (codes "form") f)
  three_form = found_in_order wanted os (option (codes "form") f) order (λ e. cc, (λ e. refl, (λ e. cc (is.form_behind), tt))) (1, omega arith, refl) refl

  three_third : found_by third os ≡ Some (option third v)
  three_third = found_in_order wanted os (option third v) order (λ e. cc (is.map_before), (λ e. cc (is.form_before), (λ e. refl, tt))) (2, omega arith, refl) (same_name third)

  three_found : (app : App) (title : Text) → built app ≡ built_app title names → app.top.no_binary_name ≡ false → is_dashes title ≡ false →
      found_in app (title ∷ flat_map words_of options) ≡ Some (map row os)
  three_found app title built_so named dashes =
      found_so title names (map_name, (form_name, (is.name, tt))) options (fits names wanted options three_asked order spellable same_name)
      app title built_so named dashes ((option (codes "map") m, three_map), ((option (codes "form") f, three_form), ((option third v, three_third), tt)))

  three_map_value : first_of (codes "map") (map row os) ≡ Some m
  three_map_value = value_found os (option (codes "map") m) three_map

  three_form_value : first_of (codes "form") (map row os) ≡ Some f
  three_form_value = value_found os (option (codes "form") f) three_form

  three_third_value : first_of third (map row os) ≡ Some v
  three_third_value = value_found os (option third v) three_third

  three_some : m ≢ []
  three_some = All-head (λ (o : Named). o.value ≢ []) (option (codes "map") m) (option (codes "form") f ∷ option third v ∷ [])
      (All-permutation (λ (o : Named). o.value ≢ []) os wanted (IsPermutation-sym wanted os order) (given_values options spellable))

to_third : IsThird (codes "to")
to_third = record { name = to_name; map_before = refl; map_behind = refl; form_before = refl; form_behind = refl }

count_third : IsThird (codes "count")
count_third = record { name = count_name; map_before = refl; map_behind = refl; form_before = refl; form_behind = refl }

-- ---- what the options say

abbrev map_at : List ℕ → Form → MapAt
map_at m form = record { map = m; form = form }

abbrev counted_map : List ℕ → Form → ℕ → CountedMap
counted_map m form count = record { map = m; form = form; count = count }

map_said : (rows : List Row) (m : List ℕ) (form : Form) → first_of (codes "map") rows ≡ Some m → first_of (codes "form") rows ≡ Some (form_word form) → m ≢ [] →
    map_at_in rows ≡ Some (record { map = m; form = form })
map_said rows m form at_map at_form some =
    let as_map : map_in rows ≡ Some m = ap (λ (o : Option (List ℕ)). o >>= name_of) at_map ∙ name_again m some in
    let as_form : form_in (codes "form") rows ≡ Some form = ap (λ (o : Option (List ℕ)). o >>= form_of) at_form ∙ form_again form in
    ap₂ (λ (a : Option (List ℕ)) (b : Option Form). a >>= (λ map. b >>= (λ form. Some (map_at map form)))) as_map as_form

counted_said : (rows : List Row) (m : List ℕ) (form : Form) (count : ℕ) → map_at_in rows ≡ Some (record { map = m; form = form }) → first_of (codes "count") rows ≡ Some (decimal count) → IsNumberFrom 1 16 count →
    counted_in rows ≡ Some (record { map = m; form = form; count = count })
counted_said rows m form count at at_count is =
    let as_count : number_in (codes "count") 1 16 rows ≡ Some count = ap (λ (o : Option (List ℕ)). o >>= number_of 1 16) at_count ∙ number_again 1 16 count (omega arith) (omega arith) is in
    ap₂ (λ (a : Option MapAt) (b : Option ℕ). a >>= (λ at. b >>= (λ count. Some (counted_map at.map at.form count)))) at as_count

convert_said : (rows : List Row) (m : List ℕ) (form to : Form) → first_of (codes "map") rows ≡ Some m → first_of (codes "form") rows ≡ Some (form_word form) → first_of (codes "to") rows ≡ Some (form_word to) → m ≢ [] →
    convert_in rows ≡ Some (Convert m form to)
convert_said rows m form to at_map at_form at_to some =
    let as_map : map_in rows ≡ Some m = ap (λ (o : Option (List ℕ)). o >>= name_of) at_map ∙ name_again m some in
    let as_form : form_in (codes "form") rows ≡ Some form = ap (λ (o : Option (List ℕ)). o >>= form_of) at_form ∙ form_again form in
    let as_to : form_in (codes "to") rows ≡ Some to = ap (λ (o : Option (List ℕ)). o >>= form_of) at_to ∙ form_again to in
    ap (λ (a : Option (List ℕ)). a >>= (λ map. form_in (codes "form") rows >>= (λ form. form_in (codes "to") rows >>= (λ to. Some (Convert map form to))))) as_map
    ∙ ap₂ (λ (a : Option Form) (b : Option Form). a >>= (λ form. b >>= (λ to. Some (Convert m form to)))) as_form as_to

-- ---- each command

map_line : (title m : List ℕ) (form : Form) (options : List Spelled) → IsPermutation (option (codes "map") m ∷ option (codes "form") (form_word form) ∷ []) (map (λ s. s.of) options) → All IsSpellable options →
    is_dashes title ≡ false → map_words title (title ∷ flat_map words_of options) ≡ Some (record { map = m; form = form })
unfolding map_words
map_line title m form options order spellable dashes =
    let f = form_word form in
    ap (λ (o : Option (List Row)). o >>= map_at_in) (map_found m f options order spellable (map_app title) title refl refl dashes)
    ∙ map_said (map row (map (λ s. s.of) options)) m form (map_value m f options order spellable) (form_value m f options order spellable) (map_some m f options order spellable)

counted_line : (title m : List ℕ) (form : Form) (count : ℕ) (options : List Spelled) → IsPermutation (option (codes "map") m ∷ option (codes "form") (form_word form) ∷ option (codes "count") (decimal count) ∷ []) (map (λ s. s.of) options) →
    All IsSpellable options → is_dashes title ≡ false → IsNumberFrom 1 16 count → counted_words title (title ∷ flat_map words_of options) ≡ Some (record { map = m; form = form; count = count })
unfolding counted_words
counted_line title m form count options order spellable dashes is =
    let f = form_word form in
    let v = decimal count in
    let c = codes "count" in
    let rows = map row (map (λ s. s.of) options) in
    let at = map_said rows m form (three_map_value c count_third m f v options order spellable) (three_form_value c count_third m f v options order spellable) (three_some c count_third m f v options order spellable) in
    ap (λ (o : Option (List Row)). o >>= counted_in) (three_found c count_third m f v options order spellable (counted_app title) title refl refl dashes)
    ∙ counted_said rows m form count at (three_third_value c count_third m f v options order spellable) is

convert_line : (m : List ℕ) (form to : Form) (options : List Spelled) → IsPermutation (option (codes "map") m ∷ option (codes "form") (form_word form) ∷ option (codes "to") (form_word to) ∷ []) (map (λ s. s.of) options) →
    All IsSpellable options → convert_asked (codes "convert" ∷ flat_map words_of options) ≡ Some (Convert m form to)
unfolding convert_asked
convert_line m form to options order spellable =
    let f = form_word form in
    let v = form_word to in
    let t = codes "to" in
    ap (λ (o : Option (List Row)). o >>= convert_in) (three_found t to_third m f v options order spellable convert_app (codes "convert") refl refl refl)
    ∙ convert_said (map row (map (λ s. s.of) options)) m form to (three_map_value t to_third m f v options order spellable) (three_form_value t to_third m f v options order spellable)
    (three_third_value t to_third m f v options order spellable) (three_some t to_third m f v options order spellable)

generate_line : (size : ℕ) (options : List Spelled) → IsPermutation (option (codes "size") (decimal size) ∷ []) (map (λ s. s.of) options) → All IsSpellable options → IsNumberFrom 2 300 size →
    generate_asked (codes "generate" ∷ flat_map words_of options) ≡ Some (Generate size)
unfolding generate_asked
generate_line size options order spellable is =
    let v = decimal size in
    let rows = map row (map (λ s. s.of) options) in
    let as_size : number_in (codes "size") 2 300 rows ≡ Some size = ap (λ (o : Option (List ℕ)). o >>= number_of 2 300) (size_value v options order spellable) ∙ number_again 2 300 size (omega arith) (omega arith) is in
    ap (λ (o : Option (List Row)). o >>= generate_in) (size_found v options order spellable) ∙ ap (λ (o : Option ℕ). o >>= (λ size. Some (Generate size))) as_size

asked_line : (request : Request) (options : List Spelled) → IsAskable request → IsPermutation (options_of request) (map (λ s. s.of) options) → All IsSpellable options →
    asked (command_of request ∷ flat_map words_of options) ≡ Some (asked_by request)
unfolding asked
asked_line (request.Serve m form) options is order spellable = ap (λ (o : Option MapAt). o >>= (λ at. Some (Serve at.map at.form))) (map_line (codes "serve") m.now form options order spellable refl)
asked_line (request.Convert m form to) options is order spellable = convert_line m.now form to options order spellable
asked_line (request.Generate size) options is order spellable = generate_line size options order spellable is
asked_line (request.Roads m form) options is order spellable = ap (λ (o : Option MapAt). o >>= (λ at. Some (Roads at.map at.form))) (map_line (codes "roads") m.now form options order spellable refl)
asked_line (request.Prep m form count) options is order spellable = ap (λ (o : Option CountedMap). o >>= (λ at. Some (Prep at.map at.form at.count))) (counted_line (codes "prep") m.now form count options order spellable refl is)
asked_line (request.Check m form) options is order spellable = ap (λ (o : Option MapAt). o >>= (λ at. Some (Check at.map at.form))) (map_line (codes "check") m.now form options order spellable refl)
asked_line (request.Both m form count) options is order spellable = ap (λ (o : Option CountedMap). o >>= (λ at. Some (Both at.map at.form at.count))) (counted_line (codes "both") m.now form count options order spellable refl is)
asked_line (request.Turns m form count) options is order spellable = ap (λ (o : Option CountedMap). o >>= (λ at. Some (Turns at.map at.form at.count))) (counted_line (codes "turns") m.now form count options order spellable refl is)

pub line_again : (request : Request) (words : List (List ℕ)) → IsAskable request → IsLineOf request words → asked words ≡ Some (asked_by request)
line_again request words is line = ap asked line.words_are ∙ asked_line request line.options is line.order line.spellable
