-- What the words of a command line ask for: those after the program's name.
use Rattle.std.specs.Prelude.{ℕ, ◌≤◌, List, [], ◌∷◌, Option, Some, None, String, Bool, true, false, ◌||◌, ◌&&◌, ◌==◌, nat_le, codes, map, string_bytes, if◌then◌else◌}
use Rattle.std.specs.Str.{bytes_eq}
use Rattle.std.specs.List.{list_any}
use Rattle.clap.specs.Words.{App, Kinds, Row, Rule, Text as Word, fault_of, first_of, matches_of, new_app, new_rule, with_rule}
use Rattle.clap.specs.declared.builder.action.ArgAction.TheVariants.{Set}
use Rattle.gh_base.specs.Decimals.{◌>>=◌, natural_of}
use Rattle.gh_base.specs.declared.kinds.Form.{Form}
use Rattle.gh_base.specs.declared.kinds.Form.TheVariants.{Plain, Pbf}
use Rattle.gh_words.specs.declared.request.Request.{Request}
use Rattle.gh_words.specs.declared.request.Request.TheVariants as request

-- to serve queries from the map of a name, in a form; to write that map in a form; to answer a script made of a size; to
-- write the roads of the map of a name; to prepare it with so many landmarks; to check a preparation of it; or, with so
-- many landmarks, to answer query lines by searches from both ends, or under its turn restrictions
pub data Asked : Type 0 where
  Serve : (map : List ℕ) → (form : Form) → Asked
  Convert : (map : List ℕ) → (form : Form) → (to : Form) → Asked
  Generate : (size : ℕ) → Asked
  Roads : (map : List ℕ) → (form : Form) → Asked
  Prep : (map : List ℕ) → (form : Form) → (count : ℕ) → Asked
  Check : (map : List ℕ) → (form : Form) → Asked
  Both : (map : List ℕ) → (form : Form) → (count : ℕ) → Asked
  Turns : (map : List ℕ) → (form : Form) → (count : ℕ) → Asked

-- what a request says
abbrev pub asked_by : Request → Asked
asked_by (request.Serve map form) = Serve map.now form
asked_by (request.Convert map form to) = Convert map.now form to
asked_by (request.Generate size) = Generate size
asked_by (request.Roads map form) = Roads map.now form
asked_by (request.Prep map form count) = Prep map.now form count
asked_by (request.Check map form) = Check map.now form
asked_by (request.Both map form count) = Both map.now form count
asked_by (request.Turns map form count) = Turns map.now form count

-- an option that stands exactly once, and has one value
abbrev pub option_of : Word → Rule
option_of name = record (new_rule name) { long = Some name; required = true; action = Some Set }

-- a command without flags for help and the version
abbrev pub bare_app : Word → App
bare_app name = record (new_app name) {
  top = record (new_app name).top { disable_help_flag = true; disable_version_flag = true };
}

-- a command on a map in a form
abbrev pub map_app : Word → App
map_app name = with_rule (with_rule (bare_app name) (option_of (codes "map"))) (option_of (codes "form"))

-- the command `convert`, to clap
abbrev pub convert_app : App
convert_app = with_rule (map_app (codes "convert")) (option_of (codes "to"))

-- the command `generate`, to clap
abbrev pub generate_app : App
generate_app = with_rule (bare_app (codes "generate")) (option_of (codes "size"))

-- a command on a map in a form that asks for a number of landmarks
abbrev pub counted_app : Word → App
counted_app name = with_rule (map_app name) (option_of (codes "count"))

-- a word that is nothing but one or two minus signs
abbrev pub is_dashes : Word → Bool
is_dashes word = bytes_eq word (codes "-") || bytes_eq word (codes "--")

-- the options, where clap finds no fault
abbrev pub if_free : Kinds → List Row → Option (List Row)
if_free [] rows = Some rows
if_free (kind ∷ kinds) rows = None

-- the options that clap finds among the words, the command's name the first of them; none where clap finds a fault, or
-- a word is nothing but minus signs
abbrev pub found_in : App → List Word → Option (List Row)
found_in app words = if list_any is_dashes words then None else if_free (fault_of app words) (matches_of app words)

-- a name isn't empty
abbrev pub name_of : Word → Option (List ℕ)
name_of [] = None
name_of (b ∷ bytes) = Some (b ∷ bytes)

-- the forms that can be read
abbrev pub form_of : Word → Option Form
form_of word = if bytes_eq word (codes "plain") then Some Plain else if bytes_eq word (codes "pbf") then Some Pbf else None

-- the map's name among the options
abbrev pub map_in : List Row → Option (List ℕ)
map_in rows = first_of (codes "map") rows >>= name_of

-- the form that an option of this name gives
abbrev pub form_in : Word → List Row → Option Form
form_in option rows = first_of option rows >>= form_of

-- a number from one to another
pub record IsFrom (lowest highest n : ℕ) : Type 0 where
  pub least : lowest ≤ n
  pub most : n ≤ highest

-- sizes and counts of landmarks are within these bounds
abbrev pub IsInBounds : Request → Type 0
IsInBounds (request.Generate size) = IsFrom 2 300 size
IsInBounds (request.Prep map form count) = IsFrom 1 16 count
IsInBounds (request.Both map form count) = IsFrom 1 16 count
IsInBounds (request.Turns map form count) = IsFrom 1 16 count
IsInBounds request = Unit {0}

abbrev pub begins_with_zero : Word → Bool
begins_with_zero [] = false
begins_with_zero (b ∷ bytes) = b == 48

-- the number, where it is within bounds
abbrev pub within : ℕ → ℕ → ℕ → Option ℕ
within least most n = if nat_le least n && nat_le n most then Some n else None

-- the number within bounds that a word spells, in at most three digits alone and without leading zeros
abbrev pub number_of : ℕ → ℕ → Word → Option ℕ
number_of least most word = if begins_with_zero word then None else natural_of 3 word >>= within least most

-- such a number that an option of this name gives
abbrev pub number_in : Word → ℕ → ℕ → List Row → Option ℕ
number_in option least most rows = first_of option rows >>= number_of least most

-- where a map is, and in which form
pub record MapAt : Type 0 where
  pub map : List ℕ
  pub form : Form

-- what the options of a map say
abbrev pub map_at_in : List Row → Option MapAt
map_at_in rows = do
  map ← map_in rows
  form ← form_in (codes "form") rows
  Some (record { map = map; form = form })

-- what the options of `convert` say
abbrev pub convert_in : List Row → Option Asked
convert_in rows = do
  map ← map_in rows
  form ← form_in (codes "form") rows
  to ← form_in (codes "to") rows
  Some (Convert map form to)

-- what the options of `generate` say
abbrev pub generate_in : List Row → Option Asked
generate_in rows = do
  size ← number_in (codes "size") 2 300 rows
  Some (Generate size)

-- where a map is, in which form, and a number of landmarks
pub record CountedMap : Type 0 where
  pub map : List ℕ
  pub form : Form
  pub count : ℕ

-- what the options of a map and of a number of landmarks say
abbrev pub counted_in : List Row → Option CountedMap
counted_in rows = do
  at ← map_at_in rows
  count ← number_in (codes "count") 1 16 rows
  Some (record { map = at.map; form = at.form; count = count })

-- what the words of a command of this name on a map say, itself the first of them
unfoldable pub map_words : Word → List Word → Option MapAt
map_words name words = found_in (map_app name) words >>= map_at_in

-- what the words of `serve` ask for
abbrev pub serve_asked : List Word → Option Asked
serve_asked words = do
  at ← map_words (codes "serve") words
  Some (Serve at.map at.form)

-- what the words of `roads` ask for
abbrev pub roads_asked : List Word → Option Asked
roads_asked words = do
  at ← map_words (codes "roads") words
  Some (Roads at.map at.form)

-- what the words of `check` ask for
abbrev pub check_asked : List Word → Option Asked
check_asked words = do
  at ← map_words (codes "check") words
  Some (Check at.map at.form)

-- what the words of `convert` ask for, itself the first of them
unfoldable pub convert_asked : List Word → Option Asked
convert_asked words = found_in convert_app words >>= convert_in

-- what the words of `generate` ask for, alike
unfoldable pub generate_asked : List Word → Option Asked
generate_asked words = found_in generate_app words >>= generate_in

-- what the words of a command of this name say of a map and of a number of landmarks, alike
unfoldable pub counted_words : Word → List Word → Option CountedMap
counted_words name words = found_in (counted_app name) words >>= counted_in

-- what the words of `prep` ask for
abbrev pub prep_asked : List Word → Option Asked
prep_asked words = do
  at ← counted_words (codes "prep") words
  Some (Prep at.map at.form at.count)

-- what the words of `both` ask for
abbrev pub both_asked : List Word → Option Asked
both_asked words = do
  at ← counted_words (codes "both") words
  Some (Both at.map at.form at.count)

-- what the words of `turns` ask for
abbrev pub turns_asked : List Word → Option Asked
turns_asked words = do
  at ← counted_words (codes "turns") words
  Some (Turns at.map at.form at.count)

-- what the words ask for, by the first of them; none where they are refused
unfoldable pub asked : List Word → Option Asked
asked [] = None
asked (first ∷ words) =
    if bytes_eq first (codes "serve") then serve_asked (first ∷ words)
    else if bytes_eq first (codes "convert") then convert_asked (first ∷ words)
    else if bytes_eq first (codes "generate") then generate_asked (first ∷ words)
    else if bytes_eq first (codes "roads") then roads_asked (first ∷ words)
    else if bytes_eq first (codes "prep") then prep_asked (first ∷ words)
    else if bytes_eq first (codes "check") then check_asked (first ∷ words)
    else if bytes_eq first (codes "both") then both_asked (first ∷ words)
    else if bytes_eq first (codes "turns") then turns_asked (first ∷ words)
    else None

-- what the words of a command line ask for
abbrev pub asks : {Z : Type 0} → List (String Z) → Option Asked
asks words = asked (map string_bytes words)
