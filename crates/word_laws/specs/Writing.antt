-- How a command line is written: the command's name, and behind it its options in any order.
use Rattle.std.specs.Prelude.{◌≡◌, ◌≢◌, ℕ, ◌≤◌, Bool, true, false, List, [], ◌∷◌, ◌++◌, map, flat_map, All, IsPermutation, slice_index, codes, decimal}
use Rattle.gh_base.specs.declared.kinds.Form.{Form}
use Rattle.gh_base.specs.declared.kinds.Form.TheVariants.{Plain, Pbf}
use Rattle.gh_words.specs.declared.request.Request.{Request}
use Rattle.gh_words.specs.declared.request.Request.TheVariants as request

-- an option: its name, and its value
pub record Named : Type 0 where
  pub name : List ℕ
  pub value : List ℕ

abbrev pub option : List ℕ → List ℕ → Named
option name value = record { name = name; value = value }

abbrev pub form_word : Form → List ℕ
form_word Plain = codes "plain"
form_word Pbf = codes "pbf"

-- the word that asks for it
abbrev pub command_of : Request → List ℕ
command_of (request.Serve map form) = codes "serve"
command_of (request.Convert map form to) = codes "convert"
command_of (request.Generate size) = codes "generate"
command_of (request.Roads map form) = codes "roads"
command_of (request.Prep map form count) = codes "prep"
command_of (request.Check map form) = codes "check"
command_of (request.Both map form count) = codes "both"
command_of (request.Turns map form count) = codes "turns"

-- of a map in a form
abbrev pub map_options : List ℕ → Form → List Named
map_options map form = option (codes "map") map ∷ option (codes "form") (form_word form) ∷ []

-- with a number of landmarks
abbrev pub counted_options : List ℕ → Form → ℕ → List Named
counted_options map form count = map_options map form ++ option (codes "count") (decimal count) ∷ []

-- its options
abbrev pub options_of : Request → List Named
options_of (request.Serve map form) = map_options map.now form
options_of (request.Convert map form to) = map_options map.now form ++ option (codes "to") (form_word to) ∷ []
options_of (request.Generate size) = option (codes "size") (decimal size) ∷ []
options_of (request.Roads map form) = map_options map.now form
options_of (request.Prep map form count) = counted_options map.now form count
options_of (request.Check map form) = map_options map.now form
options_of (request.Both map form count) = counted_options map.now form count
options_of (request.Turns map form count) = counted_options map.now form count

-- a size is from 2 to 300, a number of landmarks from 1 to 16
abbrev pub IsNumberFrom : ℕ → ℕ → ℕ → Type 0
IsNumberFrom least most n = (least ≤ n) × (n ≤ most)

abbrev pub IsAskable : Request → Type 0
IsAskable (request.Generate size) = IsNumberFrom 2 300 size
IsAskable (request.Prep map form count) = IsNumberFrom 1 16 count
IsAskable (request.Both map form count) = IsNumberFrom 1 16 count
IsAskable (request.Turns map form count) = IsNumberFrom 1 16 count
IsAskable request = Unit {0}

-- an option that stands as one word, or as two
pub record Spelled : Type 0 where
  pub of : Named
  pub as_one : Bool

-- `--name=value`, or `--name` and `value`
abbrev pub spelling : List ℕ → List ℕ → Bool → List (List ℕ)
spelling name value true = (codes "--" ++ (name ++ (codes "=" ++ value))) ∷ []
spelling name value false = (codes "--" ++ name) ∷ value ∷ []

abbrev pub words_of : Spelled → List (List ℕ)
words_of s = spelling s.of.name s.of.value s.as_one

-- a value isn't empty, and as a word of its own it doesn't begin with a minus sign
pub record IsSpellable (s : Spelled) : Type 0 where
  pub some : s.of.value ≢ []
  pub minus : s.as_one ≡ false → slice_index s.of.value 0 ≢ 45

-- the words of a request: its command, and then its options, in any order, each as one word or as two
pub record IsLineOf (request : Request) (words : List (List ℕ)) : Type 0 where
  pub options : List Spelled
  pub order : IsPermutation (options_of request) (map (λ s. s.of) options)
  pub spellable : All IsSpellable options
  pub words_are : words ≡ command_of request ∷ flat_map words_of options
