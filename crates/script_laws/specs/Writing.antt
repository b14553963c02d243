-- How a script is written: its lines are words with one space between.
use Rattle.std.specs.Prelude.{◌≡◌, ℕ, ◌/◌, ◌%◌, ◌^◌, ◌<◌, ◌≤◌, Bool, true, false, List, [], ◌∷◌, ◌++◌, length, map, slice_index_or, All, IsUtf8, ◌≢◌, codes, decimal}
use Rattle.std.specs.Fmt.{signed_decimal}
use Rattle.std.specs.List.{join_with_byte}
use Rattle.gh_base.specs.declared.query.Place.{Place}
use Rattle.gh_base.specs.declared.query.Place.TheVariants.{Id, At}
use Rattle.gh_base.specs.declared.query.Vehicle.{Vehicle}
use Rattle.gh_base.specs.declared.query.Vehicle.TheVariants.{Car, Bike, Foot}
use Rattle.gh_base.specs.Maps.{IsShort}
use Rattle.gh_base.specs.Places.{IsOnEarth}
use Rattle.model_eval.specs.Models.{no_model}
use Rattle.weighting.specs.declared.profile.Profile.{Profile}
use Rattle.weighting.specs.Profiles.{profile_at}
use Rattle.plain_map.specs.Printing.{coordinate_text, dotted, places_text, lines_text}
use Rattle.script_text.specs.declared.script.Command.{Command}
use Rattle.script_text.specs.declared.script.Command.TheVariants as command
use Rattle.script_text.specs.declared.script.Line.{Line}
use Rattle.script_text.specs.declared.script.Script.{Script}
use Rattle.script_text.specs.Scripts.{lines_of}

-- words with one space between
abbrev pub spaced : List (List ℕ) → List ℕ
spaced words = join_with_byte 32 words

-- n and an id, or a latitude, a comma and a longitude in degrees
abbrev pub place_word : Place → List ℕ
place_word (Id id) = codes "n" ++ signed_decimal id
place_word (At point) = coordinate_text point.lat ++ (codes "," ++ coordinate_text point.lon)

-- an edge's number, and + along it, - against it
abbrev pub edge_word : ℕ → Bool → List ℕ
edge_word edge false = decimal edge ++ codes "+"
edge_word edge true = decimal edge ++ codes "-"

-- km/h with as many of three places as it takes, of milli-km/h
abbrev pub speed_word : ℕ → List ℕ
speed_word speed = decimal (speed / 1000) ++ dotted (places_text 3 (speed % 1000))

abbrev pub vehicle_word : Vehicle → List ℕ
vehicle_word Car = codes "car"
vehicle_word Bike = codes "bike"
vehicle_word Foot = codes "foot"

-- a profile's name by number
abbrev pub called : List Profile → ℕ → List ℕ
called profiles profile = (profile_at profiles profile).name

-- a profile and a model; no model, no word
abbrev pub model_words : List ℕ → List ℕ → List (List ℕ)
model_words profile [] = profile ∷ []
model_words profile (b ∷ text) = profile ∷ (b ∷ text) ∷ []

-- what an actor asks for, behind its name
abbrev pub command_words : List Profile → Command → List (List ℕ)
command_words profiles (command.Model profile text) = codes "model" ∷ model_words (called profiles profile) text
command_words profiles (command.Route start target false) = codes "route" ∷ place_word start ∷ place_word target ∷ []
command_words profiles (command.Route start target true) = codes "labels" ∷ place_word start ∷ place_word target ∷ []
command_words profiles (command.Lower edge reverse speed) = codes "lower" ∷ edge_word edge reverse ∷ speed_word speed ∷ []
command_words profiles (command.Restore edge reverse speed) = codes "restore" ∷ edge_word edge reverse ∷ speed_word speed ∷ []
command_words profiles (command.Prepare profile count) = codes "prepare" ∷ called profiles profile ∷ decimal count ∷ []
command_words profiles (command.Publish profile) = codes "publish" ∷ called profiles profile ∷ []

-- an id of at most eighteen digits, or a point of the earth
abbrev pub IsSayablePlace : Place → Type 0
IsSayablePlace (Id id) = IsShort id
IsSayablePlace (At point) = IsOnEarth point

-- an edge of at most nine digits, and a speed of 32 bits
abbrev pub IsSayableLimit : ℕ → ℕ → Type 0
IsSayableLimit edge speed = (edge < 10 ^ 9) × (speed < 2 ^ 32)

-- a command that a line can say, where there are so many profiles: its text is UTF-8 without a newline
abbrev pub IsSayable : ℕ → Command → Type 0
IsSayable profiles (command.Model profile text) = (profile < profiles) × (IsUtf8 text × All (λ b. b ≢ 10) text)
IsSayable profiles (command.Route start target labels) = IsSayablePlace start × IsSayablePlace target
IsSayable profiles (command.Lower edge reverse speed) = IsSayableLimit edge speed
IsSayable profiles (command.Restore edge reverse speed) = IsSayableLimit edge speed
IsSayable profiles (command.Prepare profile count) = (profile < profiles) × ((1 ≤ count) × (count ≤ 16))
IsSayable profiles (command.Publish profile) = profile < profiles

-- a profile's line, where its model has no statement
abbrev pub profile_line : Profile → List ℕ
profile_line profile = spaced (codes "profile" ∷ profile.name ∷ vehicle_word profile.vehicle ∷ [])

abbrev pub actor_line : List ℕ → List ℕ
actor_line name = spaced (codes "actor" ∷ name ∷ [])

abbrev pub command_line : List Profile → List (List ℕ) → Line → List ℕ
command_line profiles actors line = spaced (slice_index_or actors line.actor [] ∷ command_words profiles line.command)

-- the commands of each phase, and a line `sync` between phases
abbrev pub phases_lines : List Profile → List (List ℕ) → List (List Line) → List (List ℕ)
phases_lines profiles actors [] = []
phases_lines profiles actors (phase ∷ []) = map (command_line profiles actors) phase
phases_lines profiles actors (phase ∷ next ∷ phases) = map (command_line profiles actors) phase ++ codes "sync" ∷ phases_lines profiles actors (next ∷ phases)

-- profiles, the journal, actors, and what they ask for
abbrev pub script_lines : List Profile → Script → List (List ℕ)
script_lines profiles script =
    map profile_line profiles ++ spaced (codes "journal" ∷ decimal script.capacity ∷ []) ∷ (map actor_line script.actors ++ phases_lines profiles script.actors script.phases)

abbrev pub script_text : List Profile → Script → List ℕ
script_text profiles script = lines_text (script_lines profiles script)

-- a script of one phase or more that can be written: no profile's model has a statement, and each command can be said
pub record IsWritable (profiles : List Profile) (script : Script) : Type 0 where
  pub some : 0 < length script.phases
  pub models : All (λ profile. profile.model ≡ no_model) profiles
  pub commands : All (λ line. IsSayable (length profiles) line.command) (lines_of script.phases)
