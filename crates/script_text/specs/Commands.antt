-- What an actor asks for: the words behind its name.
use Rattle.std.specs.Prelude.{ℕ, Bool, true, false, List, [], ◌∷◌, Option, Some, None, position, codes, if◌then◌else◌}
use Rattle.std.specs.Str.{bytes_eq}
use Rattle.gh_base.specs.declared.kinds.ScriptKind.TheVariants as kind
use Rattle.gh_base.specs.declared.query.Place.{Place}
use Rattle.weighting.specs.declared.profile.Profile.{Profile}
use Rattle.weighting.specs.Profiles.{car_profile}
use Rattle.script_text.specs.declared.script.Command.{Command}
use Rattle.script_text.specs.declared.script.Command.TheVariants as command
use Rattle.script_text.specs.declared.commands.Verb.{Verb}
use Rattle.script_text.specs.declared.commands.Verb.TheVariants as verbs
use Rattle.script_text.specs.Fields.{place_of, edge_of, speed_of, count_of}
use Rattle.script_text.specs.LineReading.{◌>>=◌, ◌>>◌, Reader, pure, fault, known, next, word_as, last, rest}
use Rattle.script_text.specs.Names.{is_name}

-- where no line declares one there is one profile, of cars, whose model has no statement
abbrev pub with_default : List Profile → List Profile
with_default [] = car_profile ∷ []
with_default (profile ∷ profiles) = profile ∷ profiles

-- the number of the profile of a name
abbrev pub place_in : List Profile → List ℕ → Option ℕ
place_in profiles name = position (λ profile. bytes_eq profile.name name) profiles

-- a name, with its byte
abbrev pub name : Reader (ℕ × List ℕ)
name = next >>= (λ p. if is_name p.1 then pure p else fault p.0 kind.Name)

-- the name of a profile, by its number
unfoldable pub profile_in : List Profile → Reader ℕ
profile_in profiles = name >>= (λ p. known p.0 kind.NoProfile (place_in profiles p.1))

abbrev pub place : Reader Place
place = word_as kind.Place place_of

abbrev pub edge : Reader (ℕ × Bool)
edge = word_as kind.Number edge_of

abbrev pub speed : Reader ℕ
speed = word_as kind.Number speed_of

abbrev pub count : ℕ → ℕ → Reader ℕ
count least most = word_as kind.Number (count_of least most)

abbrev pub text_of : Option (ℕ × List ℕ) → List ℕ
text_of None = []
text_of (Some p) = p.1

-- the rest of the line
abbrev pub text : Reader (List ℕ)
text = rest >>= (λ found. pure (text_of found))

-- a profile, and maybe a model
unfoldable pub model : List Profile → Reader Command
model profiles = do
  profile ← profile_in profiles
  words ← text
  pure (command.Model profile words)

-- two places
unfoldable pub route : Bool → Reader Command
route labels = do
  start ← place
  target ← place
  last
  pure (command.Route start target labels)

-- an edge with its direction, and a speed
unfoldable pub lower : Reader Command
lower = do
  e ← edge
  s ← speed
  last
  pure (command.Lower e.0 e.1 s)

unfoldable pub restore : Reader Command
restore = do
  e ← edge
  s ← speed
  last
  pure (command.Restore e.0 e.1 s)

-- a profile, and a number of landmarks
unfoldable pub prepare : List Profile → Reader Command
prepare profiles = do
  profile ← profile_in profiles
  n ← count 1 16
  last
  pure (command.Prepare profile n)

-- a profile
unfoldable pub publish : List Profile → Reader Command
publish profiles = do
  profile ← profile_in profiles
  last
  pure (command.Publish profile)

abbrev pub verb_of : List ℕ → Option Verb
verb_of word =
    if bytes_eq word (codes "model") then Some verbs.Model
    else if bytes_eq word (codes "route") then Some verbs.Route
    else if bytes_eq word (codes "labels") then Some verbs.Labels
    else if bytes_eq word (codes "lower") then Some verbs.Lower
    else if bytes_eq word (codes "restore") then Some verbs.Restore
    else if bytes_eq word (codes "prepare") then Some verbs.Prepare
    else if bytes_eq word (codes "publish") then Some verbs.Publish
    else None

abbrev pub command_by : List Profile → Verb → Reader Command
command_by profiles verbs.Model = model profiles
command_by profiles verbs.Route = route false
command_by profiles verbs.Labels = route true
command_by profiles verbs.Lower = lower
command_by profiles verbs.Restore = restore
command_by profiles verbs.Prepare = prepare profiles
command_by profiles verbs.Publish = publish profiles

abbrev pub verb : Reader Verb
verb = word_as kind.Word verb_of

-- a verb, and what it speaks of
unfoldable pub command_of : List Profile → Reader Command
command_of profiles = verb >>= command_by profiles
