-- The lines that come before all commands: profiles, the journal, actors.
use Rattle.std.specs.Prelude.{ℕ, List, [], ◌∷◌, Option, Some, None, Result, Ok, Err, position, codes, if◌then◌else◌}
use Rattle.std.specs.Str.{bytes_eq}
use Rattle.gh_base.specs.declared.kinds.ScriptKind.{ScriptKind}
use Rattle.gh_base.specs.declared.kinds.ScriptKind.TheVariants as kind
use Rattle.gh_base.specs.declared.query.Vehicle.{Vehicle}
use Rattle.gh_base.specs.declared.query.Vehicle.TheVariants.{Car, Bike, Foot}
use Rattle.model_eval.specs.declared.custom_model.CustomModel.{CustomModel}
use Rattle.weighting.specs.declared.profile.Profile.{Profile}
use Rattle.model_eval.specs.Models.{no_model}
use Rattle.script_text.specs.Commands.{place_in, name, count}
use Rattle.script_text.specs.LineReading.{◌>>=◌, ◌>>◌, Reader, pure, fault, known, next, word_as, last, rest}
use Rattle.script_text.specs.ModelTexts.{model_at}

-- the number of the actor of a name
abbrev pub actor_in : List (List ℕ) → List ℕ → Option ℕ
actor_in actors name = position (λ actor. bytes_eq actor name) actors

-- what stands for the first time
abbrev pub fresh : ℕ → Option ℕ → Reader (Unit {0})
fresh byte None = pure tt
fresh byte (Some place) = fault byte kind.Twice

abbrev pub vehicle_of : List ℕ → Option Vehicle
vehicle_of word =
    if bytes_eq word (codes "car") then Some Car
    else if bytes_eq word (codes "bike") then Some Bike
    else if bytes_eq word (codes "foot") then Some Foot
    else None

abbrev pub vehicle : Reader Vehicle
vehicle = word_as kind.Word vehicle_of

abbrev pub at_byte : {A : Type 0} → ℕ → Result A ScriptKind → Reader A
at_byte byte (Ok x) = pure x
at_byte byte (Err kind) = fault byte kind

-- the rest of a line as a model; no rest, no statement
abbrev pub model_with : Option (ℕ × List ℕ) → Reader CustomModel
model_with None = pure no_model
model_with (Some text) = at_byte text.0 (model_at text.1)

abbrev pub model : Reader CustomModel
model = rest >>= model_with

-- a name that isn't known
abbrev pub new_name : (List ℕ → Option ℕ) → Reader (List ℕ)
new_name known_as = name >>= (λ p. fresh p.0 (known_as p.1) >>= (λ _. pure p.1))

-- a name, a vehicle, and maybe a model
unfoldable pub profile_line : List Profile → Reader Profile
profile_line profiles = do
  called ← new_name (place_in profiles)
  drives ← vehicle
  m ← model
  pure (record { name = called; vehicle = drives; model = m })

-- the most entries, once
unfoldable pub journal_line : Option ℕ → Reader ℕ
journal_line journal = do
  fresh 0 journal
  n ← count 1 65536
  last
  pure n

-- a name
unfoldable pub actor_line : List (List ℕ) → Reader (List ℕ)
actor_line actors = do
  called ← new_name (actor_in actors)
  last
  pure called
