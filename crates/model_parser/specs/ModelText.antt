-- A custom model as a JSON value (GraphHopper documentation, "Custom models"), or its first fault: of the top, and then
-- of the areas, the speed, the priority and the distance influence.
use Rattle.std.specs.Prelude.{◌≡◌, ℕ, ◌/◌, ◌%◌, ◌^◌, ℤ, Bool, ◌||◌, ◌==◌, not, List, Option, Some, None, Result, Ok, Err, nat_lt, codes, if◌then◌else◌}
use Rattle.std.specs.List.{list_all}
use Rattle.std.specs.Str.{bytes_eq}
use Rattle.gh_base.specs.Decimals.{decimal_of}
use Rattle.gh_base.specs.declared.kinds.Part.TheVariants as part
use Rattle.gh_base.specs.declared.kinds.ModelKind.{ModelKind}
use Rattle.gh_base.specs.declared.kinds.ModelKind.TheVariants as kind
use Rattle.exact_json.specs.Decimals.{DecimalValue}
use Rattle.exact_json.specs.declared.value.Json.{Json}
use Rattle.exact_json.specs.declared.value.Member.{Member, out-Member}
use Rattle.model_eval.specs.declared.custom_model.Running.TheVariants.{Speed, Priority}
use Rattle.model_eval.specs.declared.custom_model.CustomModel.{CustomModel}
use Rattle.model_texts.specs.declared.fault.BadText.{BadText}
use Rattle.model_texts.specs.Amounts.{within, front_of}
use Rattle.model_parser.specs.Faults.{Outcome, ◌>>=◌, ◌>>◌, pure, fault, known, must, in_text}
use Rattle.model_parser.specs.Values.{object_of, text_of, number_of, find}
use Rattle.model_parser.specs.Features.{areas_of}
use Rattle.model_parser.specs.Statements.{statements_of}

abbrev pub is_key : List ℕ → Bool
is_key key = bytes_eq key (codes "speed") || bytes_eq key (codes "priority") || bytes_eq key (codes "distance_influence") || bytes_eq key (codes "areas")

abbrev pub are_keys : List Member → Bool
are_keys ms = list_all (λ m. is_key (out-Member m).key) ms

-- a whole number of at most 100000; places that are all 0 may stand behind it
unfoldable pub whole_number : DecimalValue → Option ℕ
whole_number d =
    if d.negative || not (d.digits % 10 ^ d.places == 0) || nat_lt 100000 (d.digits / 10 ^ d.places) then None
    else Some (d.digits / 10 ^ d.places)

abbrev pub in_bounds : Option ℕ → Result ℕ (ℕ × ModelKind)
in_bounds (Some n) = Ok n
in_bounds None = Err (0, kind.Number)

-- a whole number as a text: what is none is refused behind its longest front, what is out of bounds at its first byte
abbrev pub by_whole : List ℕ → Option ℤ → Result ℕ (ℕ × ModelKind)
by_whole text (Some z) = in_bounds (within 100000 z)
by_whole text None = Err (front_of 0 text, kind.Number)

unfoldable pub whole_text : List ℕ → Result ℕ (ℕ × ModelKind)
whole_text text = by_whole text (decimal_of 0 text)

-- what is answered is the outcome
abbrev pub AnswersWhole : Result ℕ (ℕ × ModelKind) → Result ℕ BadText → Type 0
AnswersWhole outcome (Ok n) = outcome ≡ Ok n
AnswersWhole outcome (Err bad) = outcome ≡ Err (bad.byte, bad.kind)

-- a distance influence is a number or a string
abbrev pub influence_by : Option (List ℕ) → Option DecimalValue → Outcome ℕ
influence_by (Some text) number = in_text part.Influence 0 (whole_text text)
influence_by None (Some d) = known part.Influence 0 kind.Number (whole_number d)
influence_by None None = fault part.Influence 0 kind.Number

abbrev pub influence_in : Json → Outcome ℕ
influence_in v = influence_by (text_of v) (number_of v)

abbrev pub influence_of : Option Json → Outcome (Option ℕ)
influence_of None = pure None
influence_of (Some v) = influence_in v >>= λ n. pure (Some n)

-- the model that a value is, or its first fault
unfoldable pub model_of : Json → Outcome CustomModel
model_of v = do
  members ← known part.Top 0 kind.NotObject (object_of v)
  must part.Top 0 kind.UnknownKey (are_keys members)
  areas ← areas_of (find (codes "areas") members)
  speed ← statements_of Speed areas (find (codes "speed") members)
  priority ← statements_of Priority areas (find (codes "priority") members)
  influence ← influence_of (find (codes "distance_influence") members)
  pure (record { speed = speed; priority = priority; distance_influence = influence; areas = areas })
