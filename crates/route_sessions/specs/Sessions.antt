-- Rules of queries: a profile and a model that only slows it (GraphHopper documentation, "Custom models").
use Rattle.std.specs.Prelude.{◌≡◌, ◌<◌, ℕ, List, [], ◌∷◌, length, Option, Some, None, Result, Ok, Err}
use Rattle.gh_base.specs.declared.kinds.JsonKind.{JsonKind}
use Rattle.gh_base.specs.declared.kinds.ModelKind.{ModelKind}
use Rattle.gh_base.specs.declared.kinds.Place3.{Place3}
use Rattle.exact_json.specs.declared.value.Json.{Json}
use Rattle.exact_json.specs.Values.{reads}
use Rattle.model_eval.specs.declared.custom_model.CustomModel.{CustomModel}
use Rattle.model_eval.specs.Models.{no_model}
use Rattle.model_eval.specs.Slowing.{Offence, offender}
use Rattle.model_parser.specs.ModelText.{model_of}
use Rattle.weighting.specs.declared.profile.Profile.{Profile}
use Rattle.weighting.specs.Profiles.{profile_at}
use Rattle.route_sessions.specs.declared.session.ModelReply.{ModelReply}
use Rattle.route_sessions.specs.declared.session.ModelReply.TheVariants as reply

-- a model without an offender
abbrev pub slow : CustomModel → Option Offence → Result CustomModel ModelReply
slow model None = Ok model
slow model (Some o) = Err (reply.Speeds (record { part = o.part; item = o.item; value = o.value }))

-- a value that is a model
abbrev pub as_model : CustomModel → Result CustomModel (Place3 × ModelKind) → Result CustomModel ModelReply
as_model profile (Ok model) = slow model (offender profile model)
as_model profile (Err fault) = Err (reply.BadModel fault.0 fault.1)

-- a text that is JSON
abbrev pub as_json : CustomModel → Result Json (ℕ × JsonKind) → Result CustomModel ModelReply
as_json profile (Ok json) = as_model profile (model_of json)
as_json profile (Err fault) = Err (reply.BadJson fault.0 fault.1)

-- the model that a text is under a profile's model, or why it is none; the empty text has no statement
unfoldable pub rule_of : CustomModel → List ℕ → Result CustomModel ModelReply
rule_of profile [] = Ok no_model
rule_of profile (b ∷ text) = as_json profile (reads (b ∷ text))

-- a rule: a profile, by its number, and a model that slows it
pub record InForce : Type 0 where
  pub profile : ℕ
  pub model : CustomModel

-- a session begins with the first profile, and no statement
abbrev pub first_rule : InForce
first_rule = record { profile = 0; model = no_model }

-- a text that is a model is taken
abbrev pub reply_by : Result CustomModel ModelReply → ModelReply
reply_by (Ok model) = reply.Taken
reply_by (Err why) = why

-- what a text is answered under a profile
abbrev pub reply_to : List Profile → ℕ → List ℕ → ModelReply
reply_to profiles profile text = reply_by (rule_of (profile_at profiles profile).model text)

-- a text that is refused leaves the rule as it was
abbrev pub rule_by : InForce → ℕ → Result CustomModel ModelReply → InForce
rule_by rule profile (Ok model) = record { profile = profile; model = model }
rule_by rule profile (Err why) = rule

-- the rule in force behind a text under a profile
abbrev pub rule_with : List Profile → InForce → ℕ → List ℕ → InForce
rule_with profiles rule profile text = rule_by rule profile (rule_of (profile_at profiles profile).model text)

-- the profile is there, and the model slows it
pub record IsInForce (profiles : List Profile) (rule : InForce) : Type 0 where
  pub profile : rule.profile < length profiles
  pub slow : offender (profile_at profiles rule.profile).model rule.model ≡ None
