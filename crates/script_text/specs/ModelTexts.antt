-- A model as the text of JSON that a line ends with.
use Rattle.std.specs.Prelude.{ℕ, List, Result, Ok, Err}
use Rattle.gh_base.specs.declared.kinds.JsonKind.{JsonKind}
use Rattle.gh_base.specs.declared.kinds.ModelKind.{ModelKind}
use Rattle.gh_base.specs.declared.kinds.Place3.{Place3}
use Rattle.gh_base.specs.declared.kinds.ScriptKind.{ScriptKind}
use Rattle.gh_base.specs.declared.kinds.ScriptKind.TheVariants as kind
use Rattle.exact_json.specs.declared.value.Json.{Json}
use Rattle.exact_json.specs.Values.{reads}
use Rattle.model_eval.specs.declared.custom_model.CustomModel.{CustomModel}
use Rattle.model_parser.specs.ModelText.{model_of}

abbrev pub as_model : Result CustomModel (Place3 × ModelKind) → Result CustomModel ScriptKind
as_model (Ok model) = Ok model
as_model (Err fault) = Err kind.Model

abbrev pub as_json : Result Json (ℕ × JsonKind) → Result CustomModel ScriptKind
as_json (Ok json) = as_model (model_of json)
as_json (Err fault) = Err kind.Json

-- the model that a text is
unfoldable pub model_at : List ℕ → Result CustomModel ScriptKind
model_at text = as_json (reads text)
