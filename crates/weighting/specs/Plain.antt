-- Where no statement runs. These words are private: no clause of a public function cites them.
use Rattle.std.specs.Prelude.{Bool, true, false, ◌&&◌, List, [], ◌∷◌, Option, Some, None}
use Rattle.model_eval.specs.declared.custom_model.Statement.{Statement}
use Rattle.model_eval.specs.declared.custom_model.CustomModel.{CustomModel}
use Rattle.weighting.specs.Rules.{Rule}

-- no statement
abbrev pub has_none : List Statement → Bool
has_none [] = true
has_none (statement ∷ statements) = false

-- a model without statements
abbrev pub is_plain : CustomModel → Bool
is_plain model = has_none model.speed && has_none model.priority

-- no model is one without statements
abbrev pub is_plain_if : Option CustomModel → Bool
is_plain_if None = true
is_plain_if (Some model) = is_plain model

-- a rule by which no statement runs
abbrev pub has_no_statement : Rule → Bool
has_no_statement rule = is_plain rule.profile && is_plain_if rule.query
