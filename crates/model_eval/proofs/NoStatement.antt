-- Where there is no statement, the rest of a model makes it one that only slows.
use Rattle.std.proofs.Common.{ℕ, [], Option, refl, arith}
use Rattle.std.proofs.lemmas.List.Elements.{All-nil}
use Rattle.model_eval.specs.Models.{IsStatement, AreStatements, IsModel}
use Rattle.model_eval.specs.Slowing.{IsSlow}

no_statements : (areas : ℕ) → AreStatements areas []
no_statements areas = record { few = omega arith; in_blocks = refl; each = All-nil (IsStatement areas) }

pub nothing_is_model : (influence : Option ℕ) → IsModel (record { speed = []; priority = []; distance_influence = influence; areas = [] })
nothing_is_model influence = record { speed = no_statements 0; priority = no_statements 0; areas = omega arith }

pub nothing_is_slow : (influence : Option ℕ) → IsSlow (record { speed = []; priority = []; distance_influence = influence; areas = [] })
nothing_is_slow influence = record { speed = refl; priority = refl }
