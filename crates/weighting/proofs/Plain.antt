-- Models and rules without statements.
use Rattle.std.proofs.Common.{◌≡◌, ℕ, ◌+◌, ◌<◌, Bool, true, false, ◌&&◌, List, [], ◌∷◌, Option, Some, None, refl, ◌∙◌, arith}
use Rattle.std.specs.Prelude.{◌==◌, ◌↔◌, IsTrue}
use Rattle.std.proofs.lemmas.Bool.Decides.{nat_tests}
use Rattle.gh_base.specs.declared.edges.DirEdge.{DirEdge}
use Rattle.encoded_values.specs.Values.{Values}
use Rattle.base_graph.specs.Graphs.{Graph}
use Rattle.model_eval.specs.Running.{run}
use Rattle.model_eval.specs.declared.custom_model.Running.{Running}
use Rattle.model_eval.specs.declared.custom_model.Running.TheVariants.{Speed, Priority}
use Rattle.model_eval.specs.declared.custom_model.Statement.{Statement}
use Rattle.model_eval.specs.declared.custom_model.CustomModel.{CustomModel}
use Rattle.weighting.specs.Rules.{Rule}
use Rattle.weighting.specs.Weights.{values_at, areas_in, list_of, run_of, run_if, run_by, first_speed, first_priority, influence_by, time_at, distance_share, weight_if, weight_by}
use Rattle.weighting.specs.Plain.{has_none, is_plain, is_plain_if, has_no_statement}

-- no statement changes nothing
pub unmoved : (running : Running) (statements : List Statement) (values : Values) (areas x : ℕ) → statements ≡ [] → x ≡ run running statements values areas x
unfolding run
unmoved running [] values areas x none = refl
unmoved running (s ∷ statements) values areas x none = absurd (cc)

pub has_none_is : (empty : Bool) (statements : List Statement) → IsTrue empty ↔ (statements ≡ []) → empty ≡ has_none statements
has_none_is true [] h = refl
has_none_is false [] h = absurd (let e : false ≡ true = h.1 refl in cc)
has_none_is true (s ∷ statements) h = absurd (let e : s ∷ statements ≡ [] = h.0 refl in cc)
has_none_is false (s ∷ statements) h = refl

none_of : (statements : List Statement) → has_none statements ≡ true → statements ≡ []
none_of [] e = refl
none_of (s ∷ statements) e = absurd cc

both : (a b : Bool) → (a && b) ≡ true → (a ≡ true) × (b ≡ true)
both true b e = (refl, e)
both false b e = absurd cc

plain_list : (running : Running) (model : CustomModel) → is_plain model ≡ true → list_of running model ≡ []
plain_list Speed model e = none_of model.speed (both (has_none model.speed) (has_none model.priority) e).0
plain_list Priority model e = none_of model.priority (both (has_none model.speed) (has_none model.priority) e).1

plain_of : (running : Running) (model : CustomModel) (graph : Graph) (by : DirEdge) (x : ℕ) → is_plain model ≡ true → x ≡ run_of running model graph by x
plain_of running model graph by x e = unmoved running (list_of running model) (values_at graph by) (areas_in model graph by) x (plain_list running model e)

plain_if : (running : Running) (query : Option CustomModel) (graph : Graph) (by : DirEdge) (x : ℕ) → is_plain_if query ≡ true → x ≡ run_if running query graph by x
plain_if running None graph by x e = refl
plain_if running (Some model) graph by x e = plain_of running model graph by x e

plain_run : (running : Running) (rule : Rule) (graph : Graph) (by : DirEdge) (x : ℕ) → has_no_statement rule ≡ true → x ≡ run_by running rule graph by x
plain_run running rule graph by x e =
    let parts = both (is_plain rule.profile) (is_plain_if rule.query) e in
    plain_of running rule.profile graph by x parts.0
    ∙ plain_if running rule.query graph by (run_of running rule.profile graph by x) parts.1

not_zero : (n : ℕ) → 0 < n → (n == 0) ≡ false
not_zero n some = grind (arith, nat_tests)

weight_at : (start speed priority influence mm : ℕ) → 0 < start → start ≡ speed → 1000000 ≡ priority → Some (time_at start 1000000 mm + distance_share influence mm) ≡ weight_if start speed priority influence mm
unfolding weight_if
weight_at start speed priority influence mm some s p =
    rw (← s, ← p, not_zero start some) refl

-- so the weight is that of the speed to start from
pub plain_weight : (rule : Rule) (graph : Graph) (by : DirEdge) (limit mm : ℕ) → has_no_statement rule ≡ true → 0 < first_speed rule graph by limit
    → Some (time_at (first_speed rule graph by limit) 1000000 mm + distance_share (influence_by rule) mm) ≡ weight_by rule graph by limit mm
unfolding weight_by
plain_weight rule graph by limit mm e some =
    let start = first_speed rule graph by limit in
    weight_at start (run_by Speed rule graph by start) (run_by Priority rule graph by first_priority) (influence_by rule) mm some
    (plain_run Speed rule graph by start e) (plain_run Priority rule graph by first_priority e)
