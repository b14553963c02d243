-- Blocks beside one pass over the statements.
use Rattle.std.proofs.Common.{◌≡◌, ℕ, Bool, true, false, List, refl}
use Rattle.encoded_values.specs.Values.{Values}
use Rattle.model_eval.specs.declared.custom_model.Running.{Running}
use Rattle.model_eval.specs.declared.custom_model.Statement.{Statement}
use Rattle.model_eval.specs.Running.{act_of, chosen, blocks, run_blocks, run}

-- what a pass still makes of a number, once a statement of the block was taken or not
abbrev pub pass : Running → Bool → List Statement → Values → ℕ → ℕ → ℕ
pass running true ss values areas x = run_blocks running (blocks ss).1 values areas x
pass running false ss values areas x =
    run_blocks running (blocks ss).1 values areas (act_of running (chosen values areas (blocks ss).0) values x)

pub from_start : (running : Running) (ss : List Statement) (values : Values) (areas x : ℕ) → pass running true ss values areas x ≡ run running ss values areas x
unfolding run
from_start running ss values areas x = refl
