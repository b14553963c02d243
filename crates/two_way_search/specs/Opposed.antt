-- What a search from both ends is given (of this crate alone).
use Rattle.std.specs.Prelude.{ℕ, Option}
use Rattle.gh_base.specs.Networks.{Network}
use Rattle.walk_rules.specs.Potentials.{IsFeasible}
use Rattle.walk_rules.specs.Turned.{IsTurned}

-- roads and the same turned round, a bound on what is left to the target, and one on what lies behind from the start
pub record AreOpposed (out back : Network) (ahead behind : ℕ → Option ℕ) (start target : ℕ) : Type 0 where
  pub turned : IsTurned out back
  pub left : IsFeasible out ahead target
  pub passed : IsFeasible back behind start
