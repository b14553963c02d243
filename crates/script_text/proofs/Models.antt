-- The profile that stands where none is declared.
use Rattle.std.proofs.Common.{[], refl, arith}
use Rattle.std.specs.Prelude.{None, IsTrue, codes}
use Rattle.std.proofs.lemmas.List.Elements.{All-push, All-nil}
use Rattle.model_eval.proofs.NoStatement.{nothing_is_model}
use Rattle.script_text.specs.Commands.{with_default}
use Rattle.script_text.specs.Names.{is_name}
use Rattle.script_text.specs.Scripts.{IsProfile, AreProfiles}

car_is_name : IsTrue (is_name (codes "car"))
unfolding is_name
car_is_name = refl

-- the default alone
pub default_profile : AreProfiles (with_default [])
default_profile = record {
  few = omega arith;
  each = All-push IsProfile [] _ (All-nil IsProfile) (record { name = car_is_name; model = nothing_is_model None });
  different = λ i j d lt below. absurd (omega arith);
}
