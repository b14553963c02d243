-- Tests of hops never fail at a hop that is barred.
use Rattle.std.specs.Prelude.{◌≡◌, ℕ, Bool, true, false, Option, None, refl}
use Rattle.std.proofs.Common.{ap, ◌∙◌}
use Rattle.gh_base.specs.declared.edges.Hop.{Hop}
use Rattle.walk_rules.specs.Evidence.{is_violated, violates, is_out, leads_out}

pub barred_violates : (label : ℕ → Option ℕ) (tail : ℕ) (hop : Hop) → hop.weight ≡ None → violates label tail hop ≡ false
barred_violates label tail hop e = ap (λ w. is_violated (label tail) w (label hop.to.0)) e

pub barred_leads : (has : ℕ → Bool) (tail : ℕ) (hop : Hop) → hop.weight ≡ None → leads_out has tail hop ≡ false
barred_leads has tail hop e = ap (λ w. is_out (has tail) w (has hop.to.0)) e ∙ nowhere (has tail) (has hop.to.0)
  where
    nowhere : (a b : Bool) → is_out a None b ≡ false
    nowhere true b = refl
    nowhere false b = refl
