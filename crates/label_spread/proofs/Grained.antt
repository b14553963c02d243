-- The hops that are wanted, with weights in whole grains.
use Rattle.std.proofs.Common.{◌≡◌, ℕ, Bool, List, [], ◌∷◌, refl, ap, ◌∙◌}
use Rattle.std.specs.Prelude.{map}
use Rattle.gh_base.specs.declared.edges.Hop.{Hop}
use Rattle.gh_base.specs.Networks.{wanted_from}
use Rattle.gh_base.proofs.Wanted.{wanted_map}
use Rattle.walk_rules.specs.Distances.{rounded_hop}

pub grained_first : (P : ℕ → Bool) (grain : ℕ) (left : List Hop) (hop : Hop) (rest : List Hop) → wanted_from P left ≡ hop ∷ rest → wanted_from P (map (rounded_hop grain) left) ≡ rounded_hop grain hop ∷ map (rounded_hop grain) rest
grained_first P grain left hop rest e = wanted_map P (rounded_hop grain) (λ h. refl) left ∙ ap (map (rounded_hop grain)) e

pub grained_none : (P : ℕ → Bool) (grain : ℕ) (left : List Hop) → wanted_from P left ≡ [] → wanted_from P (map (rounded_hop grain) left) ≡ []
grained_none P grain left e = wanted_map P (rounded_hop grain) (λ h. refl) left ∙ ap (map (rounded_hop grain)) e
