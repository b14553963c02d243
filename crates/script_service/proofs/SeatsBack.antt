-- An actor that was lent comes back the same.
use Rattle.std.proofs.Common.{◌≡◌, ℕ, ◌<◌, List, length, get_or, ◌∙◌}
use Rattle.std.proofs.lemmas.List.{get_or_default, set-get_or}
use Rattle.std.proofs.Math.ListN.{set}
use Rattle.script_service.specs.Actors.{Acting}

pub actor_back : (actors before : List Acting) (i : ℕ) (d a : Acting) → actors ≡ before → a ≡ get_or actors i d → set actors i a ≡ before
actor_back actors before i d a was same = rw same (set-get_or actors i d) ∙ was

pub actor_at : (xs ys : List Acting) (i : ℕ) (d e : Acting) → xs ≡ ys → i < length ys → get_or xs i d ≡ get_or ys i e
actor_at xs ys i d e same below = rw same (get_or_default ys i d e below)
