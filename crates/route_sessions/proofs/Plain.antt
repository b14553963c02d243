-- The model without a statement, and the profile of a number.
use Rattle.std.proofs.Common.{◌≡◌, ℕ, List, Some, None, slice_get, refl}
use Rattle.std.proofs.lemmas.Option.{get_or_from_slice_get}
use Rattle.model_eval.specs.declared.custom_model.CustomModel.{CustomModel}
use Rattle.model_eval.specs.Models.{no_model}
use Rattle.model_eval.specs.Slowing.{offender}
use Rattle.weighting.specs.declared.profile.Profile.{Profile}
use Rattle.weighting.specs.Profiles.{profile_at}

-- it slows every profile
pub nothing_offends : (profile : CustomModel) → offender profile no_model ≡ None
unfolding offender
nothing_offends profile = refl

pub at_number : (profiles : List Profile) (n : ℕ) (p : Profile) → slice_get profiles n ≡ Some p → profile_at profiles n ≡ p
at_number profiles n p e = get_or_from_slice_get profiles n p _ e
