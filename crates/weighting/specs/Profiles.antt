-- Profiles by number, and the one that stands where none is declared.
use Rattle.std.specs.Prelude.{ℕ, List, [], codes, slice_index_or}
use Rattle.gh_base.specs.declared.query.Vehicle.TheVariants.{Car}
use Rattle.model_eval.specs.Models.{no_model}
use Rattle.weighting.specs.declared.profile.Profile.{Profile}

-- the profile of cars whose model has no statement, named car
abbrev pub car_profile : Profile
car_profile = record { name = codes "car"; vehicle = Car; model = no_model }

-- what stands where no profile does
abbrev pub no_profile : Profile
no_profile = record { name = []; vehicle = Car; model = no_model }

-- a profile by number
abbrev pub profile_at : List Profile → ℕ → Profile
profile_at profiles n = slice_index_or profiles n no_profile
