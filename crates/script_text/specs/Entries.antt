-- The lines of the journal: an entry's place, the actor's name, the command's number, and the change.
use Rattle.std.specs.Prelude.{ℕ, List, [], ◌∷◌, ◌++◌, map, codes, decimal, slice_index_or}
use Rattle.weighting.specs.declared.profile.Profile.{Profile}
use Rattle.script_text.specs.declared.noted.Noted.{Noted}
use Rattle.script_text.specs.declared.noted.Noted.TheVariants as noted
use Rattle.script_text.specs.Replies.{edge_text}

-- a profile's name by number
abbrev pub profile_name : List Profile → ℕ → List ℕ
profile_name profiles number = slice_index_or (map (λ (profile : Profile). profile.name) profiles) number []

-- what an entry changes: an edge's limit in milli-km/h, or the preparation of a profile
abbrev pub noted_text : List Profile → Noted → List ℕ
noted_text profiles (noted.Lower edge speed) = codes "lower " ++ (edge_text edge ++ (codes " " ++ decimal speed))
noted_text profiles (noted.Restore edge speed) = codes "restore " ++ (edge_text edge ++ (codes " " ++ decimal speed))
noted_text profiles (noted.Publish profile) = codes "publish " ++ profile_name profiles profile

-- PLACE NAME NUMBER CHANGE, and a newline
unfoldable pub entry_line : List Profile → ℕ → List ℕ → ℕ → Noted → List ℕ
entry_line profiles place name number change =
    decimal place ++ (codes " " ++ (name ++ (codes " " ++ (decimal number ++ (codes " " ++ (noted_text profiles change ++ 10 ∷ []))))))
