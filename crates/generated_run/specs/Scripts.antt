-- The script of a size N over so many edges: one actor lowers eight limits while another prepares; then that is published; then four ask for four routes each.
use Rattle.std.specs.Prelude.{ℕ, ◌+◌, ◌*◌, ◌/◌, ◌%◌, false, pos, List, [], ◌∷◌, map, codes}
use Rattle.std.specs.List.{range_with_len}
use Rattle.gh_base.specs.declared.query.Place.{Place}
use Rattle.gh_base.specs.declared.query.Place.TheVariants as place
use Rattle.weighting.specs.declared.profile.Profile.{Profile}
use Rattle.script_text.specs.declared.script.Command.TheVariants as command
use Rattle.script_text.specs.declared.script.Line.{Line}
use Rattle.script_text.specs.declared.script.Script.{Script}
use Rattle.script_text.specs.Commands.{with_default}
use Rattle.generated_run.specs.Draws.{draw}

abbrev pub names : List (List ℕ)
names = codes "f" ∷ codes "p" ∷ codes "s0" ∷ codes "s1" ∷ codes "s2" ∷ codes "s3" ∷ []

-- no line declares a profile
abbrev pub profiles : List Profile
profiles = with_default []

-- the lowerings of f, by number from 0: the edge is the draw modulo the edges, and the limit 10 km/h
abbrev pub lowering_by : ℕ → ℕ → ℕ → Line
lowering_by edges k drawn = record { actor = 0; number = k + 1; command = command.Lower (drawn % edges) false 10000 }

-- the draws follow those of the ways
abbrev pub lowering_at : ℕ → ℕ → ℕ → Line
lowering_at size edges k = lowering_by edges k (draw size (2 * size + k))

-- some node, by a draw
abbrev pub place_by : ℕ → ℕ → Place
place_by size drawn = place.Id (pos (drawn % (size * size) + 1))

-- the routes, by number from 0: four of each of s0 to s3
abbrev pub route_by : ℕ → ℕ → ℕ → ℕ → Line
route_by size k start target =
    record { actor = k / 4 + 2; number = k % 4 + 1; command = command.Route (place_by size start) (place_by size target) false }

-- the draws follow those of the lowerings, two for each route
abbrev pub route_at : ℕ → ℕ → Line
route_at size k = route_by size k (draw size (2 * size + 8 + 2 * k)) (draw size (2 * size + 8 + 2 * k + 1))

abbrev pub preparing : Line
preparing = record { actor = 1; number = 1; command = command.Prepare 0 4 }

abbrev pub publishing : Line
publishing = record { actor = 1; number = 2; command = command.Publish 0 }

abbrev pub phases_of : ℕ → ℕ → List (List Line)
phases_of size edges =
    (preparing ∷ map (lowering_at size edges) (range_with_len 0 8)) ∷ (publishing ∷ []) ∷ map (route_at size) (range_with_len 0 16) ∷ []

-- the script of a size; no line sets its journal, so there is room for each change
unfoldable pub script_of : ℕ → ℕ → Script
script_of size edges = record { capacity = 9; actors = names; phases = phases_of size edges }
