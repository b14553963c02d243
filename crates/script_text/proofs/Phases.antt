-- What each script that is read says of its profiles, and of its lines phase by phase.
use Rattle.std.proofs.Common.{◌≡◌, ℕ, ◌+◌, ◌<◌, List, [], ◌∷◌, ◌++◌, length, get_or, arith, subst, length-append}
use Rattle.std.specs.Prelude.{All}
use Rattle.std.proofs.lemmas.List.{get_or_append_left, get_or-append-add}
use Rattle.std.proofs.lemmas.List.Elements.{All-nil, All-cons}
use Rattle.model_eval.specs.Models.{IsModel}
use Rattle.weighting.specs.declared.profile.Profile.{Profile}
use Rattle.script_text.specs.declared.script.Line.{Line}
use Rattle.script_text.specs.declared.script.Script.{Script}
use Rattle.script_text.specs.Scripts.{IsScript, IsLine, lines_of}

all_front : (P : Line → Type 0) (xs ys : List Line) → All P (xs ++ ys) → All P xs
all_front P xs ys h k d lt = subst (λ (x : Line). P x) (get_or_append_left xs ys d k lt) (h k d (omega (arith, length-append xs ys)))

all_back : (P : Line → Type 0) (xs ys : List Line) → All P (xs ++ ys) → All P ys
all_back P xs ys h k d lt = subst (λ (x : Line). P x) (get_or-append-add xs ys k d) (h (length xs + k) d (omega (arith, length-append xs ys)))

-- what is so of all lines is so of those of each phase
pub by_phase : (P : Line → Type 0) (phases : List (List Line)) → All P (lines_of phases) → All (λ (phase : List Line). All P phase) phases
by_phase P [] h = All-nil _
by_phase P (phase ∷ phases) h = All-cons (λ (phase : List Line). All P phase) phase phases (all_front P phase (lines_of phases) h) (by_phase P phases (all_back P phase (lines_of phases) h))

pub models_are : (profiles : List Profile) (script : Script) → IsScript profiles script → All (λ (p : Profile). IsModel p.model) profiles
models_are profiles script h k d lt = (h.profiles_are.each k d lt).model

pub lines_are : (profiles : List Profile) (script : Script) → IsScript profiles script → All (λ (phase : List Line). All (IsLine (length profiles) (length script.actors)) phase) script.phases
lines_are profiles script h = by_phase (IsLine (length profiles) (length script.actors)) script.phases h.lines.each
