-- Actors that are ready for a phase, and for the next one.
use Rattle.std.proofs.Common.{◌≡◌, ◌∙◌, ℕ, ◌+◌, ◌<◌, List, [], length, get_or, Some, All, arith, ap, sym, subst}
use Rattle.std.specs.Prelude.{slice_get}
use Rattle.std.proofs.lemmas.Option.{get_or_from_slice_get}
use Rattle.weighting.specs.declared.profile.Profile.{Profile}
use Rattle.script_text.specs.declared.script.Line.{Line}
use Rattle.script_text.specs.declared.script.Script.{Script}
use Rattle.script_text.specs.Scripts.{IsScript, lines_of}
use Rattle.traffic_share.specs.Seats.{Place}
use Rattle.script_service.specs.Actors.{Acting, AreSeated, Awaits, CanBeAsked, StaysBelow}
use Rattle.script_service.specs.Underway.{AreReady}
use Rattle.script_service.proofs.LineNumbers.{asked_here, awaits_first, awaits_here, awaits_next}

-- the phase that a script gives
pub phase_is : (phases : List (List Line)) (i : ℕ) (got phase : List Line) → slice_get phases i ≡ Some got → phase ≡ got → get_or phases i [] ≡ phase
phase_is phases i got phase is same = get_or_from_slice_get phases i got [] is ∙ sym same

-- before the first phase
pub ready_first : (profiles : List Profile) (script : Script) (service : Place) (actors : List Acting) → IsScript profiles script → length service.cells ≡ script.capacity →
    length actors ≡ length script.actors → AreSeated service actors → All (λ (a : Acting). a.seat.last ≡ 0) actors → AreReady script 0 service actors
ready_first profiles script service actors is cells len seated first = record {
  cells = cells;
  len = len;
  seated = seated;
  awaits = awaits_first (lines_of script.phases) actors is.lines.numbered first;
}

pub ready_here : (profiles : List Profile) (script : Script) (i : ℕ) (phase : List Line) (service : Place) (actors : List Acting) → IsScript profiles script → i < length script.phases →
    get_or script.phases i [] ≡ phase → AreReady script i service actors → All (Awaits phase) actors
ready_here profiles script i phase service actors is below here ready k d h = awaits_here script.phases i phase (get_or actors k d) below here (ready.awaits k d h)

pub asked_now : (profiles : List Profile) (script : Script) (i names : ℕ) (phase : List Line) → IsScript profiles script → i < length script.phases →
    get_or script.phases i [] ≡ phase → names ≡ length script.actors → CanBeAsked (length profiles) names phase
asked_now profiles script i names phase is below here count =
    subst (λ (n : ℕ). CanBeAsked (length profiles) n phase) (sym count)
    (asked_here (length profiles) (length script.actors) script.phases i phase below here is.lines.each is.lines.numbered)

-- behind it
pub ready_next : (profiles : List Profile) (script : Script) (i : ℕ) (phase : List Line) (service later : Place) (actors after : List Acting) → IsScript profiles script → i < length script.phases →
    get_or script.phases i [] ≡ phase → AreReady script i service actors → later.cells ≡ service.cells → length after ≡ length actors → AreSeated later after →
    ((k : ℕ) (d : Acting) → k < length actors → StaysBelow phase (length phase) (get_or actors k d) (get_or after k d)) → AreReady script (i + 1) later after
ready_next profiles script i phase service later actors after is below here ready cells len seated stays = record {
  cells = ap length cells ∙ ready.cells;
  len = len ∙ ready.len;
  seated = seated;
  awaits = λ k d h.
      let was : k < length actors = omega (arith, len) in
      let same = (seated k d h).actor ∙ sym (ready.seated k d was).actor in
      awaits_next script.phases i phase (get_or actors k d) (get_or after k d) below here is.lines.numbered (ready.awaits k d was) (stays k d was) same;
}
