-- A phase of all actors: each has run, and knows all that was done.
use Rattle.std.proofs.Common.{◌≡◌, ◌∙◌, ℕ, ◌+◌, ◌<◌, ◌≤◌, false, List, [], length, get_or, All, arith, ap, sym, subst}
use Rattle.traffic_core.specs.Lands.{Land}
use Rattle.script_text.specs.declared.script.Line.{Line}
use Rattle.script_text.specs.declared.script.Script.{Script}
use Rattle.script_text.specs.Scripts.{IsScript}
use Rattle.traffic_share.specs.Seats.{HasSameSeat, Place, StartsWith}
use Rattle.script_service.specs.declared.actor.Heard.{Heard}
use Rattle.script_service.specs.Answering.{Answered, lines}
use Rattle.script_service.specs.Fitting.{by_actor}
use Rattle.script_service.specs.Actors.{Acting, AreSeated, Continues, HasRun, IsTaught, Know, StaysBelow, accepted_by, parts_in}
use Rattle.script_service.specs.Underway.{AreReady, HasPhase}
use Rattle.script_service.proofs.AcceptedCount.{accepted_in}
use Rattle.script_service.proofs.JoinedParts.{AllDone, AllInOrder, order_of, done_of, know_joined, serves_joined, parts_order}
use Rattle.script_service.proofs.PhaseReady.{ready_next}
use Rattle.script_service.proofs.SeatNumbers.{stays_of}

-- each has run, and was told of the service's list then
pub record HaveRun (land : Land) (phase : List Line) (service later : Place) (before ran after : List Acting) : Type 0 where
  pub seated : AreSeated service before
  pub ran_len : length ran ≡ length before
  pub run : (i : ℕ) (d : Acting) → i < length before → HasRun land phase (get_or before i d) (get_or ran i d)
  pub same : HasSameSeat service later
  pub starts : StartsWith later.entries service.entries
  pub len : length after ≡ length ran
  pub taught : (i : ℕ) (d : Acting) → i < length ran → IsTaught later (get_or ran i d) (get_or after i d)
  pub done : All (λ (a : Acting). a.failed ≡ false) after
  pub count : length later.entries ≡ length service.entries + accepted_by after

module _ (land : Land) (phase : List Line) (service later : Place) (before ran after : List Acting) (all : HaveRun land phase service later before ran after) where
  in_order : (d : Acting) → AllInOrder phase after d
  in_order d i below =
      let here : i < length ran = omega (arith, all.len) in
      let began : i < length before = omega (arith, all.ran_len) in
      order_of land service later phase i (get_or before i d) (get_or ran i d) (get_or after i d) (all.seated i d began) (all.run i d began) (all.taught i d here) (all.done i d below)

  each : (past : List Answered) → All (λ (a : Answered). a.at ≤ length service.entries) past → Know land service.entries past before → (d : Acting) →
      AllDone land (length service.cells) past (length service.entries) later.entries phase after d
  each past within knows d i below =
      let here : i < length ran = omega (arith, all.len) in
      let began : i < length before = omega (arith, all.ran_len) in
      done_of land past service later phase i (get_or before i d) (get_or ran i d) (get_or after i d) within (knows i d began)
      (all.seated i d began) (all.run i d began) (all.taught i d here) (all.done i d below)

  order : lines (parts_in phase after) ≡ by_actor (length before) phase
  order = parts_order phase after in_order ∙ ap (λ n. by_actor n phase) (all.len ∙ all.ran_len)

  stays : (i : ℕ) (d : Acting) → i < length before → StaysBelow phase (length phase) (get_or before i d) (get_or after i d)
  stays i d began =
      let here : i < length ran = omega (arith, all.ran_len) in
      let below : i < length after = omega (arith, all.len) in
      stays_of land later phase (get_or before i d) (get_or ran i d) (get_or after i d) (all.run i d began) (all.taught i d here) (all.done i d below)

  seated : AreSeated later after
  seated i d below =
      let here : i < length ran = omega (arith, all.len) in
      let began : i < length before = omega (arith, all.ran_len) in
      let was = all.seated i d began in
      let still = (all.run i d began).still in
      let told = all.taught i d here in
      record { cells = told.cells ∙ still.cells ∙ was.cells ∙ sym all.same.cells; actor = told.actor ∙ still.actor ∙ was.actor; entries = told.list }

  there : All (λ (a : Acting). All (λ (h : Heard). h.place < length phase) a.part) after
  there i d below =
      let here : i < length ran = omega (arith, all.len) in
      let began : i < length before = omega (arith, all.ran_len) in
      subst (All (λ (h : Heard). h.place < length phase)) (sym (all.taught i d here).part) (all.run i d began).still.there

  serves : Continues land (length service.cells) service.entries before later.entries after (parts_in phase after)
  serves past within knows =
      let done = each past within knows in
      let count = all.count ∙ ap (λ n. length service.entries + n) (sym (accepted_in phase after)) in (
        serves_joined land _ past _ _ phase after all.starts done count,
        know_joined land _ _ _ phase past after done,
      )

-- of the script's phase of a number
pub phase_run : (land : Land) (script : Script) (i : ℕ) (phase : List Line) (service later : Place) (before ran after : List Acting) → IsScript land.profiles script → i < length script.phases →
    get_or script.phases i [] ≡ phase → AreReady script i service before → HaveRun land phase service later before ran after → length later.entries ≤ length later.cells →
    HasPhase land script i service later before after
phase_run land script i phase service later before ran after is below here ready all room =
    let at_capacity = subst (λ (n : ℕ). Continues land n service.entries before later.entries after (parts_in phase after)) ready.cells (serves land phase service later before ran after all) in
    record {
      ready = ready_next land.profiles script i phase service later before after is below here ready all.same.cells (all.len ∙ all.ran_len)
          (seated land phase service later before ran after all) (stays land phase service later before ran after all);
      heard = subst (λ (p : List Line). All (λ (a : Acting). All (λ (h : Heard). h.place < length p) a.part) after) (sym here) (there land phase service later before ran after all);
      order = subst (λ (p : List Line). lines (parts_in p after) ≡ by_actor (length before) p) (sym here) (order land phase service later before ran after all);
      serves = subst (λ (p : List Line). Continues land script.capacity service.entries before later.entries after (parts_in p after)) (sym here) at_capacity;
      room = omega (arith, room, ap length all.same.cells, ready.cells);
    }
