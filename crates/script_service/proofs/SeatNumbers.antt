-- Numbers grow, so each call has a greater one than its seat was given.
use Rattle.std.proofs.Common.{◌≡◌, ℕ, ◌+◌, ◌<◌, ◌≤◌, List, length, get_or, subst, sym, ◌∙◌, arith, AllPairs, false}
use Rattle.std.proofs.lemmas.List.{get_or_default}
use Rattle.script_text.specs.declared.script.Line.{Line}
use Rattle.traffic_core.specs.Lands.{Land}
use Rattle.traffic_share.specs.Seats.{Place}
use Rattle.script_service.specs.Actors.{Acting, Awaits, Grows, StaysBelow, HasRun, IsTaught}

pub stays_push : (phase : List Line) (i : ℕ) (d : Line) (before after : Acting) → (get_or phase i d).actor ≡ before.seat.actor → after.seat.last ≤ (get_or phase i d).number →
    StaysBelow phase (i + 1) before after
stays_push phase i d before after own last line mine more all = let less = all i d (omega arith) (own ∙ sym mine) in omega arith

pub stays_skip : (phase : List Line) (i : ℕ) (before now : Acting) → StaysBelow phase i before now → StaysBelow phase (i + 1) before now
stays_skip phase i before now stays line mine more all = stays line mine more (λ k d h. all k d (omega arith))

pub awaited : (phase : List Line) (i : ℕ) (d : Line) (before now : Acting) → i < length phase → StaysBelow phase i before now → now.seat.actor ≡ before.seat.actor → Awaits phase before →
    AllPairs Grows phase → (get_or phase i d).actor ≡ now.seat.actor → now.seat.last < (get_or phase i d).number
awaited phase i d before now below stays same awaits grow own =
    let mine : (get_or phase i d).actor ≡ before.seat.actor = own ∙ same in
    stays (get_or phase i d) mine (awaits i d below mine) (λ k e h. subst (λ (l : Line). Grows (get_or phase k e) l) (get_or_default phase i e d below) (grow k i e h below))

pub stays_of : (land : Land) (taught : Place) (phase : List Line) (before after last : Acting) → HasRun land phase before after → IsTaught taught after last → last.failed ≡ false →
    StaysBelow phase (length phase) before last
stays_of land taught phase before after last run told done line mine more all =
    let less = run.stays (sym told.failed ∙ done) line mine more all in
    let same = told.last in
    omega arith
