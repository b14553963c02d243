use Rattle.std.proofs.Common.{ap, subst, arith, Ok, ◌≡◌, ℕ, ◌<◌, ◌+◌, ◌++◌, ◌∷◌, [], ◌∙◌}
use Rattle.std.proofs.lemmas.Grind.{common_steps}
use Rattle.traffic_core.specs.declared.entry.Entry.{Entry}
use Rattle.traffic_core.specs.declared.entry.What.TheVariants.{Lower}
use Rattle.traffic_core.specs.Trips.{along}
use Rattle.traffic_share.specs.Seats.{Place, entry_of}
use Rattle.traffic_share.specs.Notes.{IsOther}
use Rattle.traffic_share.proofs.CallsThatGoOn.{goes_on, accepted_at}
use Rattle.traffic_share.proofs.seat.Seat.lower.Goals as goal

pub returns-then-branch-clause-ok : goal.returns-then-branch-clause-ok
returns-then-branch-clause-ok g c =
    let mine = c.new-mine.ensures ∙ ap (λ (p : Place). entry_of p c.args.number (Lower (along (record { 0 = c.args.edge }) c.args.reverse) c.args.speed)) c.self.view_is in
    let P : Entry → Type 0 = λ e. c.offer.new.self.entries ≡ c.turns.self.entries ++ e ∷ [] in
    let Q : ℕ → Type 0 = λ n. c.args.speed < n in
    (grind (arith, common_steps), (accepted_at _ c.args.number c.args.self.now c.turns.self c.offer.new.self (c.len-at.result + 1) c.turns.invariant (subst P mine (c.in_ok-offer.ensures.mine (ap (λ b. Ok b) c.if-branch.true))) (ap (λ n. n + 1) c.len-at.ensures), subst Q c.limit-now.ensures c.if-speed-now.false))

pub turns-preserved : goal.turns-preserved
turns-preserved g c =
    let mine = c.new-mine.ensures ∙ ap (λ (p : Place). entry_of p c.args.number (Lower (along (record { 0 = c.args.edge }) c.args.reverse) c.args.speed)) c.self.view_is in
    let P : Entry → Type 0 = λ e. IsOther e c.turns.self.entries c.offer.new.self.entries in
    goes_on _ _ _ _ _ c.turns.invariant c.offer.ensures.same (subst P mine (c.in_ok-offer.ensures.other (ap (λ b. Ok b) c.if-branch.false)))
