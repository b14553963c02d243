use Rattle.std.proofs.Common.{◌≡◌, ◌∙◌, ◌<◌, ◌≤◌, ℕ, List, length, All, ap, refl, subst, sym}
use Rattle.std.proofs.lemmas.List.{get_or_default}
use Rattle.std.proofs.lemmas.List.Elements.{All-push}
use Rattle.traffic_share.specs.Seats.{Place}
use Rattle.script_text.specs.declared.script.Line.{Line}
use Rattle.script_service.specs.declared.actor.Heard.{Heard}
use Rattle.script_service.specs.Telling.{answered}
use Rattle.script_service.specs.Going.{Follows}
use Rattle.script_service.specs.Actors.{Acting, HasAnswered, IsStill, line_at}
use Rattle.script_service.proofs.ActsMore.{follows_from, still_answered}
use Rattle.script_service.proofs.actor.Actor.pass.Goals as goal

pub returns-in_err-push-clause-still : goal.returns-in_err-push-clause-still
returns-in_err-push-clause-still g c =
    let phase = c.args.phase.now in
    let There : List Heard → Type 0 = All (λ (h : Heard). h.place < length phase) in
    let there : There c.self.inside.part.items = subst (λ (a : Acting). There a.part) (sym c.self.view_is) c.requires.heard in
    let last : Acting = record { seat = c.answer.new.seat; knows = c.answer.new.memory; part = c.push.new.self.items; failed = c.self.inside.failed } in
    subst (λ (before : Acting). IsStill phase before last) c.self.view_is
    (still_answered phase c.self.inside.seat c.catch_up.new.self c.answer.new.seat _ c.self.inside.memory c.answer.new.memory c.self.inside.part.items c.push.new.self.items c.self.inside.failed
    c.catch_up.ensures.same c.catch_up.ensures.longer c.answer.ensures.after (subst There (sym c.in_err-push.ensures.items) there))

pub returns-clause-still : goal.returns-clause-still
returns-clause-still g c =
    let phase = c.args.phase.now in
    let There : List Heard → Type 0 = All (λ (h : Heard). h.place < length phase) in
    let there : There c.self.inside.part.items = subst (λ (a : Acting). There a.part) (sym c.self.view_is) c.requires.heard in
    let heard : Heard = record { place = c.args.place; told = c.in_ok-told.told } in
    let last : Acting = record { seat = c.answer.new.seat; knows = c.answer.new.memory; part = c.push.new.self.items; failed = c.self.inside.failed } in
    subst (λ (before : Acting). IsStill phase before last) c.self.view_is
    (still_answered phase c.self.inside.seat c.catch_up.new.self c.answer.new.seat _ c.self.inside.memory c.answer.new.memory c.self.inside.part.items c.push.new.self.items c.self.inside.failed
    c.catch_up.ensures.same c.catch_up.ensures.longer c.answer.ensures.after
    (subst There (sym c.in_ok-push.ensures.items) (All-push (λ (h : Heard). h.place < length phase) c.self.inside.part.items heard there c.requires.there)))

pub returns-clause-passed : goal.returns-clause-passed
returns-clause-passed g c =
    let land = g.J.Naming.land in
    let phase = c.args.phase.now in
    let place = c.args.place in
    let seat : Place = c.self.inside.seat in
    let now : Place = c.catch_up.new.self in
    let after : Place = c.answer.new.seat in
    let knew = c.self.inside.memory in
    let knows = c.answer.new.memory in
    let told = c.in_ok-told.told in
    let item = c.index-phase-place.result in
    let is : item ≡ line_at phase place = c.index-phase-place.is ∙ get_or_default phase place _ _ c.requires.there in
    let here : Follows land (length now.cells) knew knows seat.entries after.entries item (answered item told) =
    follows_from land _ _ _ seat.entries now.entries after.entries _ _ c.catch_up.ensures.longer c.in_ok-told.ensures.follows in
    let of_line = subst (λ (line : Line). Follows land (length now.cells) knew knows seat.entries after.entries line (answered line told)) is here in
    let of_cells = subst (λ (l : List ℕ). Follows land (length l) knew knows seat.entries after.entries (line_at phase place) (answered (line_at phase place) told)) c.catch_up.ensures.same.cells of_line in
    let last : Acting = record { seat = after; knows = knows; part = c.push.new.self.items; failed = c.self.inside.failed } in
    let sits : c.actor.result ≡ c.args.self.now.seat.actor = c.actor.ensures ∙ ap (λ (a : Acting). a.seat.actor) c.self.view_is in
    record {
      own = λ mine. subst (λ (before : Acting). HasAnswered land phase place before last) c.self.view_is
          (record {
            heard = record { place = place; told = told };
            place_is = refl;
            part = c.in_ok-push.ensures.items;
            last = subst (λ (line : Line). after.last ≤ line.number) is c.answer.ensures.after.last;
            follows = of_cells;
          });
      other = λ no. absurd (no (ap (λ (line : Line). line.actor) (sym is) ∙ c.if-line-actor.false ∙ sits));
    }
