-- The replies that actors hand over, phase by phase.
use Rattle.std.proofs.Common.{◌≡◌, ◌∙◌, ℕ, ◌+◌, ◌<◌, List, [], ◌∷◌, ◌++◌, length, map, drop, All, arith, ap, sym, subst, refl}
use Rattle.std.proofs.lemmas.List.{map-append}
use Rattle.traffic_core.specs.declared.entry.Entry.{Entry}
use Rattle.traffic_core.specs.Lands.{Land}
use Rattle.traffic_share.specs.Seats.{Place}
use Rattle.script_text.specs.declared.reply.Reply.{Reply}
use Rattle.script_text.specs.declared.script.Line.{Line}
use Rattle.script_text.specs.declared.script.Script.{Script}
use Rattle.script_text.specs.Scripts.{lines_of}
use Rattle.script_service.specs.declared.actor.Heard.{Heard}
use Rattle.script_service.specs.Answering.{Answered, joined}
use Rattle.script_service.specs.Actors.{Acting, Know, heard_in, part_in, parts_in}
use Rattle.script_service.specs.Collecting.{HasCollected, HasHanded, heard_by, replies, replies_heard}
use Rattle.script_service.specs.Going.{Knowing, Knows}
use Rattle.script_service.specs.Answering.{own_of}
use Rattle.script_service.specs.Underway.{AreReady, HasPhase, phase_of}
use Rattle.script_service.proofs.PhaseMore.{begins_none, joined_more}
use Rattle.script_service.proofs.PhaseServed.{is_served}

pub ready_handed : (script : Script) (count : ℕ) (service : Place) (before after : List Acting) → AreReady script count service before → HasHanded before after → AreReady script count service after
ready_handed script count service before after ready handed = record {
  cells = ready.cells;
  len = handed.len ∙ ready.len;
  seated = λ i d h.
      let was : i < length before = omega (arith, handed.len) in
      let same = (handed.each i d was).seat in
      let seated = ready.seated i d was in
      record {
        cells = ap (λ (p : Place). p.cells) same ∙ seated.cells;
        actor = ap (λ (p : Place). p.actor) same ∙ seated.actor;
        entries = ap (λ (p : Place). p.entries) same ∙ seated.entries;
      };
  awaits = λ i d h.
      let was : i < length before = omega (arith, handed.len) in
      let P : Place → Type 0 = λ p. All (λ (line : Line). line.actor ≡ p.actor → p.last < line.number) (lines_of (drop count script.phases)) in
      subst P (sym (handed.each i d was).seat) (ready.awaits i d was);
}

knows_handed : (land : Land) (journal : List Entry) (past : List Answered) (before after : List Acting) → Know land journal past before → HasHanded before after → Know land journal past after
knows_handed land journal past before after knows handed i d h =
    let was : i < length before = omega (arith, handed.len) in
    subst (λ (k : Knowing). Knows land journal (own_of i past) k) (sym (handed.each i d was).knows) (knows i d was)

-- what is heard of a phase are its replies
part_replies : (phase : List Line) (part : List Heard) → replies (map (heard_in phase) part) ≡ replies_heard part
part_replies phase [] = refl
part_replies phase (h ∷ part) = ap (λ (l : List Reply). h.told.reply ∷ l) (part_replies phase part)

replies_of_parts : (phase : List Line) (actors : List Acting) → replies (parts_in phase actors) ≡ replies_heard (heard_by actors)
replies_of_parts phase [] = refl
replies_of_parts phase (a ∷ actors) =
    map-append (λ (b : Answered). b.reply) (part_in phase a) (parts_in phase actors)
    ∙ ap (λ (l : List Reply). l ++ replies (parts_in phase actors)) (part_replies phase a.part)
    ∙ ap (λ (l : List Reply). replies_heard a.part ++ l) (replies_of_parts phase actors)
    ∙ sym (map-append (λ (h : Heard). h.told.reply) a.part (heard_by actors))

pub collected_none : (land : Land) (script : Script) (journal : List Entry) (actors : List Acting) → journal ≡ [] → Know land [] [] actors → HasCollected land script journal actors 0 []
collected_none land script journal actors none knows =
    subst (λ (j : List Entry). HasCollected land script j actors 0 []) (sym none) (record {
      phases = [];
      begins = begins_none land script;
      knows = knows;
      replies_are = refl;
    })

-- a phase more
pub collected_more : (land : Land) (script : Script) (i : ℕ) (service later : Place) (before mid after : List Acting) (heard more : List Heard) → HasCollected land script service.entries before i heard →
    AreReady script i service before → i < length script.phases → HasPhase land script i service later before mid → HasHanded mid after → more ≡ heard ++ heard_by mid →
    HasCollected land script later.entries after (i + 1) more
collected_more land script i service later before mid after heard more collected ready below phase handed is =
    let part : List Answered = parts_in (phase_of script i) mid in
    let served = is_served land script i service later before mid ready below phase collected.phases collected.begins collected.knows in
    let joint = joined_more collected.phases part in
    record {
      phases = collected.phases ++ part ∷ [];
      begins = served.begins;
      knows = subst (λ (l : List Answered). Know land later.entries l after) (sym joint) (knows_handed land later.entries (joined collected.phases ++ part) mid after served.knows handed);
      replies_are =
          ap replies_heard is ∙ map-append (λ (h : Heard). h.told.reply) heard (heard_by mid)
          ∙ ap (λ (l : List Reply). l ++ replies_heard (heard_by mid)) collected.replies_are
          ∙ ap (λ (l : List Reply). replies (joined collected.phases) ++ l) (sym (replies_of_parts (phase_of script i) mid))
          ∙ sym (map-append (λ (b : Answered). b.reply) (joined collected.phases) part)
          ∙ ap replies (sym joint);
    }
