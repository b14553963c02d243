-- One command more of an actor.
use Rattle.std.proofs.Common.{◌≡◌, ℕ, ◌+◌, ◌<◌, ◌≤◌, inl, inr, cond, Bool, List, [], ◌∷◌, ◌++◌, length, eqb, refl, sym, ap, subst, ◌∙◌, append_assoc, eq-eqb, arith, All, map}
use Rattle.std.proofs.lemmas.Bool.{cases_eq}
use Rattle.std.proofs.lemmas.List.{map-append, append-nil}
use Rattle.std.proofs.lemmas.List.Elements.{All-append, All-filter, filter-append}
use Rattle.traffic_core.specs.declared.entry.Entry.{Entry}
use Rattle.traffic_core.specs.Lands.{Land}
use Rattle.script_text.specs.declared.script.Line.{Line}
use Rattle.traffic_share.specs.Seats.{HasSameSeat, Place, StartsWith}
use Rattle.script_service.specs.declared.actor.Heard.{Heard}
use Rattle.script_service.specs.Answering.{Answered, lines, own_of}
use Rattle.script_service.specs.Replying.{IsRightAfter}
use Rattle.script_service.specs.Going.{Follows, Knowing, Knows}
use Rattle.script_service.specs.SeatReplies.{IsSeatAfter}
use Rattle.script_service.specs.Actors.{Acting, Acts, IsPastOf, IsStill, HasAnswered, HasPassed, HasRunFirst, line_at, heard_in, part_in}
use Rattle.script_service.proofs.HeldPreparations.{knows_later}
use Rattle.script_service.proofs.ActorOrder.{own_line, other_line}
use Rattle.script_service.proofs.CommandMore.{goes_none, goes_push, starts_len, starts_trans}
use Rattle.script_service.proofs.SeatNumbers.{stays_push, stays_skip}
use Rattle.script_service.proofs.SeatRows.{starts_same}

-- from an earlier list
pub follows_from : (land : Land) (capacity : ℕ) (before after : Knowing) (zs xs ys : List Entry) (line : Line) (a : Answered) → StartsWith xs zs →
    Follows land capacity before after xs ys line a → Follows land capacity before after zs ys line a
follows_from land capacity before after zs xs ys line a starts follows =
    let grew = starts_len zs xs starts in
    record {
      line_is = follows.line_is;
      starts = starts_trans zs xs ys starts follows.starts;
      at = follows.at;
      new = λ took. let more = follows.new took in omega arith;
      right = follows.right;
      next = follows.next;
    }

pub own_push : (i : ℕ) (past part : List Answered) (a : Answered) → a.line.actor ≡ i → own_of i (past ++ (part ++ a ∷ [])) ≡ own_of i (past ++ part) ++ a ∷ []
own_push i past part a is =
    ap (own_of i) (sym (append_assoc past part (a ∷ []))) ∙ filter-append (λ (b : Answered). eqb b.line.actor i) (past ++ part) (a ∷ []) ∙
    ap (λ b. own_of i (past ++ part) ++ cond b (a ∷ []) []) (eq-eqb a.line.actor i is)

pub part_push : (land : Land) (phase : List Line) (place : ℕ) (before after : Acting) (answered : HasAnswered land phase place before after) →
    part_in phase after ≡ part_in phase before ++ heard_in phase answered.heard ∷ []
part_push land phase place before after answered = ap (map (heard_in phase)) answered.part ∙ map-append (heard_in phase) before.part (answered.heard ∷ [])

pub acts_push : (land : Land) (phase : List Line) (place : ℕ) (past : List Answered) (before now after : Acting) → IsPastOf land past before → StartsWith now.seat.entries before.seat.entries →
    now.seat.cells ≡ before.seat.cells → Acts land phase past before now → (line_at phase place).actor ≡ before.seat.actor → HasAnswered land phase place now after → Acts land phase past before after
acts_push land phase place past before now after is_past starts cells acts mine answered =
    let a : Answered = heard_in phase answered.heard in
    let i : ℕ = before.seat.actor in
    let capacity : ℕ = length before.seat.cells in
    let xs : List Entry = now.seat.entries in
    let ys : List Entry = after.seat.entries in
    let part : List Answered = part_in phase now in
    let own : List Answered = own_of i (past ++ part) in
    let follows : Follows land capacity now.knows after.knows xs ys (line_at phase place) a = subst (λ (l : List ℕ). Follows land (length l) now.knows after.knows xs ys (line_at phase place) a) cells answered.follows in
    let grew = starts_len before.seat.entries xs starts in
    let within : All (λ (b : Answered). b.at ≤ length xs) past = λ k d h. let was = is_past.within k d h in omega arith in
    let own_within = All-filter (λ (b : Answered). eqb b.line.actor i) (λ (b : Answered). b.at ≤ length xs) (past ++ part) (All-append (λ (b : Answered). b.at ≤ length xs) past part within acts.goes.within) in
    let is : a.line.actor ≡ i = ap (λ (l : Line). l.actor) follows.line_is ∙ mine in
    let knows : Knows land ys own now.knows = knows_later land xs ys own now.knows follows.starts own_within acts.knows in
    let right : IsRightAfter land capacity ys (own_of a.line.actor (past ++ part)) a = follows.right (own_of a.line.actor (past ++ part)) (rw is knows) in
    let part_is : part_in phase after ≡ part ++ a ∷ [] = part_push land phase place now after answered in
    record {
      goes = rw part_is (goes_push land capacity past (length before.seat.entries) xs ys part a acts.goes grew follows.starts within follows.at follows.new right);
      knows = rw (part_is, own_push i past part a is) (follows.next own knows);
    }

-- before the first line
pub runs_none : (land : Land) (phase : List Line) (a : Acting) → a.part ≡ [] → HasRunFirst land phase 0 a a
runs_none land phase a empty =
    let none : part_in phase a ≡ [] = ap (map (heard_in phase)) empty in
    record {
      stays = λ line mine more all. more;
      acts = λ past is_past. record {
        goes = rw none (goes_none land (length a.seat.cells) past (length a.seat.entries) a.seat.entries);
        knows = rw (none, append-nil) is_past.knows;
      };
      order = ap lines none;
    }

-- and a line more
pub runs_more : (land : Land) (phase : List Line) (place : ℕ) (before now after : Acting) → place < length phase → IsStill phase before now → HasRunFirst land phase place before now →
    HasPassed land phase place now after → HasRunFirst land phase (place + 1) before after
runs_more land phase place before now after below still first passed = elim (cases_eq (line_at phase place).actor before.seat.actor) [
  | inl own ↦
      let answered = passed.own (own ∙ sym still.actor) in
      record {
        stays = stays_push phase place _ before after own answered.last;
        acts = λ past is_past. acts_push land phase place past before now after is_past still.starts still.cells (first.acts past is_past) own answered;
        order = ap lines (part_push land phase place now after answered) ∙ own_line before.seat.actor phase place _ (part_in phase now) (heard_in phase answered.heard) below own answered.follows.line_is first.order;
      }
  | inr other ↦
      subst (λ (a : Acting). HasRunFirst land phase (place + 1) before a) (sym (passed.other (λ own. other (own ∙ still.actor)))) (record {
        stays = stays_skip phase place before now first.stays;
        acts = first.acts;
        order = other_line before.seat.actor phase place _ (lines (part_in phase now)) below other first.order;
      })
]

-- the same actor, and one that comes behind another
pub still_self : (phase : List Line) (a : Acting) → All (λ (h : Heard). h.place < length phase) a.part → IsStill phase a a
still_self phase a there = record { cells = refl; actor = refl; starts = starts_same a.seat.entries; there = there }

pub still_more : (phase : List Line) (before now after : Acting) → IsStill phase before now → IsStill phase now after → IsStill phase before after
still_more phase before now after one two = record {
  cells = two.cells ∙ one.cells;
  actor = two.actor ∙ one.actor;
  starts = starts_trans before.seat.entries now.seat.entries after.seat.entries one.starts two.starts;
  there = two.there;
}

-- behind an answer, with what it was told
pub still_answered : (phase : List Line) (seat now after : Place) (number : ℕ) (knows known : Knowing) (part told : List Heard) (failed : Bool) → HasSameSeat seat now →
    StartsWith now.entries seat.entries → IsSeatAfter number now after → All (λ (h : Heard). h.place < length phase) told →
    IsStill phase (record { seat = seat; knows = knows; part = part; failed = failed }) (record { seat = after; knows = known; part = told; failed = failed })
still_answered phase seat now after number knows known part told failed same longer answered there = record {
  cells = answered.cells ∙ same.cells;
  actor = answered.actor ∙ same.actor;
  starts = starts_trans seat.entries now.entries after.entries longer answered.starts;
  there = there;
}
