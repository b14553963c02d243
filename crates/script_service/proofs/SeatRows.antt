-- From a seat's replies to what is told of them.
use Rattle.std.proofs.Common.{◌≡◌, ◌+◌, ◌-◌, ◌<◌, ◌≤◌, ◌++◌, ◌∷◌, ◌∙◌, ℕ, true, false, List, [], length, take, Some, refl, sym, ap, subst, arith, length-append, append_assoc, slice_get}
use Rattle.std.proofs.Math.Seq.{take-append_seam, get_or-append_seam, take-length}
use Rattle.std.proofs.lemmas.List.{append-nil}
use Rattle.std.proofs.lemmas.Option.{slice_get-get_or}
use Rattle.gh_base.specs.declared.edges.DirEdge.{DirEdge}
use Rattle.landmark_prep.specs.Preparations.{Preparation}
use Rattle.traffic_core.specs.declared.entry.Entry.{Entry}
use Rattle.traffic_core.specs.declared.entry.What.{What}
use Rattle.traffic_core.specs.declared.entry.What.TheVariants as what
use Rattle.traffic_core.specs.Lands.{Land}
use Rattle.traffic_core.specs.History.{limit_in, limit_after, IsFirstBelow}
use Rattle.script_text.specs.declared.script.Line.{Line}
use Rattle.script_text.specs.declared.reply.Reply.{Reply}
use Rattle.traffic_share.specs.Seats.{Place, entry_of, StartsWith, GrewWithout, Accepts, Refuses}
use Rattle.traffic_share.specs.Lowering.{Lowers}
use Rattle.traffic_share.specs.Restoring.{Restores}
use Rattle.traffic_share.specs.Publishing.{Publishes}
use Rattle.traffic_share.specs.declared.replies.LowerReply.{LowerReply}
use Rattle.traffic_share.specs.declared.replies.LowerReply.TheVariants as lower
use Rattle.traffic_share.specs.declared.replies.RestoreReply.{RestoreReply}
use Rattle.traffic_share.specs.declared.replies.RestoreReply.TheVariants as restore
use Rattle.traffic_share.specs.declared.replies.PublishReply.{PublishReply}
use Rattle.traffic_share.specs.declared.replies.PublishReply.TheVariants as publish
use Rattle.script_service.specs.declared.told.Told.{Told}
use Rattle.script_service.specs.Answering.{is_accepted}
use Rattle.script_service.specs.Replying.{IsEntry, SaysLower, SaysRestore, SaysPublish}
use Rattle.script_service.specs.Telling.{answered}
use Rattle.script_service.specs.SeatReplies.{IsSeatAfter, told_of_lower, told_of_restore, told_of_publish}

-- the reply speaks of the whole list, which begins with the old one, and is longer where it has an entry of its own
pub record Speaks (xs ys : List Entry) (told : Told) : Type 0 where
  pub starts : StartsWith ys xs
  pub at : told.at ≡ length ys
  pub new : is_accepted told.reply ≡ true → length xs < length ys

pub starts_grew : (mine : Entry) (xs ys : List Entry) → GrewWithout mine xs ys → StartsWith ys xs
starts_grew mine xs ys grew = record { rest = grew.rest; is = grew.is }

pub starts_same : (xs : List Entry) → StartsWith xs xs
starts_same xs = record { rest = []; is = sym (append-nil xs) }

-- a seat that was left as it is, and one behind a command of its own
pub seat_stays : (number : ℕ) (seat : Place) → seat.last < number → IsSeatAfter number seat seat
seat_stays number seat more = record { cells = refl; actor = refl; last = omega arith; starts = starts_same seat.entries }

pub seat_after : (number : ℕ) (before after : Place) → after.cells ≡ before.cells → after.actor ≡ before.actor → after.last ≡ number → StartsWith after.entries before.entries →
    IsSeatAfter number before after
seat_after number before after cells actor last starts = record { cells = cells; actor = actor; last = omega arith; starts = starts }

-- the list as a reply sees it that speaks of all of it
pub all_seen : (ys : List Entry) (at : ℕ) → at ≡ length ys → take at ys ≡ ys
all_seen ys at is = rw is (take-length ys)

-- an entry that was put behind a front: its place, and the front before it
record IsLast (mine : Entry) (front ys : List Entry) (at : ℕ) : Type 0 where
  from_one : 1 ≤ at
  entry : slice_get ys (at - 1) ≡ Some mine
  before : take (at - 1) ys ≡ front
  longer : length front < length ys

is_last : (mine : Entry) (front ys : List Entry) (at : ℕ) → ys ≡ front ++ mine ∷ [] → at ≡ length ys → IsLast mine front ys at
is_last mine front ys at is place =
    let long : length ys ≡ length front + 1 = rw is (omega (arith, length-append front (mine ∷ []))) in
    let here : at - 1 ≡ length front = omega arith in
    record {
      from_one = omega arith;
      entry = rw (here, is) (slice_get-get_or (front ++ mine ∷ []) (length front) mine (omega (arith, length-append front (mine ∷ []))) ∙ ap (λ e. Some e) (get_or-append_seam front mine [] mine));
      before = rw (here, is) (take-append_seam front (mine ∷ []));
      longer = omega arith;
    }

-- what an accepted call says of its entry, in a reply's words
own_entry : (before : Place) (front ys : List Entry) (line : Line) (at : ℕ) (said : Reply) (change : What) → line.actor ≡ before.actor →
    IsLast (entry_of before line.number change) front ys at → IsEntry ys (record { line = line; at = at; reply = said }) change
own_entry before front ys line at said change own last =
    (last.from_one, last.entry ∙ ap (λ (n : ℕ). Some (record { actor = n; number = line.number; what = change })) (sym own))

-- the list grew by one entry at least
grew_by_one : (mine : Entry) (xs front ys : List Entry) (at : ℕ) → GrewWithout mine xs front → IsLast mine front ys at → length xs < length ys
grew_by_one mine xs front ys at grew last = let long = ap length grew.is in omega (arith, last.longer, length-append xs grew.rest, long)

starts_accepted : (mine : Entry) (xs ys : List Entry) (at : ℕ) → Accepts mine xs ys at → StartsWith ys xs
starts_accepted mine xs ys at took = record {
  rest = took.begins.rest ++ mine ∷ [];
  is = took.is ∙ ap (λ (l : List Entry). l ++ mine ∷ []) took.begins.is ∙ append_assoc xs took.begins.rest (mine ∷ []);
}

-- what a reply speaks of, and what it says
pub record IsTold (before after : Place) (Says : Told → Type 0) (told : Told) : Type 0 where
  pub speaks : Speaks before.entries after.entries told
  pub says : Says told

-- a reply that has no entry of its own
refused : (mine : Entry) (xs ys : List Entry) (told : Told) → GrewWithout mine xs ys → told.at ≡ length ys → is_accepted told.reply ≡ false → Speaks xs ys told
refused mine xs ys told grew at is = record { starts = starts_grew mine xs ys grew; at = at; new = λ took. absurd cc }

-- and one that has
accepted : (mine : Entry) (xs ys : List Entry) (told : Told) → Accepts mine xs ys told.at → Speaks xs ys told
accepted mine xs ys told took = record {
  starts = starts_accepted mine xs ys told.at took;
  at = took.place;
  new = λ _. grew_by_one mine xs took.front ys told.at took.begins (is_last mine took.front ys told.at took.is took.place);
}

module _ (land : Land) (before after : Place) (line : Line) where
  -- a reply that the list of then refuses
  refusal : (Says : Told → Type 0) (mine : Entry) (told : Told) → is_accepted told.reply ≡ false → Refuses mine before.entries after.entries told.at → Says told → IsTold before after Says told
  refusal Says mine told none is says = record { speaks = refused mine before.entries after.entries told is.begins is.place none; says = says }

  -- a reply whose entry is the last, behind the front of then
  acceptance : (Says : Told → Type 0) (change : What) (told : Told) (took : Accepts (entry_of before line.number change) before.entries after.entries told.at) → line.actor ≡ before.actor →
      (IsEntry after.entries (answered line told) change → take (told.at - 1) after.entries ≡ took.front → Says told) → IsTold before after Says told
  acceptance Says change told took own says =
      let mine : Entry = entry_of before line.number change in
      let last = is_last mine took.front after.entries told.at took.is took.place in
      record {
        speaks = accepted mine before.entries after.entries told took;
        says = says (own_entry before took.front after.entries line told.at told.reply change own last) last.before;
      }

  -- what a told reply to a lowering is to say
  abbrev pub lower_said : DirEdge → ℕ → Told → Type 0
  lower_said by speed told = SaysLower land (length before.cells) after.entries (answered line told) by speed told.reply

  pub lower_told : (by : DirEdge) (speed : ℕ) (said : LowerReply) → line.actor ≡ before.actor → after.cells ≡ before.cells →
      Lowers land.graph line.number by speed before after said → IsTold before after (lower_said by speed) (told_of_lower (length after.entries) said)
  lower_told by speed (lower.NoSuchEdge edge) own cells is = record { speaks = refused _ _ _ _ is.2 refl refl; says = is.1 }
  lower_told by speed (lower.NotLower at now) own cells is =
      refusal (lower_said by speed) _ _ refl is.1 (is.0, rw (all_seen after.entries at is.1.place) (is.2, is.3))
  lower_told by speed (lower.JournalFull at) own cells is =
      refusal (lower_said by speed) _ _ refl is.1 (is.0, rw (all_seen after.entries at is.1.place) (is.3, is.1.place ∙ is.2 ∙ ap length cells))
  lower_told by speed (lower.Lowered at) own cells is =
      acceptance (lower_said by speed) (what.Lower by speed) _ is.1.0 own (λ entry front. (is.0, (entry, rw front is.1.1)))

  -- to a restoring
  abbrev pub restore_said : DirEdge → ℕ → Told → Type 0
  restore_said by speed told = SaysRestore land (length before.cells) after.entries (answered line told) by speed told.reply

  pub restore_told : (by : DirEdge) (speed : ℕ) (said : RestoreReply) → line.actor ≡ before.actor → after.cells ≡ before.cells →
      Restores land.graph line.number by speed before after said → IsTold before after (restore_said by speed) (told_of_restore (length after.entries) said)
  restore_told by speed (restore.NoSuchEdge edge) own cells is = record { speaks = refused _ _ _ _ is.2 refl refl; says = is.1 }
  restore_told by speed (restore.NotHigher at now) own cells is =
      refusal (restore_said by speed) _ _ refl is.1 (is.0, rw (all_seen after.entries at is.1.place) (is.2, is.3))
  restore_told by speed (restore.OverBase at base) own cells is =
      refusal (restore_said by speed) _ _ refl is.1 (is.0, rw (all_seen after.entries at is.1.place) (is.2, is.3, is.4))
  restore_told by speed (restore.JournalFull at) own cells is =
      refusal (restore_said by speed) _ _ refl is.1 (is.0, rw (all_seen after.entries at is.1.place) (is.3, is.4, is.1.place ∙ is.2 ∙ ap length cells))
  restore_told by speed (restore.Restored at) own cells is =
      acceptance (restore_said by speed) (what.Restore by speed) _ is.2.0 own (λ entry front. (is.0, (entry, rw front is.2.1, is.1)))

  -- and to a publication
  abbrev pub publish_said : Preparation → Told → Type 0
  publish_said prep told = SaysPublish land (length before.cells) after.entries (answered line told) (Some prep) told.reply

  pub publish_told : (prep : Preparation) (said : PublishReply) → line.actor ≡ before.actor → after.cells ≡ before.cells →
      Publishes land.graph line.number prep before after said → IsTold before after (publish_said prep) (told_of_publish said)
  publish_told prep (publish.NotInForce at by earlier now) own cells is =
      let Says : List Entry → Type 0 = λ h. (earlier ≡ limit_in prep.snapshot by) × (now ≡ limit_after land.graph h by) × IsFirstBelow land.graph (limit_after land.graph h) prep.snapshot by in
      refusal (publish_said prep) _ _ refl is.0 (subst Says (sym (all_seen after.entries at is.0.place)) (is.2, is.3, is.1))
  publish_told prep (publish.JournalFull at) own cells is =
      refusal (publish_said prep) _ _ refl is.0 (rw (all_seen after.entries at is.0.place) (is.2, is.0.place ∙ is.1 ∙ ap length cells))
  publish_told prep (publish.Published at) own cells is =
      acceptance (publish_said prep) (what.Publish prep) _ is.0 own (λ entry front. (entry, rw front is.1))
