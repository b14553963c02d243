-- One command was answered: what its reply says, and what its actor knows then.
use Rattle.std.proofs.Common.{◌≡◌, ◌<◌, ◌∙◌, ℕ, Bool, false, List, length, take, Option, None, Some, eqb, refl, sym, ap, subst, arith, get_or-set_same, get_or-set_other}
use Rattle.std.specs.Prelude.{slice_index_or, slice_set, Result, Ok, Err, IfOk}
use Rattle.gh_base.specs.declared.faults.NoMemory.{NoMemory}
use Rattle.std.proofs.Math.Seq.{take-length}
use Rattle.std.proofs.lemmas.List.{length-set}
use Rattle.std.proofs.lemmas.Bool.{eqb-true, eq-eqb}
use Rattle.gh_base.specs.declared.query.Place.{Place as Asked}
use Rattle.landmark_prep.specs.Preparations.{Preparation}
use Rattle.traffic_core.specs.declared.entry.Entry.{Entry}
use Rattle.traffic_core.specs.Lands.{Land}
use Rattle.traffic_core.specs.Truth.{IsPrepAt, IsNoPrepAt}
use Rattle.script_text.specs.declared.script.Command.{Command}
use Rattle.script_text.specs.declared.script.Command.TheVariants as command
use Rattle.script_text.specs.declared.script.Line.{Line}
use Rattle.script_text.specs.declared.reply.Reply.TheVariants as reply
use Rattle.route_sessions.specs.declared.session.ModelReply.{ModelReply}
use Rattle.route_sessions.specs.Sessions.{InForce, reply_to, rule_with}
use Rattle.traffic_share.specs.Seats.{Place}
use Rattle.traffic_share.specs.Publishing.{Publishes}
use Rattle.traffic_share.specs.declared.replies.PublishReply.{PublishReply}
use Rattle.traffic_share.specs.declared.replies.PublishReply.TheVariants as publish
use Rattle.script_service.specs.declared.told.Told.{Told}
use Rattle.script_service.specs.Answering.{Answered, is_accepted, rule_behind, rule_after}
use Rattle.script_service.specs.Replying.{reply_of_model, asks_under, settles, settles_by, IsLeft, IsRightQuery, IsRightTo}
use Rattle.script_service.specs.Going.{Knowing, Knows, Follows}
use Rattle.script_service.specs.Telling.{answered}
use Rattle.script_service.specs.SeatReplies.{told_of_publish, left_by}
use Rattle.script_service.proofs.RightReplies.{model_refused, route_refused}
use Rattle.script_service.proofs.KnowsMore.{IsNext, knows_more}
use Rattle.script_service.proofs.SeatRows.{Speaks, IsTold, all_seen, starts_same, publish_said, publish_told}

-- by the command: the reply is right, the rule is that behind the command, and of each profile what is held follows
pub follows : (land : Land) (capacity : ℕ) (before after : Knowing) (xs ys : List Entry) (line : Line) (told : Told) (c : Command) → line.command ≡ c → Speaks xs ys told →
    ((own : List Answered) → Knows land ys own before → IsRightTo land capacity ys own (answered line told) c) →
    after.rule ≡ rule_behind land.profiles before.rule c → length after.held ≡ length before.held →
    ((profile : ℕ) → profile < length land.profiles → IsNext land ys profile (answered line told) (slice_index_or before.held profile None) (slice_index_or after.held profile None)) →
    Follows land capacity before after xs ys line (answered line told)
follows land capacity before after xs ys line told c is speaks right rule long each = record {
  line_is = refl;
  starts = speaks.starts;
  at = speaks.at;
  new = speaks.new;
  right = λ own knows. subst (IsRightTo land capacity ys own (answered line told)) (sym is) (right own knows);
  next = λ own knows. knows_more land ys own (answered line told) before after (subst (λ (d : Command). after.rule ≡ rule_behind land.profiles before.rule d) (sym is) rule) long each knows;
}

-- a command that settles nothing leaves what is held
pub stays : (land : Land) (ys : List Entry) (profile : ℕ) (line : Line) (told : Told) (held : Option Preparation) (c : Command) → line.command ≡ c → settles_by profile c told.reply ≡ false →
    IsNext land ys profile (answered line told) held held
stays land ys profile line told held c is none =
    let settled : settles profile (answered line told) ≡ false = ap (λ (d : Command). settles_by profile d told.reply) is ∙ none in
    record { stays = λ _. refl; left = λ yes. absurd cc }

-- a reply that speaks of the list as it was
unchanged : (ys : List Entry) (told : Told) → told.at ≡ length ys → is_accepted told.reply ≡ false → Speaks ys ys told
unchanged ys told at none = record { starts = starts_same ys; at = at; new = λ took. absurd cc }

-- a command behind which its actor knows what it knew
pub keeps : (land : Land) (capacity : ℕ) (k : Knowing) (xs ys : List Entry) (line : Line) (told : Told) (c : Command) → line.command ≡ c → k.rule ≡ rule_behind land.profiles k.rule c →
    ((profile : ℕ) → settles_by profile c told.reply ≡ false) → Speaks xs ys told → ((own : List Answered) → Knows land ys own k → IsRightTo land capacity ys own (answered line told) c) →
    Follows land capacity k k xs ys line (answered line told)
keeps land capacity k xs ys line told c is rule none speaks right =
    follows land capacity k k xs ys line told c is speaks right rule refl (λ p there. stays land ys p line told (slice_index_or k.held p None) c is (none p))

-- a command whose reply says this of the list, by where it stands
pub told_follows : (land : Land) (before after : Place) (k : Knowing) (line : Line) (c : Command) (Says : Told → Type 0) (told_of : ℕ → Told) (len : ℕ) (told : Told) →
    line.command ≡ c → k.rule ≡ rule_behind land.profiles k.rule c → ((profile : ℕ) → settles_by profile c told.reply ≡ false) →
    (Says told → (own : List Answered) → IsRightTo land (length before.cells) after.entries own (answered line told) c) →
    IsTold before after Says (told_of (length after.entries)) → len ≡ length after.entries → told ≡ told_of len →
    Follows land (length before.cells) k k before.entries after.entries line (answered line told)
told_follows land before after k line c Says told_of len told is rule none right row long same =
    let all : IsTold before after Says told = subst (IsTold before after Says) (ap told_of (sym long) ∙ sym same) row in
    keeps land (length before.cells) k before.entries after.entries line told c is rule none all.speaks (λ own knows. right all.says own)

pub model_follows : (land : Land) (capacity : ℕ) (ys : List Entry) (k after : Knowing) (line : Line) (profile : ℕ) (text : List ℕ) (said : ModelReply) (told : Told) →
    line.command ≡ command.Model profile text → said ≡ reply_to land.profiles profile text → after ≡ record { rule = rule_with land.profiles k.rule profile text; held = k.held } →
    told.at ≡ length ys → told.reply ≡ reply_of_model said →
    Follows land capacity k after ys ys line (answered line told)
model_follows land capacity ys k after line profile text said told is reply_is after_is at printed =
    let c : Command = command.Model profile text in
    let none : is_accepted told.reply ≡ false = ap is_accepted printed ∙ model_refused said in
    let next : Knowing = record { rule = rule_with land.profiles k.rule profile text; held = k.held } in
    subst (λ (n : Knowing). Follows land capacity k n ys ys line (answered line told)) (sym after_is)
    (follows land capacity k next ys ys line told c is (unchanged ys told at none)
    (λ own knows. printed ∙ ap reply_of_model reply_is) refl refl
    (λ p there. stays land ys p line told (slice_index_or k.held p None) c is refl))

pub route_follows : (land : Land) (capacity : ℕ) (ys : List Entry) (k : Knowing) (line : Line) (start target : Asked) (labels : Bool) (told : Told) →
    line.command ≡ command.Route start target labels → told.at ≡ length ys → IsRightQuery land ys (asks_under k.rule start target labels) told.reply →
    Follows land capacity k k ys ys line (answered line told)
route_follows land capacity ys k line start target labels told is at right =
    let c : Command = command.Route start target labels in
    let none : is_accepted told.reply ≡ false = ap is_accepted right.route.printed ∙ route_refused right.route.answer in
    let all : take told.at ys ≡ ys = rw at (take-length ys) in
    let Right : List Entry → InForce → Type 0 = λ h rule. IsRightQuery land h (asks_under rule start target labels) told.reply in
    keeps land capacity k ys ys line told c is refl (λ p. refl) (unchanged ys told at none)
    (λ own knows. subst (λ (h : List Entry). Right h (rule_after land.profiles own)) (sym all) (subst (Right ys) knows.rule_is right))

-- the preparation of one profile was replaced
settled_one : (land : Land) (ys : List Entry) (a : Answered) (held : List (Option Preparation)) (profile p : ℕ) (next : Option Preparation) → settles p a ≡ eqb profile p → profile < length held →
    IsLeft land ys a a.line.command next → IsNext land ys p a (slice_index_or held p None) (slice_index_or (slice_set held profile next) p None)
settled_one land ys a held profile p next by below left = record {
  stays = λ no. get_or-set_other held profile p next None (λ (same : p ≡ profile). absurd (let yes = eq-eqb profile p (sym same) in cc));
  left = λ yes.
      let same : profile ≡ p = eqb-true profile p (sym by ∙ yes) in
      let is : slice_index_or (slice_set held profile next) p None ≡ next = subst (λ (q : ℕ). slice_index_or (slice_set held profile next) q None ≡ next) same (get_or-set_same held profile next None below) in
      subst (IsLeft land ys a a.line.command) (sym is) left;
}

pub prepared_follows : (land : Land) (capacity : ℕ) (ys : List Entry) (k after : Knowing) (line : Line) (profile count : ℕ) (prep : Preparation) (at landmarks : ℕ) →
    line.command ≡ command.Prepare profile count → profile < length k.held → IsPrepAt land ys profile count prep → landmarks ≡ length prep.landmarks →
    after ≡ record { rule = k.rule; held = slice_set k.held profile (Some prep) } → at ≡ length ys →
    Follows land capacity k after ys ys line (answered line (record { at = at; reply = reply.Prepared landmarks }))
prepared_follows land capacity ys k after line profile count prep at landmarks is below prepared many after_is here =
    let told : Told = record { at = at; reply = reply.Prepared landmarks } in
    let c : Command = command.Prepare profile count in
    let next : Knowing = record { rule = k.rule; held = slice_set k.held profile (Some prep) } in
    let seen : IsPrepAt land (take at ys) profile count prep = rw (all_seen ys at here) prepared in
    subst (λ (n : Knowing). Follows land capacity k n ys ys line (answered line told)) (sym after_is)
    (follows land capacity k next ys ys line told c is (unchanged ys told here refl)
    (λ own knows. (prep, seen, many)) refl (length-set k.held profile (Some prep))
    (λ p there. settled_one land ys (answered line told) k.held profile p (Some prep) (ap (λ (d : Command). settles_by p d told.reply) is) below
    (subst (λ (d : Command). IsLeft land ys (answered line told) d (Some prep)) (sym is) (prep, refl, seen))))

pub no_landmark_follows : (land : Land) (capacity : ℕ) (ys : List Entry) (k : Knowing) (line : Line) (profile count at : ℕ) →
    line.command ≡ command.Prepare profile count → IsNoPrepAt land ys profile → at ≡ length ys →
    Follows land capacity k k ys ys line (answered line (record { at = at; reply = reply.NoLandmark }))
no_landmark_follows land capacity ys k line profile count at is none here =
    let told : Told = record { at = at; reply = reply.NoLandmark } in
    let c : Command = command.Prepare profile count in
    let seen : IsNoPrepAt land (take at ys) profile = rw (all_seen ys at here) none in
    keeps land capacity k ys ys line told c is refl (λ p. refl) (unchanged ys told here refl) (λ own knows. seen)

-- the actor held nothing to publish
pub nothing_follows : (land : Land) (capacity : ℕ) (ys : List Entry) (k : Knowing) (line : Line) (profile at : ℕ) →
    line.command ≡ command.Publish profile → profile < length land.profiles → slice_index_or k.held profile None ≡ None → at ≡ length ys →
    Follows land capacity k k ys ys line (answered line (record { at = at; reply = reply.Nothing }))
nothing_follows land capacity ys k line profile at is there none here =
    let told : Told = record { at = at; reply = reply.Nothing } in
    let c : Command = command.Publish profile in
    keeps land capacity k ys ys line told c is refl (λ p. refl) (unchanged ys told here refl)
    (λ own knows. record { held = None; held_is = rw none at (knows.held_is profile there); says = refl })

-- behind a publication, of each profile
left_next : (land : Land) (ys : List Entry) (line : Line) (held : List (Option Preparation)) (profile p : ℕ) (said : PublishReply) → line.command ≡ command.Publish profile → profile < length held →
    IsNext land ys p (answered line (told_of_publish said)) (slice_index_or held p None) (slice_index_or (left_by held profile said) p None)
left_next land ys line held profile p (publish.NotInForce at by earlier now) is below = stays land ys p line _ (slice_index_or held p None) (command.Publish profile) is refl
left_next land ys line held profile p (publish.JournalFull at) is below = stays land ys p line _ (slice_index_or held p None) (command.Publish profile) is refl
left_next land ys line held profile p (publish.Published at) is below =
    let told : Told = record { at = at; reply = reply.Published } in
    settled_one land ys (answered line told) held profile p None (ap (λ (d : Command). settles_by p d reply.Published) is) below
    (subst (λ (d : Command). IsLeft land ys (answered line told) d None) (sym is) refl)

left_long : (held : List (Option Preparation)) (profile : ℕ) (said : PublishReply) → length (left_by held profile said) ≡ length held
left_long held profile (publish.NotInForce at by earlier now) = refl
left_long held profile (publish.JournalFull at) = refl
left_long held profile (publish.Published at) = length-set held profile None

pub publish_follows : (land : Land) (before after : Place) (k next : Knowing) (line : Line) (profile : ℕ) (prep : Preparation) (said : PublishReply) (told : Told) →
    line.command ≡ command.Publish profile → line.actor ≡ before.actor → after.cells ≡ before.cells → profile < length land.profiles → length k.held ≡ length land.profiles →
    slice_index_or k.held profile None ≡ Some prep → Publishes land.graph line.number prep before after said →
    next ≡ record { rule = k.rule; held = left_by k.held profile said } → told ≡ told_of_publish said →
    Follows land (length before.cells) k next before.entries after.entries line (answered line told)
publish_follows land before after k next line profile prep said other is own cells there long held publishes next_is same =
    let told = told_of_publish said in
    let row : IsTold before after (publish_said land before after line prep) told = publish_told land before after line prep said own cells publishes in
    let below : profile < length k.held = omega arith in
    let left : Knowing = record { rule = k.rule; held = left_by k.held profile said } in
    let all : Follows land (length before.cells) k left before.entries after.entries line (answered line told) =
    follows land (length before.cells) k left before.entries after.entries line told (command.Publish profile) is row.speaks
    (λ own knows. record { held = Some prep; held_is = rw held at (knows.held_is profile there); says = row.says }) refl (left_long k.held profile said)
    (λ p _. left_next land after.entries line k.held profile p said is below) in
    subst (λ (t : Told). Follows land (length before.cells) k next before.entries after.entries line (answered line t)) (sym same)
    (subst (λ (n : Knowing). Follows land (length before.cells) k n before.entries after.entries line (answered line told)) (sym next_is) all)

-- where the query was answered at all
pub route_answered : (land : Land) (capacity : ℕ) (ys : List Entry) (k : Knowing) (rule : InForce) (line : Line) (start target : Asked) (labels : Bool) (told : Result Told NoMemory) →
    line.command ≡ command.Route start target labels → rule ≡ k.rule → IfOk told (λ t. t.at ≡ length ys) →
    IfOk told (λ t. IsRightQuery land ys (asks_under rule start target labels) t.reply) →
    IfOk told (λ t. Follows land capacity k k ys ys line (answered line t))
route_answered land capacity ys k rule line start target labels (Ok told) is same at right =
    let here : IsRightQuery land ys (asks_under k.rule start target labels) told.reply = subst (λ (r : InForce). IsRightQuery land ys (asks_under r start target labels) told.reply) same right in
    route_follows land capacity ys k line start target labels told is at here
route_answered land capacity ys k rule line start target labels (Err why) is same at right = tt
