-- Replies that are right stay right over a longer journal, fit together, and tell of an entry where they are accepted.
use Rattle.std.proofs.Common.{◌≡◌, ℕ, ◌-◌, ◌≤◌, Bool, true, false, List, [], ◌∷◌, ◌++◌, length, sym, ap, subst, refl, ◌∙◌, Option, None, Some, arith, append_assoc, All, eqb}
use Rattle.std.proofs.lemmas.List.{append-nil}
use Rattle.std.proofs.lemmas.List.Elements.{All-head, All-tail, All-nil, All-cons, All-push, All-filter, filter-append}
use Rattle.gh_base.specs.declared.edges.DirEdge.{DirEdge}
use Rattle.gh_base.specs.declared.query.RouteAnswer.{RouteAnswer}
use Rattle.gh_base.specs.declared.query.RouteAnswer.TheVariants as answer
use Rattle.landmark_prep.specs.Preparations.{Preparation}
use Rattle.traffic_core.specs.declared.entry.Entry.{Entry}
use Rattle.traffic_core.specs.declared.entry.What.{What}
use Rattle.traffic_core.specs.declared.entry.What.TheVariants as what
use Rattle.traffic_core.specs.Lands.{Land}
use Rattle.traffic_core.specs.History.{limit_in, limit_after, IsFirstBelow}
use Rattle.script_text.specs.declared.script.Command.{Command}
use Rattle.script_text.specs.declared.script.Command.TheVariants as command
use Rattle.script_text.specs.declared.reply.Reply.{Reply}
use Rattle.script_text.specs.declared.reply.Reply.TheVariants as reply
use Rattle.route_sessions.specs.declared.session.ModelReply.{ModelReply}
use Rattle.route_sessions.specs.declared.session.ModelReply.TheVariants as taken
use Rattle.route_sessions.specs.Sessions.{reply_to}
use Rattle.traffic_share.specs.Seats.{StartsWith}
use Rattle.script_service.specs.Answering.{Answered, own_of, is_accepted}
use Rattle.traffic_core.specs.Trips.{along}
use Rattle.script_service.specs.Replying.{reply_of, reply_of_model, IsEntry, IsHeld, SaysLower, SaysRestore, SaysPrepare, SaysPublish, IsRightTo, IsRightAfter}
use Rattle.script_service.specs.Going.{AreRight}
use Rattle.script_service.proofs.ListsAndPairs.{slice_get_append}
use Rattle.script_service.proofs.HeldPreparations.{front_is, held_later}

entry_later : (journal longer : List Entry) (a : Answered) (change : What) → StartsWith longer journal → IsEntry journal a change → IsEntry longer a change
entry_later journal longer a change starts is = (is.0, rw starts.is (slice_get_append journal starts.rest (a.at - 1) _ is.1))

lower_later : (land : Land) (capacity : ℕ) (journal longer : List Entry) (a : Answered) (by : DirEdge) (speed : ℕ) (said : Reply) → StartsWith longer journal → a.at ≤ length journal →
    SaysLower land capacity journal a by speed said → SaysLower land capacity longer a by speed said
lower_later land capacity journal longer a by speed reply.NoSuchEdge starts within is = is
lower_later land capacity journal longer a by speed (reply.NotLower now) starts within is = (is.0, rw (front_is journal longer a.at starts within) is.1)
lower_later land capacity journal longer a by speed reply.JournalFull starts within is = (is.0, rw (front_is journal longer a.at starts within) is.1)
lower_later land capacity journal longer a by speed reply.Lowered starts within is =
    (is.0, (entry_later journal longer a (what.Lower by speed) starts is.1.0, rw (front_is journal longer (a.at - 1) starts (omega arith)) is.1.1))
lower_later land capacity journal longer a by speed other starts within is = absurd is

restore_later : (land : Land) (capacity : ℕ) (journal longer : List Entry) (a : Answered) (by : DirEdge) (speed : ℕ) (said : Reply) → StartsWith longer journal → a.at ≤ length journal →
    SaysRestore land capacity journal a by speed said → SaysRestore land capacity longer a by speed said
restore_later land capacity journal longer a by speed reply.NoSuchEdge starts within is = is
restore_later land capacity journal longer a by speed (reply.NotHigher now) starts within is = (is.0, rw (front_is journal longer a.at starts within) is.1)
restore_later land capacity journal longer a by speed (reply.OverBase base) starts within is = (is.0, rw (front_is journal longer a.at starts within) is.1)
restore_later land capacity journal longer a by speed reply.JournalFull starts within is = (is.0, rw (front_is journal longer a.at starts within) is.1)
restore_later land capacity journal longer a by speed reply.Restored starts within is =
    (is.0, (entry_later journal longer a (what.Restore by speed) starts is.1.0, rw (front_is journal longer (a.at - 1) starts (omega arith)) is.1.1, is.1.2))
restore_later land capacity journal longer a by speed other starts within is = absurd is

prepare_later : (land : Land) (capacity : ℕ) (journal longer : List Entry) (a : Answered) (profile count : ℕ) (said : Reply) → StartsWith longer journal → a.at ≤ length journal →
    SaysPrepare land capacity journal a profile count said → SaysPrepare land capacity longer a profile count said
prepare_later land capacity journal longer a profile count reply.NoLandmark starts within is = rw (front_is journal longer a.at starts within) is
prepare_later land capacity journal longer a profile count (reply.Prepared landmarks) starts within is = (is.0, rw (front_is journal longer a.at starts within) is.1, is.2)
prepare_later land capacity journal longer a profile count other starts within is = absurd is

publish_later : (land : Land) (capacity : ℕ) (journal longer : List Entry) (a : Answered) (held : Option Preparation) (said : Reply) → StartsWith longer journal → a.at ≤ length journal →
    SaysPublish land capacity journal a held said → SaysPublish land capacity longer a held said
publish_later land capacity journal longer a None said starts within is = is
publish_later land capacity journal longer a (Some prep) (reply.NotInForce by earlier now) starts within is =
    let Says : List Entry → Type 0 = λ h. (earlier ≡ limit_in prep.snapshot by) × (now ≡ limit_after land.graph h by) × IsFirstBelow land.graph (limit_after land.graph h) prep.snapshot by in
    subst Says (sym (front_is journal longer a.at starts within)) is
publish_later land capacity journal longer a (Some prep) reply.JournalFull starts within is = rw (front_is journal longer a.at starts within) is
publish_later land capacity journal longer a (Some prep) reply.Published starts within is =
    (entry_later journal longer a (what.Publish prep) starts is.0, rw (front_is journal longer (a.at - 1) starts (omega arith)) is.1)
publish_later land capacity journal longer a (Some prep) other starts within is = absurd is

right_to_later : (land : Land) (capacity : ℕ) (journal longer : List Entry) (own : List Answered) (a : Answered) (c : Command) → StartsWith longer journal →
    All (λ (b : Answered). b.at ≤ length journal) own → a.at ≤ length journal → IsRightTo land capacity journal own a c → IsRightTo land capacity longer own a c
right_to_later land capacity journal longer own a (command.Model profile text) starts past within is = is
right_to_later land capacity journal longer own a (command.Route start target labels) starts past within is = rw (front_is journal longer a.at starts within) is
right_to_later land capacity journal longer own a (command.Lower edge reverse speed) starts past within is = lower_later land capacity journal longer a (along (record { 0 = edge }) reverse) speed a.reply starts within is
right_to_later land capacity journal longer own a (command.Restore edge reverse speed) starts past within is = restore_later land capacity journal longer a (along (record { 0 = edge }) reverse) speed a.reply starts within is
right_to_later land capacity journal longer own a (command.Prepare profile count) starts past within is = prepare_later land capacity journal longer a profile count a.reply starts within is
right_to_later land capacity journal longer own a (command.Publish profile) starts past within is = record {
  held = is.held;
  held_is = held_later land journal longer profile own is.held starts past is.held_is;
  says = publish_later land capacity journal longer a is.held a.reply starts within is.says;
}

pub are_right_later : (land : Land) (capacity : ℕ) (journal longer : List Entry) (past xs : List Answered) → StartsWith longer journal → All (λ (a : Answered). a.at ≤ length journal) past →
    All (λ (a : Answered). a.at ≤ length journal) xs → AreRight land capacity journal past xs → AreRight land capacity longer past xs
are_right_later land capacity journal longer past [] starts before within right = tt
are_right_later land capacity journal longer past (a ∷ xs) starts before within right =
    let here = All-head (λ (a : Answered). a.at ≤ length journal) a xs within in
    let own = All-filter (λ (b : Answered). eqb b.line.actor a.line.actor) (λ (b : Answered). b.at ≤ length journal) past before in (
      right_to_later land capacity journal longer (own_of a.line.actor past) a a.line.command starts own here right.0,
      are_right_later land capacity journal longer (past ++ a ∷ []) xs starts (All-push (λ (a : Answered). a.at ≤ length journal) past a before here) (All-tail (λ (a : Answered). a.at ≤ length journal) a xs within) right.1,
    )

-- only the actor's own past counts
pub are_right_own : (land : Land) (capacity : ℕ) (journal : List Entry) (i : ℕ) (past past' xs : List Answered) → own_of i past ≡ own_of i past' → All (λ (a : Answered). a.line.actor ≡ i) xs →
    AreRight land capacity journal past xs → AreRight land capacity journal past' xs
are_right_own land capacity journal i past past' [] same own right = tt
are_right_own land capacity journal i past past' (a ∷ xs) same own right =
    let is : a.line.actor ≡ i = All-head (λ (a : Answered). a.line.actor ≡ i) a xs own in
    let here : own_of a.line.actor past ≡ own_of a.line.actor past' = rw is same in
    let test : Answered → Bool = λ b. eqb b.line.actor i in
    let more : own_of i (past ++ a ∷ []) ≡ own_of i (past' ++ a ∷ []) = filter-append test past (a ∷ []) ∙ ap (λ (l : List Answered). l ++ own_of i (a ∷ [])) same ∙ sym (filter-append test past' (a ∷ [])) in (
      subst (λ (own : List Answered). IsRightAfter land capacity journal own a) here right.0,
      are_right_own land capacity journal i (past ++ a ∷ []) (past' ++ a ∷ []) xs more (All-tail (λ (a : Answered). a.line.actor ≡ i) a xs own) right.1,
    )

pub right_append : (land : Land) (capacity : ℕ) (journal : List Entry) (past xs ys : List Answered) → AreRight land capacity journal past xs → AreRight land capacity journal (past ++ xs) ys →
    AreRight land capacity journal past (xs ++ ys)
right_append land capacity journal past [] ys one two = rw append-nil at two
right_append land capacity journal past (x ∷ xs) ys one two =
    (one.0, right_append land capacity journal (past ++ x ∷ []) xs ys one.1 (rw append_assoc two))

-- between the definition's form and the one by recursion
pub right_at : (land : Land) (capacity : ℕ) (journal : List Entry) (past xs : List Answered) → AreRight land capacity journal past xs → (x z : List Answered) (a : Answered) → xs ≡ x ++ a ∷ z →
    IsRightAfter land capacity journal (own_of a.line.actor (past ++ x)) a
right_at land capacity journal past xs right [] z a is =
    let here : AreRight land capacity journal past (a ∷ z) = subst (AreRight land capacity journal past) is right in
    subst (λ (l : List Answered). IsRightAfter land capacity journal (own_of a.line.actor l) a) (sym (append-nil past)) here.0
right_at land capacity journal past xs right (b ∷ x) z a is =
    let here : AreRight land capacity journal past (b ∷ (x ++ a ∷ z)) = subst (AreRight land capacity journal past) is right in
    subst (λ (l : List Answered). IsRightAfter land capacity journal (own_of a.line.actor l) a) (append_assoc past (b ∷ []) x) (right_at land capacity journal (past ++ b ∷ []) (x ++ a ∷ z) here.1 x z a refl)

pub right_from : (land : Land) (capacity : ℕ) (journal : List Entry) (past xs : List Answered) →
    ((x z : List Answered) (a : Answered) → xs ≡ x ++ a ∷ z → IsRightAfter land capacity journal (own_of a.line.actor (past ++ x)) a) → AreRight land capacity journal past xs
right_from land capacity journal past [] each = tt
right_from land capacity journal past (a ∷ xs) each = (
  subst (λ (l : List Answered). IsRightAfter land capacity journal (own_of a.line.actor l) a) (append-nil past) (each [] xs a refl),
  right_from land capacity journal (past ++ a ∷ []) xs (λ x z b is.
      subst (λ (l : List Answered). IsRightAfter land capacity journal (own_of b.line.actor l) b) (sym (append_assoc past (a ∷ []) x)) (each (a ∷ x) z b (ap (λ (l : List Answered). a ∷ l) is))),
)

-- which change the entry of an accepted reply is
abbrev pub IsChange : Land → List Entry → List Answered → Command → What → Type 0
IsChange land journal own (command.Lower edge reverse speed) change = change ≡ what.Lower (along (record { 0 = edge }) reverse) speed
IsChange land journal own (command.Restore edge reverse speed) change = change ≡ what.Restore (along (record { 0 = edge }) reverse) speed
IsChange land journal own (command.Publish profile) change = (prep : Preparation) × IsHeld land journal profile own (Some prep) × (change ≡ what.Publish prep)
IsChange land journal own other change = ⊥

-- an accepted reply's entry is its actor's
pub record HasEntry (land : Land) (journal : List Entry) (own : List Answered) (a : Answered) : Type 0 where
  pub change : What
  pub is : IsEntry journal a change
  pub of_command : IsChange land journal own a.line.command change

abbrev EntryOf : Land → List Entry → List Answered → Answered → Command → Type 0
EntryOf land journal own a c = (change : What) × IsEntry journal a change × IsChange land journal own c change

refused : (said other : Reply) → said ≡ other → is_accepted other ≡ false → is_accepted said ≡ true → ⊥
refused said other is none took = let same = ap is_accepted is in cc

pub model_refused : (said : ModelReply) → is_accepted (reply_of_model said) ≡ false
model_refused taken.Taken = refl
model_refused (taken.BadJson byte kind) = refl
model_refused (taken.BadModel place kind) = refl
model_refused (taken.Speeds offender) = refl

pub route_refused : (said : RouteAnswer) → is_accepted (reply_of said) ≡ false
route_refused (answer.NoNode id) = refl
route_refused (answer.NoSnap point) = refl
route_refused (answer.NoRoute settled) = refl
route_refused (answer.WeightOverflow weight) = refl
route_refused (answer.Walk weight mm settled hops) = refl
route_refused (answer.Labelled weight labels) = refl

lower_entry : (land : Land) (capacity : ℕ) (journal : List Entry) (a : Answered) (by : DirEdge) (speed : ℕ) (said : Reply) → SaysLower land capacity journal a by speed said →
    is_accepted said ≡ true → IsEntry journal a (what.Lower by speed)
lower_entry land capacity journal a by speed reply.NoSuchEdge is took = absurd cc
lower_entry land capacity journal a by speed (reply.NotLower now) is took = absurd cc
lower_entry land capacity journal a by speed reply.JournalFull is took = absurd cc
lower_entry land capacity journal a by speed reply.Lowered is took = is.1.0
lower_entry land capacity journal a by speed other is took = absurd is

restore_entry : (land : Land) (capacity : ℕ) (journal : List Entry) (a : Answered) (by : DirEdge) (speed : ℕ) (said : Reply) → SaysRestore land capacity journal a by speed said →
    is_accepted said ≡ true → IsEntry journal a (what.Restore by speed)
restore_entry land capacity journal a by speed reply.NoSuchEdge is took = absurd cc
restore_entry land capacity journal a by speed (reply.NotHigher now) is took = absurd cc
restore_entry land capacity journal a by speed (reply.OverBase base) is took = absurd cc
restore_entry land capacity journal a by speed reply.JournalFull is took = absurd cc
restore_entry land capacity journal a by speed reply.Restored is took = is.1.0
restore_entry land capacity journal a by speed other is took = absurd is

prepare_refused : (land : Land) (capacity : ℕ) (journal : List Entry) (a : Answered) (profile count : ℕ) (said : Reply) → SaysPrepare land capacity journal a profile count said →
    is_accepted said ≡ true → ⊥
prepare_refused land capacity journal a profile count reply.NoLandmark is took = cc
prepare_refused land capacity journal a profile count (reply.Prepared landmarks) is took = cc
prepare_refused land capacity journal a profile count other is took = is

publish_entry : (land : Land) (capacity : ℕ) (journal : List Entry) (own : List Answered) (a : Answered) (profile : ℕ) (held : Option Preparation) (said : Reply) →
    IsHeld land journal profile own held → SaysPublish land capacity journal a held said → is_accepted said ≡ true → EntryOf land journal own a (command.Publish profile)
publish_entry land capacity journal own a profile None said holds is took = absurd (refused said reply.Nothing is refl took)
publish_entry land capacity journal own a profile (Some prep) (reply.NotInForce by earlier now) holds is took = absurd cc
publish_entry land capacity journal own a profile (Some prep) reply.JournalFull holds is took = absurd cc
publish_entry land capacity journal own a profile (Some prep) reply.Published holds is took = (what.Publish prep, is.0, (prep, holds, refl))
publish_entry land capacity journal own a profile (Some prep) other holds is took = absurd is

entry_to : (land : Land) (capacity : ℕ) (journal : List Entry) (own : List Answered) (a : Answered) (c : Command) → IsRightTo land capacity journal own a c → is_accepted a.reply ≡ true →
    EntryOf land journal own a c
entry_to land capacity journal own a (command.Model profile text) is took =
    absurd (refused a.reply (reply_of_model (reply_to land.profiles profile text)) is (model_refused (reply_to land.profiles profile text)) took)
entry_to land capacity journal own a (command.Route start target labels) is took = absurd (refused a.reply (reply_of is.route.answer) is.route.printed (route_refused is.route.answer) took)
entry_to land capacity journal own a (command.Lower edge reverse speed) is took =
    (what.Lower (along (record { 0 = edge }) reverse) speed, lower_entry land capacity journal a (along (record { 0 = edge }) reverse) speed a.reply is took, refl)
entry_to land capacity journal own a (command.Restore edge reverse speed) is took =
    (what.Restore (along (record { 0 = edge }) reverse) speed, restore_entry land capacity journal a (along (record { 0 = edge }) reverse) speed a.reply is took, refl)
entry_to land capacity journal own a (command.Prepare profile count) is took = absurd (prepare_refused land capacity journal a profile count a.reply is took)
entry_to land capacity journal own a (command.Publish profile) is took = publish_entry land capacity journal own a profile is.held a.reply is.held_is is.says took

pub has_entry : (land : Land) (capacity : ℕ) (journal : List Entry) (own : List Answered) (a : Answered) → IsRightAfter land capacity journal own a → is_accepted a.reply ≡ true → HasEntry land journal own a
has_entry land capacity journal own a is took =
    let entry = entry_to land capacity journal own a a.line.command is took in
    record { change = entry.0; is = entry.1; of_command = entry.2 }

-- the last entry that an accepted reply speaks of is its actor's
abbrev pub OwnsEntry : List Entry → Answered → Type 0
OwnsEntry journal a = (change : What) × IsEntry journal a change

pub have_entries : (land : Land) (capacity : ℕ) (journal : List Entry) (past xs : List Answered) → AreRight land capacity journal past xs → All (λ (a : Answered). is_accepted a.reply ≡ true → OwnsEntry journal a) xs
have_entries land capacity journal past [] right = All-nil (λ (a : Answered). is_accepted a.reply ≡ true → OwnsEntry journal a)
have_entries land capacity journal past (a ∷ xs) right =
    All-cons (λ (a : Answered). is_accepted a.reply ≡ true → OwnsEntry journal a) a xs
    (λ took. let entry = has_entry land capacity journal (own_of a.line.actor past) a right.0 took in (entry.change, entry.is))
    (have_entries land capacity journal (past ++ a ∷ []) xs right.1)
