-- Of a script of a size one reply tells of landmarks, and it tells of four.
use Rattle.std.proofs.Common.{◌≡◌, ◌∙◌, ℕ, ◌≤◌, List, ◌∷◌, ◌++◌, length, take, Option, None, Some, Contains, refl, sym, ap, subst}
use Rattle.gh_base.specs.declared.edges.DirEdge.{DirEdge}
use Rattle.gh_base.specs.declared.query.RouteAnswer.{RouteAnswer}
use Rattle.gh_base.specs.declared.query.RouteAnswer.TheVariants as answer
use Rattle.landmark_prep.specs.Preparations.{Preparation}
use Rattle.traffic_core.specs.declared.entry.Entry.{Entry}
use Rattle.traffic_core.specs.Lands.{Land}
use Rattle.traffic_core.specs.Truth.{IsNoPrepAt}
use Rattle.script_text.specs.declared.reply.Reply.{Reply}
use Rattle.script_text.specs.declared.reply.Reply.TheVariants as reply
use Rattle.script_text.specs.declared.script.Command.{Command}
use Rattle.script_text.specs.declared.script.Command.TheVariants as command
use Rattle.script_service.specs.Answering.{Answered, own_of}
use Rattle.script_service.specs.Replying.{IsRightTo, SaysLower, SaysPublish, reply_of}
use Rattle.summary_laws.proofs.Directions.{by_number}
use Rattle.generated_run.specs.Generating.{AreRoadsOfSize}
use Rattle.generated_run.specs.Summaries.{landmarks_of}
use Rattle.summary_laws.proofs.FullChoice.{landmarks_are_four}
use Rattle.summary_laws.proofs.AnsweredScripts.{IsLineOf, IsPlayed, contains_at, line_of, mild}
use Rattle.summary_laws.proofs.PublishedPreparations.{prepared}

-- how many landmarks the reply to a command tells of
abbrev pub landmarks_in : Command → ℕ
landmarks_in (command.Prepare profile count) = 4
landmarks_in other = 0

lower_none : (land : Land) (journal : List Entry) (a : Answered) (by : DirEdge) (speed : ℕ) (said : Reply) → SaysLower land 9 journal a by speed said → landmarks_of said ≡ 0
lower_none land journal a by speed reply.NoSuchEdge says = refl
lower_none land journal a by speed (reply.NotLower now) says = refl
lower_none land journal a by speed reply.JournalFull says = refl
lower_none land journal a by speed reply.Lowered says = refl
lower_none land journal a by speed other says = absurd says

publish_none : (land : Land) (journal : List Entry) (a : Answered) (held : Option Preparation) (said : Reply) → SaysPublish land 9 journal a held said → landmarks_of said ≡ 0
publish_none land journal a None said says = ap landmarks_of says
publish_none land journal a (Some prep) (reply.NotInForce by earlier now) says = refl
publish_none land journal a (Some prep) reply.JournalFull says = refl
publish_none land journal a (Some prep) reply.Published says = refl
publish_none land journal a (Some prep) other says = absurd says

route_none : (said : RouteAnswer) → landmarks_of (reply_of said) ≡ 0
route_none (answer.NoNode id) = refl
route_none (answer.NoSnap point) = refl
route_none (answer.NoRoute settled) = refl
route_none (answer.WeightOverflow weight) = refl
route_none (answer.Walk weight mm settled hops) = refl
route_none (answer.Labelled weight labels) = refl

module _ (size : ℕ) (two : 2 ≤ size) (few : size ≤ 300) (land : Land) (are : AreRoadsOfSize size land) (journal : List Entry) (all : List Answered) (played : IsPlayed land journal all)
    (some_open : (count : ℕ) → IsNoPrepAt land (take count journal) 0 → ⊥) where
  tells_by : (x z : List Answered) (a : Answered) → all ≡ x ++ a ∷ z → (c : Command) → a.line.command ≡ c → IsLineOf (length land.graph.edges) a.line.actor c → landmarks_of a.reply ≡ landmarks_in c
  tells_by x z a is (command.Lower edge reverse speed) commands line =
      lower_none land journal a (by_number edge reverse) speed a.reply (subst (λ (c : Command). IsRightTo land 9 journal (own_of a.line.actor x) a c) commands (played.right x z a is))
  tells_by x z a is (command.Prepare profile count) commands line =
      let prepares : a.line.command ≡ command.Prepare 0 4 = commands ∙ ap (λ (n : ℕ). command.Prepare n count) line.1 ∙ ap (λ (n : ℕ). command.Prepare 0 n) line.2 in
      let made = prepared land journal all played some_open x z a is prepares in
      ap landmarks_of made.said ∙ made.count_is ∙ landmarks_are_four size two few land are journal (mild land journal all played) a.at made.prep made.is_prep
  tells_by x z a is (command.Publish profile) commands line =
      let right = subst (λ (c : Command). IsRightTo land 9 journal (own_of a.line.actor x) a c) commands (played.right x z a is) in
      publish_none land journal a right.held a.reply right.says
  tells_by x z a is (command.Route start target labels) commands line =
      let right = subst (λ (c : Command). IsRightTo land 9 journal (own_of a.line.actor x) a c) commands (played.right x z a is) in
      ap landmarks_of right.route.printed ∙ route_none right.route.answer
  tells_by x z a is (command.Restore edge reverse speed) commands line = absurd line
  tells_by x z a is (command.Model profile text) commands line = absurd line

  pub tells_of_landmarks : (x z : List Answered) (a : Answered) → all ≡ x ++ a ∷ z → landmarks_of a.reply ≡ landmarks_in a.line.command
  tells_of_landmarks x z a is =
      tells_by x z a is a.line.command refl (line_of land journal all played a (subst (λ (l : List Answered). Contains l a) (sym is) (contains_at x z a)))
