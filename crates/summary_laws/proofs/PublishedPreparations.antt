-- What was prepared is published: it is held, and no limit rose above its snapshot's.
use Rattle.std.proofs.Common.{◌≡◌, ℕ, ◌≤◌, Bool, true, cond, List, [], ◌∷◌, ◌++◌, length, take, Option, None, Some, Contains, refl, ap, subst, ◌∙◌, arith}
use Rattle.std.specs.List.{last_or}
use Rattle.landmark_prep.specs.Preparations.{Preparation}
use Rattle.traffic_core.specs.declared.entry.Entry.{Entry}
use Rattle.traffic_core.specs.Lands.{Land}
use Rattle.traffic_core.specs.Truth.{IsNoPrepAt, IsPrepAt}
use Rattle.script_text.specs.declared.reply.Reply.{Reply}
use Rattle.script_text.specs.declared.reply.Reply.TheVariants as reply
use Rattle.script_text.specs.declared.script.Command.{Command}
use Rattle.script_text.specs.declared.script.Command.TheVariants as command
use Rattle.script_service.specs.Answering.{Answered, is_accepted, own_of}
use Rattle.script_service.specs.Replying.{IsHeldAfter, IsLeft, IsRightPublish, IsRightTo, SaysPrepare, SaysPublish, last_settling, settles, settles_by}
use Rattle.summary_laws.proofs.AnsweredScripts.{IsPlayed, changes, never_full}
use Rattle.summary_laws.proofs.FirstLowerings.{falls, past_before}

-- a reply that tells of a preparation
pub record IsPrepared (land : Land) (journal : List Entry) (p : Answered) : Type 0 where
  pub count : ℕ
  pub said : p.reply ≡ reply.Prepared count
  pub prep : Preparation
  pub is_prep : IsPrepAt land (take p.at journal) 0 4 prep
  pub count_is : count ≡ length prep.landmarks

held_some : (land : Land) (journal : List Entry) (p : Answered) (o : Option Answered) (held : Option Preparation) → o ≡ Some p → IsHeldAfter land journal o held → IsLeft land journal p p.line.command held
held_some land journal p o held is holds = subst (λ (x : Option Answered). IsHeldAfter land journal x held) is holds

module _ (land : Land) (journal : List Entry) (all : List Answered) (played : IsPlayed land journal all) (some_open : (count : ℕ) → IsNoPrepAt land (take count journal) 0 → ⊥) where
  prepare_says : (p : Answered) (said : Reply) → p.reply ≡ said → SaysPrepare land 9 journal p 0 4 said → IsPrepared land journal p
  prepare_says p reply.NoLandmark is says = absurd (some_open p.at says)
  prepare_says p (reply.Prepared count) is says = record { count = count; said = is; prep = says.0; is_prep = says.1; count_is = says.2 }
  prepare_says p other is says = absurd says

  pub prepared : (x z : List Answered) (p : Answered) → all ≡ x ++ p ∷ z → p.line.command ≡ command.Prepare 0 4 → IsPrepared land journal p
  prepared x z p is prepares =
      prepare_says p p.reply refl (subst (λ (c : Command). IsRightTo land 9 journal (own_of p.line.actor x) p c) prepares (played.right x z p is))

  publish_says : (x z : List Answered) (q : Answered) → all ≡ x ++ q ∷ z → q.line.command ≡ command.Publish 0 → (h : ℕ) → h ≤ q.at → (prep : Preparation) → IsPrepAt land (take h journal) 0 4 prep →
      (said : Reply) → q.reply ≡ said → SaysPublish land 9 journal q (Some prep) said → is_accepted q.reply ≡ true
  publish_says x z q is publishes h before prep prepared reply.Published said says = ap is_accepted said
  publish_says x z q is publishes h before prep prepared (reply.NotInForce by earlier now) said says =
      let below = says.2.below in
      let then = prepared.snapshot.each by in
      let fall = falls land journal all played by h q.at before in
      absurd (omega (arith, below, then, fall))
  publish_says x z q is publishes h before prep prepared reply.JournalFull said says =
      absurd (never_full land journal all played x z q is (ap changes publishes) (ap is_accepted said) says.1)
  publish_says x z q is publishes h before prep prepared other said says = absurd says

  -- an actor that prepared, and did nothing else, publishes that
  pub published : (x z : List Answered) (q p : Answered) → all ≡ x ++ q ∷ z → q.line.command ≡ command.Publish 0 → own_of q.line.actor x ≡ p ∷ [] → p.line.command ≡ command.Prepare 0 4 →
      Contains x p → p.line.actor ≡ q.line.actor → IsPrepared land journal p → is_accepted q.reply ≡ true
  published x z q p is publishes own prepares has same made =
      let right : IsRightPublish land 9 journal (p ∷ []) q 0 = subst (λ (l : List Answered). IsRightPublish land 9 journal l q 0) own
      (subst (λ (c : Command). IsRightTo land 9 journal (own_of q.line.actor x) q c) publishes (played.right x z q is)) in
      let settled : settles 0 p ≡ true = ap (λ (c : Command). settles_by 0 c p.reply) prepares ∙ ap (settles_by 0 (command.Prepare 0 4)) made.said in
      let last : last_settling 0 (p ∷ []) ≡ Some p = ap (λ (b : Bool). last_or None (cond b (p ∷ []) [])) settled in
      let left : IsLeft land journal p (command.Prepare 0 4) right.held = subst (λ (c : Command). IsLeft land journal p c right.held) prepares (held_some land journal p (last_settling 0 (p ∷ [])) right.held last right.held_is) in
      let says : SaysPublish land 9 journal q (Some left.0) q.reply = subst (λ (held : Option Preparation). SaysPublish land 9 journal q held q.reply) left.1 right.says in
      let past = past_before land journal all played x z q p is has same in
      publish_says x z q is publishes p.at past.least left.0 left.2 q.reply refl says
