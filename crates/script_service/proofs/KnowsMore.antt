-- What an actor knows behind one reply more.
use Rattle.std.proofs.Common.{◌≡◌, ◌<◌, ◌++◌, ◌∷◌, ◌∙◌, ℕ, Bool, true, false, List, [], length, filter, Option, None, Some, refl, sym, ap, subst}
use Rattle.std.specs.Prelude.{slice_index_or}
use Rattle.std.specs.List.{last_or}
use Rattle.std.proofs.lemmas.List.{append-nil}
use Rattle.std.proofs.lemmas.List.Elements.{filter-append}
use Rattle.landmark_prep.specs.Preparations.{Preparation}
use Rattle.weighting.specs.declared.profile.Profile.{Profile}
use Rattle.traffic_core.specs.declared.entry.Entry.{Entry}
use Rattle.traffic_core.specs.Lands.{Land}
use Rattle.route_sessions.specs.Sessions.{InForce, first_rule}
use Rattle.script_service.specs.Answering.{Answered, rule_behind, rule_from, rule_after}
use Rattle.script_service.specs.Replying.{settles, last_settling, IsLeft, IsHeld, IsHeldAfter}
use Rattle.script_service.specs.Going.{Knowing, Knows}

rule_from_push : (profiles : List Profile) (rule : InForce) (own : List Answered) (a : Answered) →
    rule_from profiles rule (own ++ a ∷ []) ≡ rule_behind profiles (rule_from profiles rule own) a.line.command
rule_from_push profiles rule [] a = refl
rule_from_push profiles rule (b ∷ own) a = rule_from_push profiles (rule_behind profiles rule b.line.command) own a

rule_after_push : (profiles : List Profile) (own : List Answered) (a : Answered) →
    rule_after profiles (own ++ a ∷ []) ≡ rule_behind profiles (rule_after profiles own) a.line.command
unfolding rule_after
rule_after_push profiles own a = rule_from_push profiles first_rule own a

last_or_push : (o : Option Answered) (xs : List Answered) (a : Answered) → last_or o (xs ++ a ∷ []) ≡ Some a
last_or_push o [] a = refl
last_or_push o (x ∷ xs) a = last_or_push (Some x) xs a

-- a reply that settles it is the last that does
settled_push : (profile : ℕ) (own : List Answered) (a : Answered) → settles profile a ≡ true → last_settling profile (own ++ a ∷ []) ≡ Some a
settled_push profile own a is =
    rw (filter-append (settles profile) own (a ∷ []), is) (last_or_push None (filter (settles profile) own) a)

-- another leaves it as it was
unsettled_push : (profile : ℕ) (own : List Answered) (a : Answered) → settles profile a ≡ false → last_settling profile (own ++ a ∷ []) ≡ last_settling profile own
unsettled_push profile own a is =
    rw (filter-append (settles profile) own (a ∷ []), is, append-nil (filter (settles profile) own)) refl

-- what is held of a profile behind a reply: what it leaves where it settles that, and else what was held before
pub record IsNext (land : Land) (ys : List Entry) (profile : ℕ) (a : Answered) (before after : Option Preparation) : Type 0 where
  pub stays : settles profile a ≡ false → after ≡ before
  pub left : settles profile a ≡ true → IsLeft land ys a a.line.command after

held_next : (land : Land) (ys : List Entry) (profile : ℕ) (own : List Answered) (a : Answered) (before after : Option Preparation) (settled : Bool) → settles profile a ≡ settled →
    IsNext land ys profile a before after → IsHeld land ys profile own before → IsHeld land ys profile (own ++ a ∷ []) after
held_next land ys profile own a before after true is next held =
    subst (λ (last : Option Answered). IsHeldAfter land ys last after) (sym (settled_push profile own a is)) (next.left is)
held_next land ys profile own a before after false is next held =
    let same : last_settling profile own ≡ last_settling profile (own ++ a ∷ []) = sym (unsettled_push profile own a is) in
    let was : IsHeldAfter land ys (last_settling profile own) after = subst (λ (p : Option Preparation). IsHeldAfter land ys (last_settling profile own) p) (sym (next.stays is)) held in
    subst (λ (last : Option Answered). IsHeldAfter land ys last after) same was

-- the rule behind the command, and of each profile what is held behind the reply
pub knows_more : (land : Land) (ys : List Entry) (own : List Answered) (a : Answered) (before after : Knowing) →
    after.rule ≡ rule_behind land.profiles before.rule a.line.command → length after.held ≡ length before.held →
    ((profile : ℕ) → profile < length land.profiles → IsNext land ys profile a (slice_index_or before.held profile None) (slice_index_or after.held profile None)) →
    Knows land ys own before → Knows land ys (own ++ a ∷ []) after
knows_more land ys own a before after rule long each knows = record {
  rule_is = rule ∙ ap (λ (r : InForce). rule_behind land.profiles r a.line.command) knows.rule_is ∙ sym (rule_after_push land.profiles own a);
  held_is = λ profile there. held_next land ys profile own a _ _ (settles profile a) refl (each profile there) (knows.held_is profile there);
  long = long ∙ knows.long;
}

-- behind no reply
pub knows_nothing : (land : Land) (journal : List Entry) (k : Knowing) → k.rule ≡ first_rule → ((profile : ℕ) → slice_index_or k.held profile None ≡ None) → length k.held ≡ length land.profiles →
    Knows land journal [] k
unfolding rule_after
knows_nothing land journal k first none long = record {
  rule_is = first;
  held_is = λ profile there. none profile;
  long = long;
}
