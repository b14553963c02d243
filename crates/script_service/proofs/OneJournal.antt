-- Replies have one journal.
use Rattle.std.proofs.Common.{◌≡◌, ℕ, zero, suc, ◌+◌, ◌-◌, ◌<◌, ◌≤◌, true, List, [], ◌∷◌, ◌++◌, length, get_or, take, slice_get, eqb, sym, ap, subst, refl, ◌∙◌, arith, inl, inr, false, All, Option, None, Some, take-suc, take_all}
use Rattle.std.proofs.lemmas.Bool.{eqb-true, cases_lt}
use Rattle.std.proofs.lemmas.List.Elements.{All-filter, filter_passes}
use Rattle.std.proofs.lemmas.Option.{get_or_from_slice_get}
use Rattle.landmark_prep.specs.Preparations.{Preparation, IsPrepOf}
use Rattle.landmark_prep.specs.Laws.{PreparationsAreOne}
use Rattle.traffic_core.specs.declared.entry.Entry.{Entry}
use Rattle.traffic_core.specs.declared.entry.What.{What}
use Rattle.traffic_core.specs.declared.entry.What.TheVariants as what
use Rattle.traffic_core.specs.Lands.{Land}
use Rattle.traffic_core.specs.History.{limit_in}
use Rattle.traffic_core.specs.Truth.{IsPrepAt, network_at}
use Rattle.script_text.specs.declared.script.Script.{Script}
use Rattle.script_text.specs.declared.script.Command.{Command}
use Rattle.script_text.specs.declared.script.Command.TheVariants as command
use Rattle.script_service.specs.Answering.{Answered, joined, own_of, is_accepted}
use Rattle.traffic_core.specs.Trips.{along}
use Rattle.script_service.specs.Replying.{IsRightAfter, IsLeft, IsHeldAfter, last_settling}
use Rattle.script_service.specs.Fitting.{SeesOwn, SeesInOrder, Begins}
use Rattle.script_service.specs.Writing.{Fits, lines_text, journal_text}
use Rattle.script_service.proofs.ListsAndPairs.{pairs_before, pairs_joined, cut_at}
use Rattle.script_service.proofs.HeldPreparations.{OfSome, settled_within}
use Rattle.script_service.proofs.RightReplies.{IsChange, has_entry}
use Rattle.script_service.proofs.LimitLists.{one_limit_list}

-- what an accepted reply's actor was answered before it speaks of fewer entries
own_before : (phases : List (List Answered)) (count : ℕ) (x z : List Answered) (a : Answered) → SeesInOrder phases count → joined phases ≡ x ++ a ∷ z → is_accepted a.reply ≡ true →
    All (λ (b : Answered). b.at < a.at) (own_of a.line.actor x)
own_before phases count x z a sees is took =
    let pairs = pairs_joined SeesOwn phases (λ i j d below within k e h m f l same. sees.told i j d below within k e h m f l) sees.seen in
    let before = pairs_before SeesOwn x z a (rw is at pairs) in
    let own = All-filter (λ (b : Answered). eqb b.line.actor a.line.actor) (λ (b : Answered). SeesOwn b a) x before in
    λ k d h.
    let same = eqb-true (get_or (own_of a.line.actor x) k d).line.actor a.line.actor (filter_passes (λ (b : Answered). eqb b.line.actor a.line.actor) x k d h) in
    (own k d h same).own took

-- lists that agree in their first n entries
abbrev Agree : ℕ → List Entry → List Entry → Type 0
Agree n one two = (k : ℕ) → k ≤ n → take k one ≡ take k two

module _ (preparations_are_one : PreparationsAreOne) where
  same_prep : (land : Land) (h : List Entry) (profile count : ℕ) (one two : Preparation) → IsPrepAt land h profile count one → IsPrepAt land h profile count two → one ≡ two
  same_prep land h profile count one two is other =
      let limits = one_limit_list land.graph h one.snapshot two.snapshot is.snapshot other.snapshot in
      preparations_are_one (network_at land profile (limit_in two.snapshot)) count one two
      (subst (λ (snapshot : List ℕ). IsPrepOf (network_at land profile (limit_in snapshot)) count one) limits is.is_prep) other.is_prep (is.of_profile ∙ sym other.of_profile) limits

  left_once : (land : Land) (one two : List Entry) (a : Answered) (c : Command) (x y : Preparation) → take a.at one ≡ take a.at two → IsLeft land one a c (Some x) → IsLeft land two a c (Some y) → x ≡ y
  left_once land one two a (command.Prepare profile count) x y same is other =
      let first : x ≡ is.0 = let some = is.1 in cc in
      let second : y ≡ other.0 = let some = other.1 in cc in
      first ∙ same_prep land (take a.at two) profile count is.0 other.0 (rw same at is.2) other.2 ∙ sym second
  left_once land one two a c x y same is other = absurd (let none = is in cc)

  held_once_after : (land : Land) (one two : List Entry) (n : ℕ) (last : Option Answered) (x y : Preparation) → Agree n one two → OfSome (λ b. b.at ≤ n) last →
      IsHeldAfter land one last (Some x) → IsHeldAfter land two last (Some y) → x ≡ y
  held_once_after land one two n None x y same within is other = absurd (let none = is in cc)
  held_once_after land one two n (Some a) x y same within is other = left_once land one two a a.line.command x y (same a.at within) is other

  same_change : (land : Land) (one two : List Entry) (n : ℕ) (own : List Answered) (c : Command) (x y : What) → Agree n one two → All (λ (b : Answered). b.at ≤ n) own →
      IsChange land one own c x → IsChange land two own c y → x ≡ y
  same_change land one two n own (command.Lower edge reverse speed) x y same within is other = is ∙ sym other
  same_change land one two n own (command.Restore edge reverse speed) x y same within is other = is ∙ sym other
  same_change land one two n own (command.Publish profile) x y same within is other =
      is.2 ∙ ap (λ (prep : Preparation). what.Publish prep) (held_once_after land one two n (last_settling profile own) is.0 other.0 same (settled_within profile own n within) is.1 other.1) ∙ sym other.2
  same_change land one two n own c x y same within is other = absurd is

  same_entry : (land : Land) (capacity : ℕ) (one two : List Entry) (own : List Answered) (a : Answered) (n : ℕ) (d : Entry) → Agree n one two → All (λ (b : Answered). b.at < a.at) own → a.at ≡ n + 1 →
      is_accepted a.reply ≡ true → IsRightAfter land capacity one own a → IsRightAfter land capacity two own a → get_or one n d ≡ get_or two n d
  same_entry land capacity one two own a n d same before at took right right' =
      let fewer : All (λ (b : Answered). b.at ≤ n) own = λ k e h. let was = before k e h in omega arith in
      let here : a.at - 1 ≡ n = omega arith in
      let first = has_entry land capacity one own a right took in
      let second = has_entry land capacity two own a right' took in
      let change = same_change land one two n own a.line.command first.change second.change same fewer first.of_command second.of_command in
      let mine : What → Entry = λ x. record { actor = a.line.actor; number = a.line.number; what = x } in
      get_or_from_slice_get one n (mine first.change) d (subst (λ k. slice_get one k ≡ Some (mine first.change)) here first.is.1) ∙ ap mine change
      ∙ sym (get_or_from_slice_get two n (mine second.change) d (subst (λ k. slice_get two k ≡ Some (mine second.change)) here second.is.1))

  same_front : (land : Land) (script : Script) (phases : List (List Answered)) (one two : List Entry) (count : ℕ) → Begins land script phases one count → Begins land script phases two count →
      (n : ℕ) → n ≤ length one → Agree n one two
  same_front land script phases one two count a b zero within k below = let none : k ≡ 0 = omega arith in rw none refl
  same_front land script phases one two count a b (suc n) within k below =
      let front = same_front land script phases one two count a b n (omega arith) in
      let lens = a.journal_is.count ∙ sym b.journal_is.count in
      let given = a.journal_is.each (n + 1) (omega arith) (omega arith) in
      let x = given.0 in
      let cut = cut_at (joined phases) x given.1 in
      let own : List Answered = own_of x.line.actor cut.front in
      let before = own_before phases _ cut.front cut.back x a.sees cut.is given.2 in
      elim (cases_lt n k) [
        | inr inside ↦ front k inside
        | inl last ↦
            let is : k ≡ suc n = omega arith in
            let d : Entry = get_or one n (record { actor = 0; number = 0; what = what.Lower (along (record { 0 = 0 }) false) 0 }) in
            let entry = same_entry land script.capacity one two own x n d front before given.3 given.2 (a.right cut.front cut.back x cut.is) (b.right cut.front cut.back x cut.is) in
            rw is (take-suc one n d (omega arith) ∙ ap (λ (l : List Entry). l ++ get_or one n d ∷ []) (front n (omega arith)) ∙ ap (λ (e : Entry). take n two ++ e ∷ []) entry ∙ sym (take-suc two n d (omega arith)))
      ]

  pub one_journal : (land : Land) (script : Script) (phases : List (List Answered)) (one two : List Entry) (count : ℕ) → Begins land script phases one count → Begins land script phases two count → one ≡ two
  one_journal land script phases one two count a b =
      let lens = a.journal_is.count ∙ sym b.journal_is.count in
      sym (take_all (length one) one (omega arith)) ∙ same_front land script phases one two count a b (length one) (omega arith) (length one) (omega arith) ∙ take_all (length one) two (omega arith)

  pub one_text : (land : Land) (script : Script) (text other : List ℕ) (fits : Fits land script text) (also : Fits land script other) → fits.phases ≡ also.phases → text ≡ other
  one_text land script text other fits also same =
      let begins = subst (λ (phases : List (List Answered)). Begins land script phases fits.journal (length script.phases)) same fits.begins in
      let journals = one_journal land script also.phases fits.journal also.journal (length script.phases) begins also.begins in
      let text_of : List (List Answered) → List Entry → List ℕ = λ phases journal. lines_text script.actors (joined phases) ++ journal_text script.actors land.profiles journal in
      fits.text_is ∙ ap (λ (phases : List (List Answered)). text_of phases fits.journal) same ∙ ap (text_of also.phases) journals ∙ sym also.text_is
