-- A script of a size that was answered: what its lines are, and which replies change limits.
use Rattle.std.proofs.Common.{◌≡◌, ℕ, ℤ, zero, suc, ◌+◌, ◌-◌, ◌*◌, ◌<◌, ◌≤◌, ◌⊎◌, Bool, true, false, cond, List, [], ◌∷◌, ◌++◌, length, filter, get_or, slice_get, take, Option, None, Some, All, AllPairs, Contains, refl, sym, ap, subst, ◌∙◌, inl, inr, arith, length-append}
use Rattle.std.specs.Prelude.{◌==◌}
use Rattle.std.proofs.lemmas.Bool.{cases_Bool, eqb-true}
use Rattle.std.proofs.lemmas.List.Elements.{All-contains, filter-append}
use Rattle.std.proofs.lemmas.Option.{get_or_from_slice_get}
use Rattle.gh_base.specs.declared.edges.DirEdge.{DirEdge}
use Rattle.gh_base.specs.declared.query.Place.TheVariants as place
use Rattle.walk_rules.proofs.Options.{Contains-cons_cases}
use Rattle.traffic_core.specs.declared.entry.Entry.{Entry}
use Rattle.traffic_core.specs.declared.entry.What.{What}
use Rattle.traffic_core.specs.declared.entry.What.TheVariants as what
use Rattle.traffic_core.specs.History.{index_of, limit_after, speed_by, speed_on}
use Rattle.traffic_core.specs.Lands.{Land}
use Rattle.script_text.specs.declared.reply.Reply.{Reply}
use Rattle.script_text.specs.declared.reply.Reply.TheVariants as reply
use Rattle.script_text.specs.declared.script.Command.{Command}
use Rattle.script_text.specs.declared.script.Command.TheVariants as command
use Rattle.script_service.specs.Answering.{Answered, accepted, is_accepted, own_of}
use Rattle.script_service.specs.Fitting.{IsGiven, SeesOwn}
use Rattle.script_service.specs.Replying.{IsEntry, IsRightAfter, SaysLower}
use Rattle.summary_laws.proofs.Directions.{by_number}
use Rattle.script_service.proofs.ListsAndPairs.{cut_at}
use Rattle.script_service.proofs.RightReplies.{IsChange, has_entry}
use Rattle.summary_laws.proofs.LimitsOfTen.{IsMild, SomeMarks}

-- which lines the script of a size over so many edges has
abbrev pub IsLineOf : ℕ → ℕ → Command → Type 0
IsLineOf edges actor (command.Lower edge reverse speed) = (actor ≡ 0) × (edge < edges) × (reverse ≡ false) × (speed ≡ 10000)
IsLineOf edges actor (command.Prepare profile count) = (actor ≡ 1) × (profile ≡ 0) × (count ≡ 4)
IsLineOf edges actor (command.Publish profile) = (actor ≡ 1) × (profile ≡ 0)
IsLineOf edges actor (command.Route start target labels) = (labels ≡ false) × ((id : ℤ) × (start ≡ place.Id id)) × ((id : ℤ) × (target ≡ place.Id id))
IsLineOf edges actor other = ⊥

-- whether a command may change roads, and whether it asks
abbrev pub changes : Command → Bool
changes (command.Lower edge reverse speed) = true
changes (command.Restore edge reverse speed) = true
changes (command.Publish profile) = true
changes other = false

abbrev pub asks : Command → Bool
asks (command.Route start target labels) = true
asks other = false

-- a query is answered past each change before it
abbrev pub SeesChanges : Answered → Answered → Type 0
SeesChanges b a = changes b.line.command ≡ true → asks a.line.command ≡ true → b.at ≤ a.at

-- all replies to the script of a size, with the journal
pub record IsPlayed (land : Land) (journal : List Entry) (all : List Answered) : Type 0 where
  pub lines_are : All (λ (a : Answered). IsLineOf (length land.graph.edges) a.line.actor a.line.command) all
  pub pairs : AllPairs SeesOwn all
  pub later : AllPairs SeesChanges all
  pub within : All (λ (a : Answered). a.at ≤ length journal) all
  pub right : (x z : List Answered) (a : Answered) → all ≡ x ++ a ∷ z → IsRightAfter land 9 journal (own_of a.line.actor x) a
  pub count : length journal ≡ accepted all
  pub each : (k : ℕ) → 1 ≤ k → k ≤ length journal → IsGiven all k
  pub nine : length (filter (λ (a : Answered). changes a.line.command) all) ≡ 9

-- what stands before one of a list, at it, or behind it
pub place_of : {X : Type 0} (x z : List X) (a b : X) → Contains (x ++ a ∷ z) b → Contains x b ⊎ ((a ≡ b) ⊎ Contains z b)
place_of [] z a b has = inr (Contains-cons_cases a z b has)
place_of (y ∷ x) z a b has = elim (Contains-cons_cases y (x ++ a ∷ z) b has) [
  | inl here ↦ inl (zero, omega arith, here)
  | inr more ↦ elim (place_of x z a b more) [
    | inl before ↦ inl (suc before.0, let h = before.1 in omega arith, before.2)
    | inr behind ↦ inr behind
  ]
]

pub pairs_behind : {X : Type 0} (R : X → X → Type 0) (xs zs : List X) (y : X) → AllPairs R (xs ++ y ∷ zs) → All (R y) zs
pairs_behind R [] zs y pairs = λ k d h. pairs zero (suc k) d (omega arith) (omega arith)
pairs_behind R (x ∷ xs) zs y pairs = pairs_behind R xs zs y (λ i j d below within. pairs (suc i) (suc j) d (omega arith) (omega arith))

pub contains_left : {X : Type 0} (x z : List X) (a b : X) → Contains x b → Contains (x ++ a ∷ z) b
contains_left [] z a b has = absurd (omega (arith, has.1))
contains_left (y ∷ x) z a b has = elim (Contains-cons_cases y x b has) [
  | inl here ↦ (zero, omega arith, here)
  | inr more ↦ let rest = contains_left x z a b more in (suc rest.0, let h = rest.1 in omega arith, rest.2)
]

pub contains_behind : {X : Type 0} (x z : List X) (a b : X) → Contains z b → Contains (x ++ a ∷ z) b
contains_behind [] z a b has = (suc has.0, let h = has.1 in omega arith, has.2)
contains_behind (y ∷ x) z a b has = let rest = contains_behind x z a b has in (suc rest.0, let h = rest.1 in omega arith, rest.2)

pub contains_at : {X : Type 0} (x z : List X) (a : X) → Contains (x ++ a ∷ z) a
contains_at [] z a = (zero, omega arith, refl)
contains_at (y ∷ x) z a = let rest = contains_at x z a in (suc rest.0, let h = rest.1 in omega arith, rest.2)

-- a directed edge by its place
index_one : (edge : ℕ) (by : DirEdge) (reverse : Bool) → by.reverse ≡ reverse → 2 * edge ≡ 2 * by.edge.0 + cond reverse 1 0 → by_number edge false ≡ by
index_one edge by true is same = absurd (omega arith)
index_one edge by false is same =
    let e : edge ≡ by.edge.0 = omega arith in
    ap (λ (n : ℕ). by_number n false) e ∙ ap (λ (r : Bool). by_number by.edge.0 r) (sym is)

ten_or_none : (b : Bool) (speed : ℕ) → speed ≡ 10000 → (cond {A = Option ℕ} b (Some speed) None ≡ None) ⊎ (cond {A = Option ℕ} b (Some speed) None ≡ Some 10000)
ten_or_none true speed is = inr (ap (λ n. Some n) is)
ten_or_none false speed is = inl refl

-- a change by a line of the script gives a limit of 10 km/h, or none
mild_change : (land : Land) (journal : List Entry) (own : List Answered) (edges actor : ℕ) (by : DirEdge) (c : Command) (change : What) → IsLineOf edges actor c → IsChange land journal own c change →
    (speed_by by change ≡ None) ⊎ (speed_by by change ≡ Some 10000)
mild_change land journal own edges actor by (command.Lower edge reverse speed) change is of_command =
    subst (λ (w : What). (speed_by by w ≡ None) ⊎ (speed_by by w ≡ Some 10000)) (sym of_command) (ten_or_none (index_of (by_number edge reverse) == index_of by) speed is.3)
mild_change land journal own edges actor by (command.Publish profile) change is of_command =
    subst (λ (w : What). (speed_by by w ≡ None) ⊎ (speed_by by w ≡ Some 10000)) (sym of_command.2) (inl refl)
mild_change land journal own edges actor by (command.Restore edge reverse speed) change is of_command = absurd is
mild_change land journal own edges actor by (command.Model profile text) change is of_command = absurd is
mild_change land journal own edges actor by (command.Route start target labels) change is of_command = absurd of_command
mild_change land journal own edges actor by (command.Prepare profile count) change is of_command = absurd of_command

-- what gives it one is a lowering of it
pub record IsLowering (actor : ℕ) (c : Command) (by : DirEdge) : Type 0 where
  pub edge : ℕ
  pub actor_is : actor ≡ 0
  pub command_is : c ≡ command.Lower edge false 10000
  pub by_is : by_number edge false ≡ by

pub lower_is : (edge : ℕ) (reverse : Bool) (speed : ℕ) → reverse ≡ false → speed ≡ 10000 → command.Lower edge reverse speed ≡ command.Lower edge false 10000
lower_is edge reverse speed r s = ap (λ (b : Bool). command.Lower edge b speed) r ∙ ap (λ (n : ℕ). command.Lower edge false n) s

marks_if : (b : Bool) (speed : ℕ) → cond {A = Option ℕ} b (Some speed) None ≡ Some 10000 → b ≡ true
marks_if true speed is = refl
marks_if false speed is = absurd cc

lowering_of : (land : Land) (journal : List Entry) (own : List Answered) (edges actor : ℕ) (by : DirEdge) (c : Command) (change : What) → IsLineOf edges actor c → IsChange land journal own c change →
    speed_by by change ≡ Some 10000 → IsLowering actor c by
lowering_of land journal own edges actor by (command.Lower edge reverse speed) change is of_command marks =
    let here : speed_by by (what.Lower (by_number edge reverse) speed) ≡ Some 10000 = subst (λ (w : What). speed_by by w ≡ Some 10000) of_command marks in
    let same = eqb-true (index_of (by_number edge reverse)) (index_of by) (marks_if (index_of (by_number edge reverse) == index_of by) speed here) in
    let forward : index_of (by_number edge false) ≡ index_of by = subst (λ (r : Bool). index_of (by_number edge r) ≡ index_of by) is.2 same in
    record { edge = edge; actor_is = is.0; command_is = lower_is edge reverse speed is.2 is.3; by_is = index_one edge by by.reverse refl (omega (arith, forward)) }
lowering_of land journal own edges actor by (command.Publish profile) change is of_command marks =
    absurd (let none : None ≡ Some 10000 = subst (λ (w : What). speed_by by w ≡ Some 10000) of_command.2 marks in cc)
lowering_of land journal own edges actor by (command.Restore edge reverse speed) change is of_command marks = absurd is
lowering_of land journal own edges actor by (command.Model profile text) change is of_command marks = absurd is
lowering_of land journal own edges actor by (command.Route start target labels) change is of_command marks = absurd of_command
lowering_of land journal own edges actor by (command.Prepare profile count) change is of_command marks = absurd of_command

changes_it : (land : Land) (journal : List Entry) (own : List Answered) (c : Command) (change : What) → IsChange land journal own c change → changes c ≡ true
changes_it land journal own (command.Lower edge reverse speed) change is = refl
changes_it land journal own (command.Restore edge reverse speed) change is = refl
changes_it land journal own (command.Publish profile) change is = refl
changes_it land journal own (command.Model profile text) change is = absurd is
changes_it land journal own (command.Route start target labels) change is = absurd is
changes_it land journal own (command.Prepare profile count) change is = absurd is

-- an answer to a lowering
pub record IsTaken (land : Land) (journal : List Entry) (a : Answered) (by : DirEdge) : Type 0 where
  pub took : is_accepted a.reply ≡ true
  pub entry : IsEntry journal a (what.Lower by 10000)
  pub above : 10000 < limit_after land.graph (take (a.at - 1) journal) by

pub record IsRefused (land : Land) (journal : List Entry) (a : Answered) (by : DirEdge) : Type 0 where
  pub refused : is_accepted a.reply ≡ false
  pub why : (limit_after land.graph (take a.at journal) by ≤ 10000) ⊎ (a.at ≡ 9)

pub answer_of : (land : Land) (journal : List Entry) (a : Answered) (by : DirEdge) (said : Reply) → a.reply ≡ said → by.edge.0 < length land.graph.edges → SaysLower land 9 journal a by 10000 said →
    IsTaken land journal a by ⊎ IsRefused land journal a by
answer_of land journal a by reply.Lowered is there says = inl (record { took = ap is_accepted is; entry = says.1.0; above = says.1.1 })
answer_of land journal a by (reply.NotLower now) is there says = inr (record { refused = ap is_accepted is; why = inl (let seen = says.1.0 in let low = says.1.1 in omega (arith, seen, low)) })
answer_of land journal a by reply.JournalFull is there says = inr (record { refused = ap is_accepted is; why = inr says.1.1 })
answer_of land journal a by reply.NoSuchEdge is there says = absurd (omega (arith, there, says))
answer_of land journal a by other is there says = absurd says

accepted_within : (xs : List Answered) → ((a : Answered) → Contains xs a → is_accepted a.reply ≡ true → changes a.line.command ≡ true) →
    length (filter (λ (a : Answered). is_accepted a.reply) xs) ≤ length (filter (λ (a : Answered). changes a.line.command) xs)
accepted_within [] each = omega arith
accepted_within (a ∷ xs) each =
    let rest = accepted_within xs (λ b has took. each b (suc has.0, let h = has.1 in omega arith, has.2) took) in
    elim (cases_Bool (is_accepted a.reply)) [
      | inl t ↦ let c = each a (zero, omega arith, refl) t in rw (t, c) (omega (arith, rest))
      | inr f ↦ elim (cases_Bool (changes a.line.command)) [
        | inl c ↦ rw (f, c) (omega (arith, rest))
        | inr n ↦ rw (f, n) rest
      ]
    ]

module _ (land : Land) (journal : List Entry) (all : List Answered) (played : IsPlayed land journal all) where
  pub line_of : (a : Answered) → Contains all a → IsLineOf (length land.graph.edges) a.line.actor a.line.command
  line_of a has = All-contains (λ (b : Answered). IsLineOf (length land.graph.edges) b.line.actor b.line.command) all a played.lines_are has

  at_within : (a : Answered) → Contains all a → a.at ≤ length journal
  at_within a has = All-contains (λ (b : Answered). b.at ≤ length journal) all a played.within has

  accepted_changes : (a : Answered) → Contains all a → is_accepted a.reply ≡ true → changes a.line.command ≡ true
  accepted_changes a has took =
      let cut = cut_at all a has in
      let entry = has_entry land 9 journal (own_of a.line.actor cut.front) a (played.right cut.front cut.back a cut.is) took in
      changes_it land journal (own_of a.line.actor cut.front) a.line.command entry.change entry.of_command

  -- the reply whose entry gives a limit
  pub record HasMark (count : ℕ) (by : DirEdge) : Type 0 where
    pub a : Answered
    pub has : Contains all a
    pub took : is_accepted a.reply ≡ true
    pub at : a.at ≤ count
    pub lowers : IsLowering a.line.actor a.line.command by

  -- an entry is that of an accepted reply
  record HasReply (k : ℕ) : Type 0 where
    a : Answered
    has : Contains all a
    took : is_accepted a.reply ≡ true
    at : a.at ≡ k + 1
    own : List Answered
    change : What
    is : (d : Entry) → get_or journal k d ≡ record { actor = a.line.actor; number = a.line.number; what = change }
    of_command : IsChange land journal own a.line.command change

  reply_of_entry : (k : ℕ) → k < length journal → HasReply k
  reply_of_entry k within =
      let given = played.each (k + 1) (omega arith) (omega arith) in
      let a = given.0 in
      let cut = cut_at all a given.1 in
      let own : List Answered = own_of a.line.actor cut.front in
      let entry = has_entry land 9 journal own a (played.right cut.front cut.back a cut.is) given.2 in
      let at : a.at ≡ k + 1 = given.3 in
      let here : a.at - 1 ≡ k = omega arith in
      record {
        a = a;
        has = given.1;
        took = given.2;
        at = at;
        own = own;
        change = entry.change;
        is = λ d. get_or_from_slice_get journal k _ d (subst (λ (n : ℕ). slice_get journal n ≡ Some (record { actor = a.line.actor; number = a.line.number; what = entry.change })) here entry.is.1);
        of_command = entry.of_command;
      }

  pub mild : (by : DirEdge) → All (IsMild by) journal
  mild by k d within =
      let r = reply_of_entry k within in
      subst (IsMild by) (sym (r.is d)) (mild_change land journal r.own (length land.graph.edges) r.a.line.actor by r.a.line.command r.change (line_of r.a r.has) r.of_command)

  pub marked : (count : ℕ) (by : DirEdge) → SomeMarks journal count by → HasMark count by
  marked count by some =
      let r = reply_of_entry some.place some.within in
      let d : Entry = record { actor = r.a.line.actor; number = r.a.line.number; what = r.change } in
      let marks : speed_by by r.change ≡ Some 10000 = subst (λ (e : Entry). speed_on by e ≡ Some 10000) (r.is d) (some.is d) in
      let before = some.before in
      let at = r.at in
      record {
        a = r.a;
        has = r.has;
        took = r.took;
        at = omega arith;
        lowers = lowering_of land journal r.own (length land.graph.edges) r.a.line.actor by r.a.line.command r.change (line_of r.a r.has) r.of_command marks;
      }

  -- a change that isn't accepted leaves room in the journal
  pub never_full : (x z : List Answered) (a : Answered) → all ≡ x ++ a ∷ z → changes a.line.command ≡ true → is_accepted a.reply ≡ false → a.at ≡ 9 → ⊥
  never_full x z a is change refused full =
      let accept : Answered → Bool = λ b. is_accepted b.reply in
      let may : Answered → Bool = λ b. changes b.line.command in
      let here : Contains all a = subst (λ (l : List Answered). Contains l a) (sym is) (contains_at x z a) in
      let low = at_within a here in
      let each : (b : Answered) → Contains (x ++ a ∷ z) b → is_accepted b.reply ≡ true → changes b.line.command ≡ true =
      λ b has took. accepted_changes b (subst (λ (l : List Answered). Contains l b) (sym is) has) took in
      let front = accepted_within x (λ b has took. each b (contains_left x z a b has) took) in
      let back = accepted_within z (λ b has took. each b (contains_behind x z a b has) took) in
      let one : length (filter accept (x ++ a ∷ z)) ≡ length (filter accept x) + length (filter accept z) =
      ap length (filter-append accept x (a ∷ z)) ∙ length-append (filter accept x) (filter accept (a ∷ z)) ∙ ap (λ (b : Bool). length (filter accept x) + length (cond b (a ∷ filter accept z) (filter accept z))) refused in
      let two : length (filter may (x ++ a ∷ z)) ≡ length (filter may x) + (length (filter may z) + 1) =
      ap length (filter-append may x (a ∷ z)) ∙ length-append (filter may x) (filter may (a ∷ z)) ∙ ap (λ (b : Bool). length (filter may x) + length (cond b (a ∷ filter may z) (filter may z))) change ∙ omega arith in
      let total : length (filter may (x ++ a ∷ z)) ≡ 9 = subst (λ (l : List Answered). length (filter may l) ≡ 9) is played.nine in
      let many : length journal ≡ length (filter accept (x ++ a ∷ z)) = subst (λ (l : List Answered). length journal ≡ length (filter accept l)) is played.count in
      omega (arith, one, two, total, many, front, back, low, full)
