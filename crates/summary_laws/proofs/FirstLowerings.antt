-- Which lowerings are accepted: the first of an edge, where its limit opens above 10 km/h.
use Rattle.std.proofs.Common.{◌≡◌, ℕ, zero, suc, ◌-◌, ◌<◌, ◌≤◌, ◌⊎◌, Bool, true, false, cond, ◌&&◌, List, [], ◌∷◌, ◌++◌, length, take, None, Some, Contains, refl, sym, ap, subst, ◌∙◌, inl, inr, arith}
use Rattle.std.specs.Prelude.{◌==◌, nat_lt, not}
use Rattle.std.proofs.lemmas.Bool.{cases_Bool, cases_lt, eq-eqb, eqb-true, le-ltb, lt-ltb}
use Rattle.std.proofs.lemmas.List.Elements.{All-contains}
use Rattle.std.proofs.lemmas.Option.{get_or_from_slice_get, slice_get_within}
use Rattle.gh_base.specs.declared.edges.DirEdge.{DirEdge}
use Rattle.walk_rules.proofs.Options.{Contains-cons_cases}
use Rattle.weighting.specs.Roads.{opening_of}
use Rattle.traffic_core.specs.declared.entry.Entry.{Entry}
use Rattle.traffic_core.specs.declared.entry.What.TheVariants as what
use Rattle.traffic_core.specs.History.{index_of, limit_after, speed_on}
use Rattle.traffic_core.specs.Lands.{Land}
use Rattle.script_text.specs.declared.script.Command.{Command}
use Rattle.script_text.specs.declared.script.Command.TheVariants as command
use Rattle.script_text.specs.declared.script.Line.{Line}
use Rattle.script_service.specs.Answering.{Answered, is_accepted, lines, own_of}
use Rattle.script_service.specs.Fitting.{IsPast, SeesOwn}
use Rattle.script_service.specs.Replying.{IsRightTo}
use Rattle.summary_laws.proofs.Directions.{by_number}
use Rattle.script_service.proofs.ListsAndPairs.{cut_at, pairs_before}
use Rattle.summary_laws.proofs.LimitsOfTen.{IsOpening, IsTen, NoneMarks, limit_cases, not_both}
use Rattle.summary_laws.proofs.AnsweredScripts.{HasMark, IsLineOf, IsPlayed, IsTaken, answer_of, changes, contains_at, contains_left, line_of, marked, mild, never_full, pairs_behind, place_of}

-- whether a command lowers an edge, and whether one of these lines does
abbrev pub names : ℕ → Command → Bool
names edge (command.Lower other reverse speed) = other == edge
names edge other = false

abbrev pub is_named : ℕ → List Line → Bool
is_named edge [] = false
is_named edge (line ∷ rest) = cond (names edge line.command) true (is_named edge rest)

pub named_has : (edge : ℕ) (xs : List Answered) → is_named edge (lines xs) ≡ true → (b : Answered) × Contains xs b × (names edge b.line.command ≡ true)
named_has edge [] is = absurd cc
named_has edge (a ∷ xs) is = elim (cases_Bool (names edge a.line.command)) [
  | inl t ↦ (a, (zero, omega arith, refl), t)
  | inr f ↦ let rest = named_has edge xs (rw f at is) in (rest.0, (suc rest.1.0, let h = rest.1.1 in omega arith, rest.1.2), rest.2)
]

pub has_named : (edge : ℕ) (xs : List Answered) (b : Answered) → Contains xs b → names edge b.line.command ≡ true → is_named edge (lines xs) ≡ true
has_named edge [] b has is = absurd (omega (arith, has.1))
has_named edge (a ∷ xs) b has is = elim (cases_Bool (names edge a.line.command)) [
  | inl t ↦ rw t refl
  | inr f ↦ rw f (elim (Contains-cons_cases a xs b has) [
    | inl here ↦ absurd (let no : true ≡ false = sym is ∙ ap (λ (c : Answered). names edge c.line.command) (sym here) ∙ f in cc)
    | inr more ↦ has_named edge xs b more is
  ])
]

pub names_is : (edges actor edge : ℕ) (c : Command) → IsLineOf edges actor c → names edge c ≡ true → (actor ≡ 0) × (c ≡ command.Lower edge false 10000)
names_is edges actor edge (command.Lower other reverse speed) is named = (
  is.0,
  ap (λ (n : ℕ). command.Lower n reverse speed) (eqb-true other edge named) ∙ ap (λ (b : Bool). command.Lower edge b speed) is.2 ∙ ap (λ (n : ℕ). command.Lower edge false n) is.3,
)
names_is edges actor edge (command.Restore other reverse speed) is named = absurd is
names_is edges actor edge (command.Model profile text) is named = absurd is
names_is edges actor edge (command.Route start target labels) is named = absurd cc
names_is edges actor edge (command.Prepare profile count) is named = absurd cc
names_is edges actor edge (command.Publish profile) is named = absurd cc

named_by : (edge : ℕ) (c : Command) → c ≡ command.Lower edge false 10000 → names edge c ≡ true
named_by edge c is = ap (names edge) is ∙ eq-eqb edge edge refl

module _ (land : Land) (journal : List Entry) (all : List Answered) (played : IsPlayed land journal all) where
  abbrev cases_at : (by : DirEdge) (count : ℕ) → IsOpening land.graph journal by count ⊎ IsTen land.graph journal by count
  cases_at by count = limit_cases land.graph journal by (mild land journal all played by) count

  -- it is accepted, or the limit that it sees isn't above 10 km/h
  pub record SeesLow (a : Answered) (by : DirEdge) : Type 0 where
    pub refused : is_accepted a.reply ≡ false
    pub low : limit_after land.graph (take a.at journal) by ≤ 10000

  pub line_is : (a : Answered) (edge : ℕ) → Contains all a → a.line.command ≡ command.Lower edge false 10000 → (a.line.actor ≡ 0) × (edge < length land.graph.edges)
  line_is a edge has is =
      let line = subst (λ (c : Command). IsLineOf (length land.graph.edges) a.line.actor c) is (line_of land journal all played a has) in
      (line.0, line.1)

  pub answer_at : (x z : List Answered) (a : Answered) → all ≡ x ++ a ∷ z → (edge : ℕ) → a.line.command ≡ command.Lower edge false 10000 →
      IsTaken land journal a (by_number edge false) ⊎ SeesLow a (by_number edge false)
  answer_at x z a is edge lowers =
      let has : Contains all a = subst (λ (l : List Answered). Contains l a) (sym is) (contains_at x z a) in
      let right = subst (λ (c : Command). IsRightTo land 9 journal (own_of a.line.actor x) a c) lowers (played.right x z a is) in
      let line = line_is a edge has lowers in
      elim (answer_of land journal a (by_number edge false) a.reply refl line.1 right) [
        | inl taken ↦ inl taken
        | inr refusal ↦ elim refusal.why [
          | inl low ↦ inr (record { refused = refusal.refused; low = low })
          | inr full ↦ absurd (never_full land journal all played x z a is (ap changes lowers) refusal.refused full)
        ]
      ]

  -- an accepted lowering is the first that changes its limit, which opens above 10 km/h
  record IsFirst (count : ℕ) (by : DirEdge) : Type 0 where
    above : 10000 < opening_of land.graph by
    none : NoneMarks journal count by

  first_of : (a : Answered) (by : DirEdge) → IsTaken land journal a by → IsFirst (a.at - 1) by
  first_of a by taken = elim (cases_at by (a.at - 1)) [
    | inl old ↦ record { above = omega (arith, old.is, taken.above); none = old.none }
    | inr ten ↦ absurd (omega (arith, ten.is, taken.above))
  ]

  -- an edge on which an entry is opens above 10 km/h
  pub opening_above : (count : ℕ) (by : DirEdge) → HasMark land journal all played count by → 10000 < opening_of land.graph by
  opening_above count by mark =
      let cut = cut_at all mark.a mark.has in
      elim (answer_at cut.front cut.back mark.a cut.is mark.lowers.edge mark.lowers.command_is) [
        | inl taken ↦ subst (λ (b : DirEdge). 10000 < opening_of land.graph b) mark.lowers.by_is (first_of mark.a (by_number mark.lowers.edge false) taken).above
        | inr low ↦ absurd (let no : true ≡ false = sym mark.took ∙ low.refused in cc)
      ]

  -- limits only fall
  pub falls : (by : DirEdge) (low high : ℕ) → low ≤ high → limit_after land.graph (take high journal) by ≤ limit_after land.graph (take low journal) by
  falls by low high le = elim (cases_at by high) [
    | inl old ↦ elim (cases_at by low) [
      | inl before ↦ omega (arith, old.is, before.is)
      | inr ten ↦
          let d : Entry = record { actor = 0; number = 0; what = what.Lower by 0 } in
          let before = ten.some.before in
          absurd (not_both _ 10000 (old.none ten.some.place d (omega arith) ten.some.within) (ten.some.is d))
    ]
    | inr ten ↦ elim (cases_at by low) [
      | inl before ↦ let above = opening_above high by (marked land journal all played high by ten.some) in omega (arith, ten.is, before.is, above)
      | inr same ↦ omega (arith, ten.is, same.is)
    ]
  ]

  -- an accepted lowering's entry is on its edge
  entry_marks : (a : Answered) (by : DirEdge) (count : ℕ) → IsTaken land journal a by → a.at - 1 < count → NoneMarks journal count by → ⊥
  entry_marks a by count taken before none =
      let d : Entry = record { actor = a.line.actor; number = a.line.number; what = what.Lower by 10000 } in
      let is = taken.entry.1 in
      let here = none (a.at - 1) d before (slice_get_within journal (a.at - 1) d is) in
      let no : speed_on by d ≡ None = subst (λ (e : Entry). speed_on by e ≡ None) (get_or_from_slice_get journal (a.at - 1) d d is) here in
      let yes : speed_on by d ≡ Some 10000 = rw (eq-eqb (index_of by) (index_of by) refl) refl in
      not_both (speed_on by d) 10000 no yes

  -- no lowering of an edge that opens above 10 km/h leaves its limit there
  pub leaves_none : (a : Answered) (edge count : ℕ) → Contains all a → a.line.command ≡ command.Lower edge false 10000 → 10000 < opening_of land.graph (by_number edge false) → a.at ≤ count →
      NoneMarks journal count (by_number edge false) → ⊥
  leaves_none a edge count has lowers above within none =
      let by : DirEdge = by_number edge false in
      let cut = cut_at all a has in
      elim (answer_at cut.front cut.back a cut.is edge lowers) [
        | inl taken ↦ entry_marks a by count taken (let from = taken.entry.0 in omega arith) none
        | inr low ↦ elim (cases_at by a.at) [
          | inl old ↦ omega (arith, old.is, low.low, above)
          | inr ten ↦
              let d : Entry = record { actor = 0; number = 0; what = what.Lower by 0 } in
              let before = ten.some.before in
              not_both _ 10000 (none ten.some.place d (omega arith) ten.some.within) (ten.some.is d)
        ]
      ]

  pub past_before : (x z : List Answered) (a b : Answered) → all ≡ x ++ a ∷ z → Contains x b → b.line.actor ≡ a.line.actor → IsPast b.at a
  past_before x z a b is has same =
      All-contains (λ (c : Answered). SeesOwn c a) x b (pairs_before SeesOwn x z a (rw is at played.pairs)) has same

  past_behind : (x z : List Answered) (a b : Answered) → all ≡ x ++ a ∷ z → Contains z b → a.line.actor ≡ b.line.actor → IsPast a.at b
  past_behind x z a b is has same = All-contains (SeesOwn a) z b (pairs_behind SeesOwn x z a (rw is at played.pairs)) has same

  not_named : (x z : List Answered) (a : Answered) → all ≡ x ++ a ∷ z → (edge : ℕ) → a.line.command ≡ command.Lower edge false 10000 → IsTaken land journal a (by_number edge false) →
      is_named edge (lines x) ≡ true → ⊥
  not_named x z a is edge lowers taken named =
      let by : DirEdge = by_number edge false in
      let first = first_of a by taken in
      let found = named_has edge x named in
      let b = found.0 in
      let has : Contains all b = subst (λ (l : List Answered). Contains l b) (sym is) (contains_left x z a b found.1) in
      let has_a : Contains all a = subst (λ (l : List Answered). Contains l a) (sym is) (contains_at x z a) in
      let own = names_is (length land.graph.edges) b.line.actor edge b.line.command (line_of land journal all played b has) found.2 in
      let mine = line_is a edge has_a lowers in
      let past = past_before x z a b is found.1 (own.0 ∙ sym mine.0) in
      let less = past.own taken.took in
      leaves_none b edge (a.at - 1) has own.1 first.above (omega arith) first.none

  seen_named : (x z : List Answered) (a : Answered) → all ≡ x ++ a ∷ z → (edge : ℕ) → a.line.command ≡ command.Lower edge false 10000 → SeesLow a (by_number edge false) →
      10000 < opening_of land.graph (by_number edge false) → is_named edge (lines x) ≡ true
  seen_named x z a is edge lowers low above =
      let by : DirEdge = by_number edge false in
      let has_a : Contains all a = subst (λ (l : List Answered). Contains l a) (sym is) (contains_at x z a) in
      let mine = line_is a edge has_a lowers in
      elim (cases_at by a.at) [
        | inl old ↦ absurd (omega (arith, old.is, low.low, above))
        | inr ten ↦
            let mark = marked land journal all played a.at by ten.some in
            let b = mark.a in
            let same : mark.lowers.edge ≡ edge = ap (λ (d : DirEdge). d.edge.0) mark.lowers.by_is in
            let lowers_it : b.line.command ≡ command.Lower edge false 10000 = mark.lowers.command_is ∙ ap (λ (n : ℕ). command.Lower n false 10000) same in
            let has : Contains (x ++ a ∷ z) b = subst (λ (l : List Answered). Contains l b) is mark.has in
            elim (place_of x z a b has) [
              | inl before ↦ has_named edge x b before (named_by edge b.line.command lowers_it)
              | inr rest ↦ elim rest [
                | inl here ↦ absurd (let no : false ≡ true = sym low.refused ∙ ap (λ (c : Answered). is_accepted c.reply) here ∙ mark.took in cc)
                | inr behind ↦ absurd (let past = past_behind x z a b is behind (mine.0 ∙ sym mark.lowers.actor_is) in let less = past.own mark.took in omega (arith, less, mark.at))
              ]
            ]
      ]

  -- which lowering is accepted follows from the lines before it
  pub lowering_taken : (x z : List Answered) (a : Answered) → all ≡ x ++ a ∷ z → (edge : ℕ) → a.line.command ≡ command.Lower edge false 10000 →
      is_accepted a.reply ≡ (nat_lt 10000 (opening_of land.graph (by_number edge false)) && not (is_named edge (lines x)))
  lowering_taken x z a is edge lowers = elim (answer_at x z a is edge lowers) [
    | inl taken ↦ elim (cases_Bool (is_named edge (lines x))) [
      | inl named ↦ absurd (not_named x z a is edge lowers taken named)
      | inr fresh ↦ rw (taken.took, lt-ltb 10000 (opening_of land.graph (by_number edge false)) (first_of a (by_number edge false) taken).above, fresh) refl
    ]
    | inr low ↦ elim (cases_lt 10000 (opening_of land.graph (by_number edge false))) [
      | inl above ↦ rw (low.refused, lt-ltb 10000 (opening_of land.graph (by_number edge false)) above, seen_named x z a is edge lowers low above) refl
      | inr under ↦ rw (low.refused, le-ltb 10000 (opening_of land.graph (by_number edge false)) under) refl
    ]
  ]
