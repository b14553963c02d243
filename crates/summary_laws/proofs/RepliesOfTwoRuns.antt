-- Two runs of one size answer each line alike: as to routes, their weights, and what is accepted.
use Rattle.std.specs.Ordering.{int_eq}
use Rattle.std.proofs.Common.{◌≡◌, ℕ, ℤ, zero, suc, ◌+◌, ◌<◌, ◌≤◌, Bool, true, false, ◌&&◌, List, [], ◌∷◌, ◌++◌, length, filter, take, Option, None, Some, All, Contains, refl, sym, ap, subst, ◌∙◌, inl, inr, arith, append_assoc}
use Rattle.std.specs.Prelude.{◌==◌, nat_lt, not}
use Rattle.std.specs.List.{IsDistinct, sum_by}
use Rattle.std.proofs.lemmas.Bool.{cases_Bool, false≢true}
use Rattle.std.proofs.lemmas.List.{map-append}
use Rattle.std.proofs.lemmas.List.Elements.{All-append, All-contains, All-cons, All-filter, All-head, All-nil, All-tail}
use Rattle.std.proofs.lemmas.List.Sums.{sum_by-cons}
use Rattle.gh_base.specs.declared.edges.DirEdge.{DirEdge}
use Rattle.gh_base.specs.declared.query.Place.{Place}
use Rattle.gh_base.specs.declared.query.Place.TheVariants as place
use Rattle.walk_rules.proofs.Options.{Contains-cons_cases}
use Rattle.base_graph.specs.Graphs.{IsGraph}
use Rattle.weighting.specs.declared.profile.Profile.{Profile}
use Rattle.weighting.specs.Roads.{opening_of}
use Rattle.landmark_prep.specs.Preparations.{Preparation}
use Rattle.traffic_core.specs.declared.entry.Entry.{Entry}
use Rattle.traffic_core.specs.History.{limit_after}
use Rattle.traffic_core.specs.Lands.{Land}
use Rattle.traffic_core.specs.Truth.{IsNoPrepAt}
use Rattle.script_text.specs.declared.reply.Reply.{Reply}
use Rattle.script_text.specs.declared.reply.Reply.TheVariants as reply
use Rattle.script_text.specs.declared.script.Command.{Command}
use Rattle.script_text.specs.declared.script.Command.TheVariants as command
use Rattle.script_text.specs.declared.script.Line.{Line}
use Rattle.route_sessions.specs.Sessions.{InForce, first_rule}
use Rattle.script_service.specs.Answering.{Answered, is_accepted, lines, own_of, rule_after, rule_behind, rule_from}
use Rattle.script_service.specs.Collecting.{replies}
use Rattle.script_service.specs.Replying.{IsRightQuery, IsRightTo, SaysLower, SaysPrepare, SaysPublish, asks_under}
use Rattle.summary_laws.proofs.Directions.{by_number}
use Rattle.script_service.proofs.RightReplies.{route_refused}
use Rattle.generated_run.specs.Scripts.{lowering_at, preparing, publishing, route_at}
use Rattle.generated_run.specs.Summaries.{is_route, weight_of}
use Rattle.summary_laws.proofs.SameRoads.{with_around}
use Rattle.summary_laws.proofs.LimitsOfTen.{IsOpening, IsTen, NoneMarks, limit_cases}
use Rattle.summary_laws.proofs.AnsweredScripts.{IsLineOf, IsPlayed, SeesChanges, asks, changes, contains_at, contains_left, line_of, lower_is, marked, mild, place_of}
use Rattle.summary_laws.proofs.FirstLowerings.{is_named, leaves_none, lowering_taken, opening_above}
use Rattle.summary_laws.proofs.PublishedPreparations.{prepared, published}
use Rattle.summary_laws.proofs.RoutesOfTwoRuns.{land_around, queries_alike}
use Rattle.summary_laws.proofs.LinesOfScripts.{all_range, before_publishing, early, early_quiet, lowerings, routes, routes_quiet, unmap, whole}
use Rattle.script_service.proofs.ListsAndPairs.{cut_at, pairs_before}

-- a line has its like where the lines are the same
same_line : (xs ys : List Answered) → lines xs ≡ lines ys → (b : Answered) → Contains ys b → (a : Answered) × Contains xs a × (a.line ≡ b.line)
same_line [] [] same b has = absurd (omega (arith, has.1))
same_line [] (y ∷ ys) same b has = absurd cc
same_line (x ∷ xs) [] same b has = absurd cc
same_line (x ∷ xs) (y ∷ ys) same b has =
    let head : x.line ≡ y.line = cc in
    let tail : lines xs ≡ lines ys = cc in
    elim (Contains-cons_cases y ys b has) [
      | inl here ↦ (x, (zero, omega arith, refl), head ∙ ap (λ (a : Answered). a.line) here)
      | inr more ↦ let rest = same_line xs ys tail b more in (rest.0, (suc rest.1.0, let h = rest.1.1 in omega arith, rest.1.2), rest.2)
    ]

-- behind a query no line changes roads
quiet_part : (xs zs ys : List Line) (y : Line) → All (λ (line : Line). changes line.command ≡ false) ys → xs ++ y ∷ zs ≡ ys → All (λ (line : Line). changes line.command ≡ false) zs
quiet_part [] zs ys y all is =
    All-tail (λ (line : Line). changes line.command ≡ false) y zs (subst (λ (l : List Line). All (λ (line : Line). changes line.command ≡ false) l) (sym is) all)
quiet_part (x ∷ xs) zs ys y all is =
    let here = subst (λ (l : List Line). All (λ (line : Line). changes line.command ≡ false) l) (sym is) all in
    quiet_part xs zs (xs ++ y ∷ zs) y (All-tail (λ (line : Line). changes line.command ≡ false) x (xs ++ y ∷ zs) here) refl

quiet_behind : (xs zs front back : List Line) (y : Line) → xs ++ y ∷ zs ≡ front ++ back → asks y.command ≡ true → All (λ (line : Line). asks line.command ≡ false) front →
    All (λ (line : Line). changes line.command ≡ false) back → All (λ (line : Line). changes line.command ≡ false) zs
quiet_behind xs zs [] back y is ask silent still = quiet_part xs zs back y still is
quiet_behind [] zs (f ∷ front) back y is ask silent still =
    let same : y ≡ f = cc in
    absurd (false≢true (sym (All-head (λ (line : Line). asks line.command ≡ false) f front silent) ∙ ap (λ (line : Line). asks line.command) (sym same) ∙ ask))
quiet_behind (x ∷ xs) zs (f ∷ front) back y is ask silent still =
    let rest : xs ++ y ∷ zs ≡ front ++ back = cc in
    quiet_behind xs zs front back y rest ask (All-tail (λ (line : Line). asks line.command ≡ false) f front silent) still

-- a model isn't among the lines
quiet_rule : (profiles : List Profile) (edges actor : ℕ) (rule : InForce) (c : Command) → IsLineOf edges actor c → rule_behind profiles rule c ≡ rule
quiet_rule profiles edges actor rule (command.Lower edge reverse speed) is = refl
quiet_rule profiles edges actor rule (command.Prepare profile count) is = refl
quiet_rule profiles edges actor rule (command.Publish profile) is = refl
quiet_rule profiles edges actor rule (command.Route start target labels) is = refl
quiet_rule profiles edges actor rule (command.Restore edge reverse speed) is = absurd is
quiet_rule profiles edges actor rule (command.Model profile text) is = absurd is

first_stays : (profiles : List Profile) (edges : ℕ) (rule : InForce) (own : List Answered) → All (λ (a : Answered). IsLineOf edges a.line.actor a.line.command) own → rule_from profiles rule own ≡ rule
first_stays profiles edges rule [] all = refl
first_stays profiles edges rule (a ∷ own) all =
    let P : Answered → Type 0 = λ b. IsLineOf edges b.line.actor b.line.command in
    ap (λ (r : InForce). rule_from profiles r own) (quiet_rule profiles edges a.line.actor rule a.line.command (All-head P a own all)) ∙ first_stays profiles edges rule own (All-tail P a own all)

rule_is_first : (profiles : List Profile) (edges : ℕ) (own : List Answered) → All (λ (a : Answered). IsLineOf edges a.line.actor a.line.command) own → rule_after profiles own ≡ first_rule
unfolding rule_after
rule_is_first profiles edges own all = first_stays profiles edges first_rule own all

all_front : {X : Type 0} (P : X → Type 0) (xs zs : List X) (a : X) → All P (xs ++ a ∷ zs) → All P xs
all_front P [] zs a all = All-nil P
all_front P (x ∷ xs) zs a all = All-cons P x xs (All-head P x (xs ++ a ∷ zs) all) (all_front P xs zs a (All-tail P x (xs ++ a ∷ zs) all))

-- replies that say nothing of routes
abbrev IsSilent : Reply → Type 0
IsSilent said = (is_route said ≡ false) × (weight_of said ≡ 0)

pub lower_silent : (land : Land) (journal : List Entry) (a : Answered) (by : DirEdge) (speed : ℕ) (said : Reply) → SaysLower land 9 journal a by speed said → IsSilent said
lower_silent land journal a by speed reply.NoSuchEdge says = (refl, refl)
lower_silent land journal a by speed (reply.NotLower now) says = (refl, refl)
lower_silent land journal a by speed reply.JournalFull says = (refl, refl)
lower_silent land journal a by speed reply.Lowered says = (refl, refl)
lower_silent land journal a by speed other says = absurd says

pub prepare_silent : (land : Land) (journal : List Entry) (a : Answered) (profile count : ℕ) (said : Reply) → SaysPrepare land 9 journal a profile count said → IsSilent said × (is_accepted said ≡ false)
prepare_silent land journal a profile count reply.NoLandmark says = ((refl, refl), refl)
prepare_silent land journal a profile count (reply.Prepared landmarks) says = ((refl, refl), refl)
prepare_silent land journal a profile count other says = absurd says

pub publish_silent : (land : Land) (journal : List Entry) (a : Answered) (held : Option Preparation) (said : Reply) → SaysPublish land 9 journal a held said → IsSilent said
publish_silent land journal a None said says = subst IsSilent (sym says) (refl, refl)
publish_silent land journal a (Some prep) (reply.NotInForce by earlier now) says = (refl, refl)
publish_silent land journal a (Some prep) reply.JournalFull says = (refl, refl)
publish_silent land journal a (Some prep) reply.Published says = (refl, refl)
publish_silent land journal a (Some prep) other says = absurd says

-- the front of a list before the one line that publishes
only_front : (xs zs front back : List Line) (y w : Line) (test : Line → Bool) → xs ++ y ∷ zs ≡ front ++ w ∷ back → test y ≡ true → All (λ (line : Line). test line ≡ false) front →
    All (λ (line : Line). test line ≡ false) back → xs ≡ front
only_front [] zs [] back y w test is here_is before behind = refl
only_front [] zs (f ∷ front) back y w test is here_is before behind =
    let same : y ≡ f = cc in
    absurd (false≢true (sym (All-head (λ (line : Line). test line ≡ false) f front before) ∙ ap test (sym same) ∙ here_is))
only_front (x ∷ xs) zs [] back y w test is here_is before behind =
    let rest : xs ++ y ∷ zs ≡ back = cc in
    let inside : Contains back y = subst (λ (l : List Line). Contains l y) rest (contains_at xs zs y) in
    absurd (false≢true (sym (All-contains (λ (line : Line). test line ≡ false) back y behind inside) ∙ here_is))
only_front (x ∷ xs) zs (f ∷ front) back y w test is here_is before behind =
    let same : x ≡ f = cc in
    let rest : xs ++ y ∷ zs ≡ front ++ w ∷ back = cc in
    ap (λ (line : Line). line ∷ xs) same ∙ ap (λ (l : List Line). f ∷ l) (only_front xs zs front back y w test rest here_is (All-tail (λ (line : Line). test line ≡ false) f front before) behind)

own_lines : (actor : ℕ) (xs : List Answered) → lines (own_of actor xs) ≡ filter (λ (line : Line). line.actor == actor) (lines xs)
own_lines actor [] = refl
own_lines actor (a ∷ xs) = elim (cases_Bool (a.line.actor == actor)) [
  | inl t ↦ rw t (ap (λ (l : List Line). a.line ∷ l) (own_lines actor xs))
  | inr f ↦ rw f (own_lines actor xs)
]

contains_own : (actor : ℕ) (xs : List Answered) (p : Answered) → Contains (own_of actor xs) p → Contains xs p
contains_own actor [] p has = absurd (omega (arith, has.1))
contains_own actor (a ∷ xs) p has = elim (cases_Bool (a.line.actor == actor)) [
  | inl t ↦ elim (Contains-cons_cases a (own_of actor xs) p (rw t at has)) [
    | inl here ↦ (zero, omega arith, here)
    | inr more ↦ let rest = contains_own actor xs p more in (suc rest.0, let h = rest.1 in omega arith, rest.2)
  ]
  | inr f ↦ let rest = contains_own actor xs p (rw f at has) in (suc rest.0, let h = rest.1 in omega arith, rest.2)
]

one_own : (ys : List Answered) → lines ys ≡ preparing ∷ [] → (p : Answered) × (ys ≡ p ∷ []) × (p.line ≡ preparing)
one_own [] is = absurd cc
one_own (p ∷ []) is = (p, refl, let same : p.line ≡ preparing = cc in same)
one_own (p ∷ q ∷ ys) is = absurd cc

abbrev publishes_by : Command → Bool
publishes_by (command.Publish profile) = true
publishes_by other = false

abbrev publishes : Line → Bool
publishes line = publishes_by line.command

before_quiet : (size edges : ℕ) → All (λ (line : Line). publishes line ≡ false) (before_publishing size edges)
before_quiet size edges =
    let P : Line → Type 0 = λ line. publishes line ≡ false in
    All-append P (lowerings size edges) (preparing ∷ []) (all_range P (lowering_at size edges) 8 (λ k h. refl)) (All-cons P preparing [] refl (All-nil P))

after_quiet : (size : ℕ) → All (λ (line : Line). publishes line ≡ false) (routes size ++ [])
after_quiet size =
    let P : Line → Type 0 = λ line. publishes line ≡ false in
    All-append P (routes size) [] (all_range P (route_at size) 16 (λ k h. refl)) (All-nil P)

of_preparer : (size edges : ℕ) → filter (λ (line : Line). line.actor == 1) (before_publishing size edges) ≡ preparing ∷ []
of_preparer size edges = refl

not_both_kinds : (c : Command) → changes c ≡ true → asks c ≡ true → ⊥
not_both_kinds (command.Route start target labels) change ask = cc
not_both_kinds (command.Lower edge reverse speed) change ask = cc
not_both_kinds (command.Restore edge reverse speed) change ask = cc
not_both_kinds (command.Publish profile) change ask = cc
not_both_kinds (command.Prepare profile count) change ask = cc
not_both_kinds (command.Model profile text) change ask = cc

-- past each change
abbrev pub SeesAll : List Answered → ℕ → Type 0
SeesAll all count = (c : Answered) → Contains all c → changes c.line.command ≡ true → c.at ≤ count

module _ (size : ℕ) (land : Land) (journal : List Entry) (all : List Answered) (played : IsPlayed land journal all) (lines_are : lines all ≡ whole size (length land.graph.edges)) where
  lines_split : (x z : List Answered) (a : Answered) → all ≡ x ++ a ∷ z → lines x ++ a.line ∷ lines z ≡ whole size (length land.graph.edges)
  lines_split x z a is = sym (map-append (λ (b : Answered). b.line) x (a ∷ z)) ∙ ap lines (sym is) ∙ lines_are

  -- a query is answered past each change
  sees_all : (x z : List Answered) (a : Answered) → all ≡ x ++ a ∷ z → asks a.line.command ≡ true → SeesAll all a.at
  sees_all x z a is ask c has change = elim (place_of x z a c (subst (λ (l : List Answered). Contains l c) is has)) [
    | inl before ↦ All-contains (λ (b : Answered). SeesChanges b a) x c (pairs_before SeesChanges x z a (rw is at played.later)) before change ask
    | inr rest ↦ elim rest [
      | inl here ↦ absurd (not_both_kinds c.line.command change (ap (λ (b : Answered). asks b.line.command) (sym here) ∙ ask))
      | inr behind ↦
          let still : All (λ (line : Line). changes line.command ≡ false) (routes size ++ []) =
          All-append (λ (line : Line). changes line.command ≡ false) (routes size) [] (routes_quiet size) (All-nil (λ (line : Line). changes line.command ≡ false)) in
          let split = lines_split x z a is ∙ sym (append_assoc (before_publishing size (length land.graph.edges)) (publishing ∷ []) (routes size ++ [])) in
          let quiet = quiet_behind (lines x) (lines z) (early size (length land.graph.edges)) (routes size ++ []) a.line split ask (early_quiet size (length land.graph.edges)) still in
          let none = All-contains (λ (b : Answered). changes b.line.command ≡ false) z c (unmap (λ (line : Line). changes line.command ≡ false) (λ (b : Answered). b.line) z quiet) behind in
          absurd (false≢true (sym none ∙ change))
    ]
  ]

  -- the preparation that the actor of the publication made
  pub record HasMade (x : List Answered) : Type 0 where
    pub p : Answered
    pub own : own_of 1 x ≡ p ∷ []
    pub line_is : p.line ≡ preparing
    pub has : Contains x p

  made_before : (x z : List Answered) (q : Answered) → all ≡ x ++ q ∷ z → q.line.command ≡ command.Publish 0 → HasMade x
  made_before x z q is publishes_it =
      let edges = length land.graph.edges in
      let front : lines x ≡ before_publishing size edges =
      only_front (lines x) (lines z) (before_publishing size edges) (routes size ++ []) q.line publishing publishes (lines_split x z q is) (ap publishes_by publishes_it) (before_quiet size edges) (after_quiet size) in
      let own = one_own (own_of 1 x) (own_lines 1 x ∙ ap (filter (λ (line : Line). line.actor == 1)) front ∙ of_preparer size edges) in
      record {
        p = own.0;
        own = own.1;
        line_is = own.2;
        has = contains_own 1 x own.0 (subst (λ (l : List Answered). Contains l own.0) (sym own.1) (zero, omega arith, refl));
      }

  accepts_publication : ((count : ℕ) → IsNoPrepAt land (take count journal) 0 → ⊥) → (x z : List Answered) (q : Answered) → all ≡ x ++ q ∷ z → q.line.command ≡ command.Publish 0 → is_accepted q.reply ≡ true
  accepts_publication some_open x z q is publishes_it =
      let made = made_before x z q is publishes_it in
      let p = made.p in
      let has_q : Contains all q = subst (λ (l : List Answered). Contains l q) (sym is) (contains_at x z q) in
      let has_p : Contains all p = subst (λ (l : List Answered). Contains l p) (sym is) (contains_left x z q p made.has) in
      let line = subst (λ (c : Command). IsLineOf (length land.graph.edges) q.line.actor c) publishes_it (line_of land journal all played q has_q) in
      let actor : q.line.actor ≡ 1 = line.0 in
      let prepares : p.line.command ≡ command.Prepare 0 4 = ap (λ (l : Line). l.command) made.line_is in
      let cut = cut_at all p has_p in
      published land journal all played some_open x z q p is publishes_it (ap (λ (n : ℕ). own_of n x) actor ∙ made.own) prepares made.has (ap (λ (l : Line). l.actor) made.line_is ∙ sym actor)
      (prepared land journal all played some_open cut.front cut.back p cut.is prepares)

  all_lines : (x z : List Answered) (a : Answered) → all ≡ x ++ a ∷ z → All (λ (b : Answered). IsLineOf (length land.graph.edges) b.line.actor b.line.command) (own_of a.line.actor x)
  all_lines x z a is =
      let P : Answered → Type 0 = λ b. IsLineOf (length land.graph.edges) b.line.actor b.line.command in
      All-filter (λ (b : Answered). b.line.actor == a.line.actor) P x (all_front P x z a (subst (All P) is played.lines_are))

  -- a query asks by the first rule
  pub asks_first : (x z : List Answered) (a : Answered) → all ≡ x ++ a ∷ z → (from to : ℤ) → a.line.command ≡ command.Route (place.Id from) (place.Id to) false →
      IsRightQuery land (take a.at journal) (asks_under first_rule (place.Id from) (place.Id to) false) a.reply
  asks_first x z a is from to queries =
      subst (λ (rule : InForce). IsRightQuery land (take a.at journal) (asks_under rule (place.Id from) (place.Id to) false) a.reply)
      (rule_is_first land.profiles (length land.graph.edges) (own_of a.line.actor x) (all_lines x z a is))
      (subst (λ (c : Command). IsRightTo land 9 journal (own_of a.line.actor x) a c) queries (played.right x z a is))

-- a limit that no entry of the one changed isn't one that an entry of the other did
clash : (land other : Land) (h k : List Entry) (all too : List Answered) (one : IsPlayed land h all) (two : IsPlayed other k too) → lines all ≡ lines too → (by : DirEdge) →
    opening_of other.graph by ≡ opening_of land.graph by → (n m : ℕ) → SeesAll all n → IsOpening land.graph h by n → IsTen other.graph k by m → ⊥
clash land other h k all too one two same by openings n m sees old ten =
    let mark = marked other k too two m by ten.some in
    let above = opening_above other k too two m by mark in
    let edge = mark.lowers.edge in
    let mine = same_line all too same mark.a mark.has in
    let lowers : mine.0.line.command ≡ command.Lower edge false 10000 = ap (λ (l : Line). l.command) mine.2 ∙ mark.lowers.command_is in
    let opens_above : 10000 < opening_of land.graph by = omega (arith, above, openings) in
    leaves_none land h all one mine.0 edge n mine.1 lowers (subst (λ (d : DirEdge). 10000 < opening_of land.graph d) (sym mark.lowers.by_is) opens_above) (sees mine.0 mine.1 (ap changes lowers))
    (subst (λ (d : DirEdge). NoneMarks h n d) (sym mark.lowers.by_is) old.none)

-- two replies are alike
pub record IsPair (a b : Answered) : Type 0 where
  pub route : is_route a.reply ≡ is_route b.reply
  pub weight : weight_of a.reply ≡ weight_of b.reply
  pub took : is_accepted a.reply ≡ is_accepted b.reply

silent_pair : (a b : Answered) → IsSilent a.reply → IsSilent b.reply → is_accepted a.reply ≡ is_accepted b.reply → IsPair a b
silent_pair a b first second took = record { route = first.0 ∙ sym second.0; weight = first.1 ∙ sym second.1; took = took }

module _ (size : ℕ) (land : Land) (around : List (List DirEdge)) (is_graph : IsGraph land.graph) (also_graph : IsGraph (with_around land.graph around)) (distinct : IsDistinct int_eq land.ids)
    (h k : List Entry) (all too : List Answered) (one : IsPlayed land h all) (two : IsPlayed (land_around land around) k too)
    (lines_one : lines all ≡ whole size (length land.graph.edges)) (lines_two : lines too ≡ whole size (length land.graph.edges))
    (open_one : (count : ℕ) → IsNoPrepAt land (take count h) 0 → ⊥) (open_two : (count : ℕ) → IsNoPrepAt (land_around land around) (take count k) 0 → ⊥) where
  abbrev other : Land
  other = land_around land around

  -- past all changes the limits are the same
  same_limit : (by : DirEdge) (n m : ℕ) → SeesAll all n → SeesAll too m → limit_after land.graph (take n h) by ≡ limit_after (with_around land.graph around) (take m k) by
  same_limit by n m sees see = elim (limit_cases land.graph h by (mild land h all one by) n) [
    | inl old ↦ elim (limit_cases (with_around land.graph around) k by (mild other k too two by) m) [
      | inl before ↦ old.is ∙ sym before.is
      | inr ten ↦ absurd (clash land other h k all too one two (lines_one ∙ sym lines_two) by refl n m sees old ten)
    ]
    | inr ten ↦ elim (limit_cases (with_around land.graph around) k by (mild other k too two by) m) [
      | inl before ↦ absurd (clash other land k h too all two one (lines_two ∙ sym lines_one) by refl m n see before ten)
      | inr same ↦ ten.is ∙ sym same.is
    ]
  ]

  same_limits : (n m : ℕ) → SeesAll all n → SeesAll too m → limit_after land.graph (take n h) ≡ limit_after (with_around land.graph around) (take m k)
  same_limits n m sees see = λ i by. same_limit by n m sees see i

  pair_by : (x z u v : List Answered) (a b : Answered) → all ≡ x ++ a ∷ z → too ≡ u ++ b ∷ v → lines x ≡ lines u → a.line ≡ b.line → (c : Command) → a.line.command ≡ c → IsLineOf (length land.graph.edges) a.line.actor c → IsPair a b
  pair_by x z u v a b is also before same (command.Lower edge reverse speed) commands line =
      let commands_too : b.line.command ≡ command.Lower edge reverse speed = ap (λ (l : Line). l.command) (sym same) ∙ commands in
      let low = lower_is edge reverse speed line.2 line.3 in
      let first = subst (λ (c : Command). IsRightTo land 9 h (own_of a.line.actor x) a c) commands (one.right x z a is) in
      let second = subst (λ (c : Command). IsRightTo other 9 k (own_of b.line.actor u) b c) commands_too (two.right u v b also) in
      silent_pair a b (lower_silent land h a (by_number edge reverse) speed a.reply first) (lower_silent other k b (by_number edge reverse) speed b.reply second)
      (lowering_taken land h all one x z a is edge (commands ∙ low)
      ∙ ap (λ (l : List Line). nat_lt 10000 (opening_of land.graph (by_number edge false)) && not (is_named edge l)) before
      ∙ sym (lowering_taken other k too two u v b also edge (commands_too ∙ low)))
  pair_by x z u v a b is also before same (command.Prepare profile count) commands line =
      let commands_too : b.line.command ≡ command.Prepare profile count = ap (λ (l : Line). l.command) (sym same) ∙ commands in
      let first = prepare_silent land h a profile count a.reply (subst (λ (c : Command). IsRightTo land 9 h (own_of a.line.actor x) a c) commands (one.right x z a is)) in
      let second = prepare_silent other k b profile count b.reply (subst (λ (c : Command). IsRightTo other 9 k (own_of b.line.actor u) b c) commands_too (two.right u v b also)) in
      silent_pair a b first.0 second.0 (first.1 ∙ sym second.1)
  pair_by x z u v a b is also before same (command.Publish profile) commands line =
      let commands_too : b.line.command ≡ command.Publish profile = ap (λ (l : Line). l.command) (sym same) ∙ commands in
      let zeroth : command.Publish profile ≡ command.Publish 0 = ap (λ (n : ℕ). command.Publish n) line.1 in
      let first = subst (λ (c : Command). IsRightTo land 9 h (own_of a.line.actor x) a c) commands (one.right x z a is) in
      let second = subst (λ (c : Command). IsRightTo other 9 k (own_of b.line.actor u) b c) commands_too (two.right u v b also) in
      silent_pair a b (publish_silent land h a first.held a.reply first.says) (publish_silent other k b second.held b.reply second.says)
      (accepts_publication size land h all one lines_one open_one x z a is (commands ∙ zeroth) ∙ sym (accepts_publication size other k too two lines_two open_two u v b also (commands_too ∙ zeroth)))
  pair_by x z u v a b is also before same (command.Route start target labels) commands line =
      let from = line.1.0 in
      let to = line.2.0 in
      let route_is : command.Route start target labels ≡ command.Route (place.Id from) (place.Id to) false =
      ap (λ (s : Place). command.Route s target labels) line.1.1 ∙ ap (λ (t : Place). command.Route (place.Id from) t labels) line.2.1 ∙ ap (λ (l : Bool). command.Route (place.Id from) (place.Id to) l) line.0 in
      let commands_too : b.line.command ≡ command.Route start target labels = ap (λ (l : Line). l.command) (sym same) ∙ commands in
      let first = asks_first size land h all one lines_one x z a is from to (commands ∙ route_is) in
      let second = asks_first size other k too two lines_two u v b also from to (commands_too ∙ route_is) in
      let limits = same_limits a.at b.at (sees_all size land h all one lines_one x z a is (ap asks commands)) (sees_all size other k too two lines_two u v b also (ap asks commands_too)) in
      let alike = queries_alike land around is_graph also_graph distinct first_rule.profile first_rule.model from to (take a.at h) (take b.at k) limits a.reply b.reply first second in
      record {
        route = alike.route;
        weight = alike.weight;
        took = ap is_accepted first.route.printed ∙ route_refused first.route.answer ∙ sym (ap is_accepted second.route.printed ∙ route_refused second.route.answer);
      }
  pair_by x z u v a b is also before same (command.Restore edge reverse speed) commands line = absurd line
  pair_by x z u v a b is also before same (command.Model profile text) commands line = absurd line

  pub pair : (x z u v : List Answered) (a b : Answered) → all ≡ x ++ a ∷ z → too ≡ u ++ b ∷ v → lines x ≡ lines u → a.line ≡ b.line → IsPair a b
  pair x z u v a b is also before same =
      let has : Contains all a = subst (λ (l : List Answered). Contains l a) (sym is) (contains_at x z a) in
      pair_by x z u v a b is also before same a.line.command refl (line_of land h all one a has)

-- what is counted of replies that are alike
pub sums_alike : (f : Reply → ℕ) (past old xs ys : List Answered) → ((x z u v : List Answered) (a b : Answered) → past ++ xs ≡ x ++ a ∷ z → old ++ ys ≡ u ++ b ∷ v → lines x ≡ lines u → a.line ≡ b.line → f a.reply ≡ f b.reply) →
    lines past ≡ lines old → lines xs ≡ lines ys → sum_by f (replies xs) ≡ sum_by f (replies ys)
sums_alike f past old [] [] each before same = refl
sums_alike f past old [] (b ∷ ys) each before same = absurd cc
sums_alike f past old (a ∷ xs) [] each before same = absurd cc
sums_alike f past old (a ∷ xs) (b ∷ ys) each before same =
    let head : a.line ≡ b.line = cc in
    let tail : lines xs ≡ lines ys = cc in
    let here = each past xs old ys a b refl refl before head in
    let later = sums_alike f (past ++ a ∷ []) (old ++ b ∷ []) xs ys
    (λ x z u v c d is also. each x z u v c d (sym (append_assoc past (a ∷ []) xs) ∙ is) (sym (append_assoc old (b ∷ []) ys) ∙ also))
    (map-append (λ (c : Answered). c.line) past (a ∷ []) ∙ ap (λ (l : List Line). l ++ a.line ∷ []) before ∙ ap (λ (l : Line). lines old ++ l ∷ []) head ∙ sym (map-append (λ (c : Answered). c.line) old (b ∷ []))) tail in
    sum_by-cons f a.reply (replies xs) ∙ ap (λ (n : ℕ). n + sum_by f (replies xs)) here ∙ ap (λ (n : ℕ). f b.reply + n) later ∙ sym (sum_by-cons f b.reply (replies ys))
