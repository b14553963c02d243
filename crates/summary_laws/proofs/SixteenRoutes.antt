-- All sixteen queries of a script of a size are answered with walks.
use Rattle.std.proofs.Common.{◌≡◌, ◌∙◌, ℕ, ℤ, ◌*◌, ◌/◌, ◌%◌, ◌<◌, ◌≤◌, pos, Bool, true, false, List, ◌∷◌, ◌++◌, length, take, Option, Some, All, Contains, inl, inr, sym, ap, subst, refl, arith}
use Rattle.std.specs.Prelude.{slice_get}
use Rattle.std.proofs.lemmas.List.Elements.{All-contains}
use Rattle.std.proofs.lemmas.Nat.{div_below, mod_below, mul-le}
use Rattle.std.proofs.lemmas.Option.{slice_get-get_or}
use Rattle.gh_base.specs.declared.edges.DirEdge.{DirEdge}
use Rattle.gh_base.specs.declared.edges.Hop.{Hop}
use Rattle.gh_base.specs.declared.query.Place.{Place}
use Rattle.gh_base.specs.declared.query.Place.TheVariants as place
use Rattle.gh_base.specs.declared.query.RouteAnswer.{RouteAnswer}
use Rattle.gh_base.specs.declared.query.RouteAnswer.TheVariants.{Labelled, NoNode, NoRoute, NoSnap, Walk, WeightOverflow}
use Rattle.walk_rules.specs.Walks as walks
use Rattle.map_import.specs.Roads.{number}
use Rattle.map_import.proofs.Numbers.{at_number, number_below}
use Rattle.weighting.specs.declared.profile.Profile.{Profile}
use Rattle.weighting.specs.Rules.{Rule}
use Rattle.weighting.specs.Roads.{network_by}
use Rattle.landmark_prep.specs.Preparations.{Preparation}
use Rattle.traffic_core.specs.declared.entry.Entry.{Entry}
use Rattle.traffic_core.specs.declared.spot.Spot.{Spot}
use Rattle.traffic_core.specs.declared.spot.Spot.TheVariants.{Inside, Tower}
use Rattle.traffic_core.specs.Answers.{IsRightAmong, IsRightAnswer, IsRightBetween, Plan, greatest_weight}
use Rattle.traffic_core.specs.History.{limit_after}
use Rattle.traffic_core.specs.Lands.{Land, rule_of}
use Rattle.traffic_core.specs.Places.{IsSpotOf}
use Rattle.script_text.specs.declared.script.Command.{Command}
use Rattle.script_text.specs.declared.script.Command.TheVariants as command
use Rattle.script_text.specs.declared.script.Line.{Line}
use Rattle.route_sessions.specs.Sessions.{first_rule}
use Rattle.script_service.specs.Answering.{Answered, lines, own_of}
use Rattle.script_service.specs.Replying.{IsRightTo, reply_of}
use Rattle.summary_laws.proofs.Directions.{by_number}
use Rattle.generated_run.specs.Generating.{AreRoadsOfSize}
use Rattle.generated_run.specs.Maps.{id_at}
use Rattle.generated_run.specs.Scripts.{lowering_at, place_by, route_at}
use Rattle.generated_run.specs.Summaries.{is_route}
use Rattle.generated_run.proofs.GridNodes.{number_of}
use Rattle.summary_laws.proofs.GridEdges.{known_by, tower_at}
use Rattle.summary_laws.proofs.OpenGrid.{fast_along, ids_distinct, some_limit}
use Rattle.summary_laws.proofs.RepliesOfTwoRuns.{asks_first, lower_silent, prepare_silent, publish_silent}
use Rattle.summary_laws.proofs.AnsweredScripts.{IsLineOf, IsPlayed, asks, contains_at, line_of, mild}
use Rattle.summary_laws.proofs.LinesOfScripts.{all_of_whole, all_range, unmap, whole}
use Rattle.summary_laws.proofs.GridWalks.{query_rule, reached}
use Rattle.summary_laws.proofs.RoutesOfTwoRuns.{asking, tower_once}

-- a place of a node of the grid
pub record IsNode (size : ℕ) (at : Place) : Type 0 where
  pub row : ℕ
  pub column : ℕ
  pub row_below : row < size
  pub column_below : column < size
  pub is : at ≡ place.Id (id_at size row column)

-- a query is from one such place to another
abbrev pub IsBetweenNodes : ℕ → Command → Type 0
IsBetweenNodes size (command.Route start target labels) = IsNode size start × IsNode size target
IsBetweenNodes size other = Unit {0}

node_of : (size drawn : ℕ) → 0 < size → IsNode size (place_by size drawn)
node_of size drawn some =
    let square = mul-le 1 1 size size some some in
    let n = drawn % (size * size) in
    let below = mod_below drawn (size * size) (omega arith) in
    record {
      row = n / size;
      column = n % size;
      row_below = div_below n size size some below;
      column_below = mod_below n size some;
      is = ap (λ (k : ℕ). place.Id (pos k)) (sym (number_of size n));
    }

lines_between : (size edges : ℕ) → 0 < size → All (λ (line : Line). IsBetweenNodes size line.command) (whole size edges)
lines_between size edges some =
    let P : Line → Type 0 = λ line. IsBetweenNodes size line.command in
    all_of_whole P size edges (all_range P (lowering_at size edges) 8 (λ k h. tt)) tt tt (all_range P (route_at size) 16 (λ k h. (node_of size _ some, node_of size _ some)))

-- among walks of which one doesn't weigh too much, a right answer is a walk
among : (IsSo : List Hop → Type 0) (plan : Plan) (mm_of : List Hop → ℕ) (towers : ℕ) (hops : List Hop) → IsSo hops → walks.weight_of hops ≤ greatest_weight → (answer : RouteAnswer) →
    IsRightAmong IsSo plan mm_of towers false answer → is_route (reply_of answer) ≡ true
among IsSo plan mm_of towers hops walk light (NoNode id) right = absurd right
among IsSo plan mm_of towers hops walk light (NoSnap point) right = absurd right
among IsSo plan mm_of towers hops walk light (NoRoute settled) right = absurd (right.0 hops walk)
among IsSo plan mm_of towers hops walk light (WeightOverflow weight) right =
    let least = right.0.least hops walk in
    let above = right.1 in
    absurd (omega arith)
among IsSo plan mm_of towers hops walk light (Walk weight mm settled list) right = refl
among IsSo plan mm_of towers hops walk light (Labelled weight list) right = absurd (let bad : false ≡ true = right.0 in cc)

module _ (size : ℕ) (two : 2 ≤ size) (few : size ≤ 300) (land : Land) (are : AreRoadsOfSize size land) where
  rule_is : rule_of land first_rule.profile first_rule.model ≡ query_rule
  rule_is = ap (λ (ps : List Profile). rule_of (record { graph = land.graph; ids = land.ids; profiles = ps }) first_rule.profile first_rule.model) are.profiles_are

  there : (row column : ℕ) → row < size → column < size → slice_get land.ids (tower_at size two few land are row column) ≡ Some (id_at size row column)
  there row column r c =
      let id = id_at size row column in
      let known = known_by size two few land are row column r c in
      slice_get-get_or land.ids (number land.ids id) (pos 0) (number_below land.ids id known) ∙ ap (λ (z : ℤ). Some z) (at_number land.ids id (pos 0) known)

  module _ (limits : DirEdge → ℕ) (some : (by : DirEdge) → by.edge.0 < length land.graph.edges → 1000 ≤ limits by) (a b c d : ℕ) (a_in : a < size) (b_in : b < size) (c_in : c < size) (d_in : d < size) where
    between : (s t : Spot) (f : ℕ → Option ℕ) (answer : RouteAnswer) → IsSpotOf land (id_at size a b) (Some s) → IsSpotOf land (id_at size c d) (Some t) →
        IsRightBetween land limits f (asking first_rule.profile first_rule.model (id_at size a b) (id_at size c d)) s t answer → is_route (reply_of answer) ≡ true
    between (Inside e x) t f answer at_s at_t right = absurd at_s
    between (Tower n) (Inside e x) f answer at_s at_t right = absurd at_t
    between (Tower n) (Tower m) f answer at_s at_t right =
        let first = tower_once land.ids (tower_at size two few land are a b) n.0 (id_at size a b) (ids_distinct size land are) (there a b a_in b_in) at_s in
        let second = tower_once land.ids (tower_at size two few land are c d) m.0 (id_at size c d) (ids_distinct size land are) (there c d c_in d_in) at_t in
        let way = reached size two few land are limits some a b c d a_in b_in c_in d_in in
        let walk : walks.IsWalk (network_by query_rule limits land.graph) n.0 way.hops m.0 =
        subst (λ k. walks.IsWalk (network_by query_rule limits land.graph) k way.hops m.0) first (subst (λ k. walks.IsWalk (network_by query_rule limits land.graph) (tower_at size two few land are a b) way.hops k) second way.walk) in
        among _ _ _ _ way.hops (subst (λ (rule : Rule). walks.IsWalk (network_by rule limits land.graph) n.0 way.hops m.0) (sym rule_is) walk) way.light answer right

    answered : (guide : Option Preparation) (answer : RouteAnswer) → IsRightAnswer land limits guide (asking first_rule.profile first_rule.model (id_at size a b) (id_at size c d)) answer → is_route (reply_of answer) ≡ true
    answered guide answer (inl (inl missing)) = absurd (missing.0 (tower_at size two few land are a b) (there a b a_in b_in))
    answered guide answer (inl (inr missing)) = absurd (missing.1 (tower_at size two few land are c d) (there c d c_in d_in))
    answered guide answer (inr right) = between right.from right.to right.bound answer right.from_is right.to_is right.right

  module _ (journal : List Entry) (all : List Answered) (played : IsPlayed land journal all) (lines_are : lines all ≡ whole size (length land.graph.edges)) where
    routes_by : (x z : List Answered) (a : Answered) → all ≡ x ++ a ∷ z → (c : Command) → a.line.command ≡ c → IsLineOf (length land.graph.edges) a.line.actor c → IsBetweenNodes size c → is_route a.reply ≡ asks c
    routes_by x z a is (command.Lower edge reverse speed) commands line on =
        (lower_silent land journal a (by_number edge reverse) speed a.reply (subst (λ (c : Command). IsRightTo land 9 journal (own_of a.line.actor x) a c) commands (played.right x z a is))).0
    routes_by x z a is (command.Prepare profile count) commands line on =
        (prepare_silent land journal a profile count a.reply (subst (λ (c : Command). IsRightTo land 9 journal (own_of a.line.actor x) a c) commands (played.right x z a is))).0.0
    routes_by x z a is (command.Publish profile) commands line on =
        let right = subst (λ (c : Command). IsRightTo land 9 journal (own_of a.line.actor x) a c) commands (played.right x z a is) in
        (publish_silent land journal a right.held a.reply right.says).0
    routes_by x z a is (command.Route start target labels) commands line on =
        let from = on.0 in
        let to = on.1 in
        let route_is : command.Route start target labels ≡ command.Route (place.Id (id_at size from.row from.column)) (place.Id (id_at size to.row to.column)) false =
        ap (λ (s : Place). command.Route s target labels) from.is ∙ ap (λ (t : Place). command.Route (place.Id (id_at size from.row from.column)) t labels) to.is
        ∙ ap (λ (l : Bool). command.Route (place.Id (id_at size from.row from.column)) (place.Id (id_at size to.row to.column)) l) line.0 in
        let query = asks_first size land journal all played lines_are x z a is (id_at size from.row from.column) (id_at size to.row to.column) (commands ∙ route_is) in
        let some : (by : DirEdge) → by.edge.0 < length land.graph.edges → 1000 ≤ limit_after land.graph (take a.at journal) by =
        λ by inside. some_limit land.graph journal by (mild land journal all played by) (fast_along size land are by inside) a.at in
        ap is_route query.route.printed
        ∙ answered (limit_after land.graph (take a.at journal)) some from.row from.column to.row to.column from.row_below from.column_below to.row_below to.column_below query.guide query.route.answer query.route.right
    routes_by x z a is (command.Restore edge reverse speed) commands line on = absurd line
    routes_by x z a is (command.Model profile text) commands line on = absurd line

    pub each_route : (x z : List Answered) (a : Answered) → all ≡ x ++ a ∷ z → is_route a.reply ≡ asks a.line.command
    each_route x z a is =
        let has : Contains all a = subst (λ (l : List Answered). Contains l a) (sym is) (contains_at x z a) in
        let on = unmap (λ (line : Line). IsBetweenNodes size line.command) (λ (b : Answered). b.line) all
        (subst (λ (l : List Line). All (λ (line : Line). IsBetweenNodes size line.command) l) (sym lines_are) (lines_between size (length land.graph.edges) (omega arith))) in
        routes_by x z a is a.line.command refl (line_of land journal all played a has) (All-contains (λ (b : Answered). IsBetweenNodes size b.line.command) all a on has)
