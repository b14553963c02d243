-- A place lies at one spot, and right answers agree.
use Rattle.std.specs.Ordering.{int_eq}
use Rattle.std.specs.List.{IsDistinct, AllByRecursion}
use Rattle.std.specs.Prelude.{slice_get}
use Rattle.std.proofs.Common.{◌≡◌, ℕ, ℤ, ◌+◌, ◌<◌, ◌≤◌, ◌⊎◌, Bool, true, false, List, [], ◌∷◌, length, Option, Some, None, zero, suc, inl, inr, refl, sym, ap, subst, ◌∙◌, arith}
use Rattle.std.proofs.lemmas.Bool.{cases_order, false≢true}
use Rattle.std.proofs.lemmas.Bool.Decides.{Decides-int_eq}
use Rattle.std.proofs.lemmas.Map.Keys.{IsDistinct-head, IsDistinct-tail}
use Rattle.std.proofs.lemmas.Option.{slice_get_within}
use Rattle.gh_base.specs.declared.edges.DirEdge.{DirEdge}
use Rattle.gh_base.specs.declared.edges.Hop.{Hop}
use Rattle.gh_base.specs.declared.map.Point.{Point}
use Rattle.gh_base.specs.declared.query.Place.{Place}
use Rattle.gh_base.specs.declared.query.Place.TheVariants.{Id, At}
use Rattle.gh_base.specs.declared.query.RouteAnswer.{RouteAnswer}
use Rattle.gh_base.specs.declared.query.RouteAnswer.TheVariants.{NoNode, NoSnap, NoRoute, WeightOverflow, Walk, Labelled}
use Rattle.geo_math.specs.declared.foot.Snap.{Snap}
use Rattle.base_graph.specs.Graphs.{Graph, points_of}
use Rattle.location_grid.specs.Snaps.{IsSnapAmong, IsSnap, foot_at, segments}
use Rattle.location_grid.specs.Nearest.{IsNearest}
use Rattle.location_grid.specs.declared.grid.OnEdge.{OnEdge}
use Rattle.landmark_prep.specs.Preparations.{Preparation}
use Rattle.traffic_core.specs.declared.spot.Spot.{Spot}
use Rattle.traffic_core.specs.declared.spot.Spot.TheVariants.{Tower, Inside}
use Rattle.traffic_core.specs.Lands.{Land, IsLand}
use Rattle.traffic_core.specs.Spots.{spot_along}
use Rattle.traffic_core.specs.Places.{IsSpot, IsSpotOf, IsSnapOf, usable_in}
use Rattle.traffic_core.specs.Answers.{Asked, Plan, IsLeastOf, IsRightAmong, IsRightBetween, IsMissing, IsRightFrom, IsRightAnswer, missing}
use Rattle.traffic_core.specs.Laws.{OneSpot, OneWeight, weight_in}

-- what is so of each item is so of one
one_of : {A : Type 0} (P : A → Type 0) (xs : List A) (i : ℕ) (x : A) → AllByRecursion P xs → slice_get xs i ≡ Some x → P x
one_of P [] i x all e = absurd (omega (arith, slice_get_within [] i x e))
one_of P (y ∷ xs) zero x all e = let same : y ≡ x = cc in subst P same all.0
one_of P (y ∷ xs) (suc i) x all e = one_of P xs i x all.1 e

-- an id stands at one place
not_later : (x : ℤ) (xs : List ℤ) (i : ℕ) (id : ℤ) → AllByRecursion (λ y. int_eq x y ≡ false) xs → Some x ≡ Some id → slice_get xs i ≡ Some id → ⊥
not_later x xs i id all here later =
    let same : x ≡ id = cc in
    false≢true (sym (one_of (λ (y : ℤ). int_eq x y ≡ false) xs i id all later) ∙ (Decides-int_eq x id).1 same)

tower_once : (ids : List ℤ) (i j : ℕ) (id : ℤ) → IsDistinct int_eq ids → slice_get ids i ≡ Some id → slice_get ids j ≡ Some id → i ≡ j
tower_once [] i j id d a b = absurd (omega (arith, slice_get_within [] i id a))
tower_once (x ∷ ids) zero zero id d a b = refl
tower_once (x ∷ ids) zero (suc j) id d a b = absurd (not_later x ids j id (IsDistinct-head int_eq x ids d) a b)
tower_once (x ∷ ids) (suc i) zero id d a b = absurd (not_later x ids i id (IsDistinct-head int_eq x ids d) b a)
tower_once (x ∷ ids) (suc i) (suc j) id d a b = ap suc (tower_once ids i j id (IsDistinct-tail int_eq x ids d) a b)

-- a point has one snap on a line
snap_once : (p : Point) (points : List Point) (count : ℕ) (s t : Snap) → IsSnapAmong p points count s → IsSnapAmong p points count t → s.place ≡ t.place
snap_once p points count s t a b =
    let le : s.dist2 ≤ t.dist2 = subst (λ (n : ℕ). s.dist2 ≤ n) (sym b.dist2) (a.least b.segment b.there) in
    let ge : t.dist2 ≤ s.dist2 = subst (λ (n : ℕ). t.dist2 ≤ n) (sym a.dist2) (b.least a.segment a.there) in
    elim (cases_order a.segment b.segment) [
      | inl same ↦ a.place ∙ ap (λ (k : ℕ). Rattle.geo_math.specs.Lengths.line_length (Rattle.std.proofs.Common.take (k + 1) points) + (foot_at p points k).place) same ∙ sym b.place
      | inr apart ↦ elim apart [
        | inl less ↦ absurd (let h : t.dist2 < (foot_at p points a.segment).dist2 = b.first a.segment less in omega (arith, a.dist2))
        | inr more ↦ absurd (let h : s.dist2 < (foot_at p points b.segment).dist2 = a.first b.segment more in omega (arith, b.dist2))
      ]
    ]

-- and is nearest at one place
module _ (graph : Graph) (p : Point) (set : ℕ → Bool) where
  near_le : (a b : OnEdge) (x : IsNearest graph p set a) (y : IsNearest graph p set b) → x.snap.dist2 ≤ y.snap.dist2
  near_le a b x y = subst (λ (n : ℕ). x.snap.dist2 ≤ n) (sym y.is_snap.dist2) ((x.least b.edge.0 y.has).least y.is_snap.segment y.is_snap.there)

  near_less : (a b : OnEdge) (x : IsNearest graph p set a) (y : IsNearest graph p set b) → b.edge.0 < a.edge.0 → x.snap.dist2 < y.snap.dist2
  near_less a b x y h = subst (λ (n : ℕ). x.snap.dist2 < n) (sym y.is_snap.dist2) ((x.least b.edge.0 y.has).first h y.is_snap.segment y.is_snap.there)

  edge_once : (a b : OnEdge) → IsNearest graph p set a → IsNearest graph p set b → a.edge.0 ≡ b.edge.0
  edge_once a b x y = elim (cases_order a.edge.0 b.edge.0) [
    | inl same ↦ same
    | inr apart ↦ elim apart [
      | inl less ↦ absurd (omega (arith, near_less b a y x less, near_le a b x y))
      | inr more ↦ absurd (omega (arith, near_less a b x y more, near_le b a y x))
    ]
  ]

  offset_once : (a b : OnEdge) → IsNearest graph p set a → IsNearest graph p set b → a.offset_mm ≡ b.offset_mm
  offset_once a b x y =
      let there : IsSnap p (points_of graph a.edge.0) y.snap = subst (λ (n : ℕ). IsSnap p (points_of graph n) y.snap) (sym (edge_once a b x y)) y.is_snap in
      x.offset ∙ snap_once p (points_of graph a.edge.0) (segments (points_of graph a.edge.0)) x.snap y.snap x.is_snap there ∙ sym y.offset

abbrev on_edge : ℕ → ℕ → OnEdge
on_edge edge mm = record { edge = record { 0 = edge }; offset_mm = mm }

along_same : (graph : Graph) (a b : OnEdge) → a.edge.0 ≡ b.edge.0 → a.offset_mm ≡ b.offset_mm → spot_along graph a.edge a.offset_mm ≡ spot_along graph b.edge b.offset_mm
along_same graph a b e o =
    ap (λ (n : ℕ). spot_along graph (record { 0 = n }) a.offset_mm) e ∙ ap (λ (n : ℕ). spot_along graph b.edge n) o

id_once : (land : Land) → IsLand land → (id : ℤ) (s t : Option Spot) → IsSpotOf land id s → IsSpotOf land id t → s ≡ t
id_once land l id None None a b = refl
id_once land l id None (Some (Tower node)) a b = absurd (a node.0 b)
id_once land l id None (Some (Inside edge mm)) a b = absurd b
id_once land l id (Some (Tower node)) None a b = absurd (b node.0 a)
id_once land l id (Some (Tower node)) (Some (Tower other)) a b = ap (λ (n : ℕ). Some (Tower (record { 0 = n }))) (tower_once land.ids node.0 other.0 id l.distinct a b)
id_once land l id (Some (Tower node)) (Some (Inside edge mm)) a b = absurd b
id_once land l id (Some (Inside edge mm)) t a b = absurd a

some_edge : (land : Land) (profile : ℕ) (point : Point) (spot : Spot) → IsSnapOf land profile point None → IsSnapOf land profile point (Some spot) → ⊥
some_edge land profile point spot none some = false≢true (sym (none some.0.edge.0 some.1.has.there) ∙ some.1.has.has)

point_once : (land : Land) (profile : ℕ) (point : Point) (s t : Option Spot) → IsSnapOf land profile point s → IsSnapOf land profile point t → s ≡ t
point_once land profile point None None a b = refl
point_once land profile point None (Some t) a b = absurd (some_edge land profile point t a b)
point_once land profile point (Some s) None a b = absurd (some_edge land profile point s b a)
point_once land profile point (Some s) (Some t) a b =
    let set = usable_in land profile in
    let same : spot_along land.graph a.0.edge a.0.offset_mm ≡ spot_along land.graph b.0.edge b.0.offset_mm =
    along_same land.graph a.0 b.0 (edge_once land.graph point set a.0 b.0 a.1 b.1) (offset_once land.graph point set a.0 b.0 a.1 b.1) in
    ap (λ (x : Spot). Some x) (a.2 ∙ same ∙ sym b.2)

pub spot_once : OneSpot
spot_once land l profile (Id id) s t a b = id_once land l id s t a b
spot_once land l profile (At point) s t a b = point_once land profile point s t a b

-- what a weight, or none, says of walks
abbrev IsTold : (List Hop → Type 0) → Option ℕ → Type 0
IsTold IsSo None = (hops : List Hop) → IsSo hops → ⊥
IsTold IsSo (Some weight) = IsLeastOf IsSo weight

told : (IsSo : List Hop → Type 0) (plan : Plan) (mm_of : List Hop → ℕ) (towers : ℕ) (labels : Bool) (answer : RouteAnswer) → IsRightAmong IsSo plan mm_of towers labels answer → IsTold IsSo (weight_in answer)
told IsSo plan mm_of towers labels (NoNode id) h = absurd h
told IsSo plan mm_of towers labels (NoSnap point) h = absurd h
told IsSo plan mm_of towers labels (NoRoute settled) h = h.0
told IsSo plan mm_of towers labels (WeightOverflow weight) h = h.0
told IsSo plan mm_of towers labels (Walk weight mm settled hops) h = record { hops = hops; walk = h.1.walk; weight_is = h.1.weight_is; least = h.1.least }
told IsSo plan mm_of towers labels (Labelled weight list) h = h.1.least

at_most : (IsSo : List Hop → Type 0) (a b : ℕ) → IsLeastOf IsSo a → IsLeastOf IsSo b → a ≤ b
at_most IsSo a b x y = subst (λ (n : ℕ). a ≤ n) y.weight_is (x.least y.hops y.walk)

told_once : (IsSo : List Hop → Type 0) (a b : Option ℕ) → IsTold IsSo a → IsTold IsSo b → a ≡ b
told_once IsSo None None x y = refl
told_once IsSo None (Some b) x y = absurd (x y.hops y.walk)
told_once IsSo (Some a) None x y = absurd (y x.hops x.walk)
told_once IsSo (Some a) (Some b) x y = let same : a ≡ b = omega (arith, at_most IsSo a b x y, at_most IsSo b a y x) in ap (λ (n : ℕ). Some n) same

no_weight : (place : Place) (point : ℕ) → weight_in (missing place point) ≡ None
no_weight (Id id) point = refl
no_weight (At place) point = refl

module _ (land : Land) (l : IsLand land) (limits : DirEdge → ℕ) (one other : Option Preparation) (asks : Asked) where
  missing_tells : (answer : RouteAnswer) → IsMissing land asks answer → weight_in answer ≡ None
  missing_tells answer (inl h) = ap weight_in h.1 ∙ no_weight asks.from 1
  missing_tells answer (inr h) = ap weight_in h.2 ∙ no_weight asks.to 2

  not_nowhere : (place : Place) (spot : Spot) → IsSpot land asks.profile place None → IsSpot land asks.profile place (Some spot) → ⊥
  not_nowhere place spot none some = let e : None ≡ Some spot = spot_once land l asks.profile place None (Some spot) none some in cc

  not_missing : (prep : Option Preparation) (a b : RouteAnswer) → IsMissing land asks a → IsRightFrom land limits prep asks b → ⊥
  not_missing prep a b (inl h) r = not_nowhere asks.from r.from h.0 r.from_is
  not_missing prep a b (inr h) r = not_nowhere asks.to r.to h.1 r.to_is

  same_spot : (place : Place) (s t : Spot) → IsSpot land asks.profile place (Some s) → IsSpot land asks.profile place (Some t) → s ≡ t
  same_spot place s t a b = let e : Some s ≡ Some t = spot_once land l asks.profile place (Some s) (Some t) a b in cc

  right_tells : (a b : RouteAnswer) → IsRightFrom land limits one asks a → IsRightFrom land limits other asks b → weight_in a ≡ weight_in b
  right_tells a b x y =
      let here : IsRightBetween land limits y.bound asks x.from x.to b =
      subst (λ (s : Spot). IsRightBetween land limits y.bound asks s x.to b) (sym (same_spot asks.from x.from y.from x.from_is y.from_is))
      (subst (λ (s : Spot). IsRightBetween land limits y.bound asks y.from s b) (sym (same_spot asks.to x.to y.to x.to_is y.to_is)) y.right) in
      told_once _ (weight_in a) (weight_in b) (told _ _ _ _ _ a x.right) (told _ _ _ _ _ b here)

  once : (a b : RouteAnswer) → IsRightAnswer land limits one asks a → IsRightAnswer land limits other asks b → weight_in a ≡ weight_in b
  once a b (inl x) (inl y) = missing_tells a x ∙ sym (missing_tells b y)
  once a b (inl x) (inr y) = absurd (not_missing other a b x y)
  once a b (inr x) (inl y) = absurd (not_missing one b a y x)
  once a b (inr x) (inr y) = right_tells a b x y

pub weight_once : OneWeight
weight_once land l limits one other asks a b x y = once land l limits one other asks a b x y
