-- Laws of walks between spots and of right answers, each a statement of its own.
use Rattle.std.specs.Prelude.{◌≡◌, ℕ, ◌+◌, ◌-◌, ◌≤◌, false, true, Option, Some, None, List, [], ◌∷◌, ◌++◌}
use Rattle.std.specs.List.{sum_by}
use Rattle.gh_base.specs.declared.edges.EdgeId.{EdgeId}
use Rattle.gh_base.specs.declared.edges.NodeId.{NodeId}
use Rattle.gh_base.specs.declared.edges.DirEdge.{DirEdge}
use Rattle.gh_base.specs.declared.edges.Hop.{Hop}
use Rattle.gh_base.specs.declared.query.Place.{Place}
use Rattle.gh_base.specs.declared.query.RouteAnswer.{RouteAnswer}
use Rattle.gh_base.specs.declared.query.RouteAnswer.TheVariants.{NoNode, NoSnap, NoRoute, WeightOverflow, Walk, Labelled}
use Rattle.base_graph.specs.Graphs.{Graph, edge_at}
use Rattle.traffic_core.specs.declared.spot.Spot.{Spot}
use Rattle.traffic_core.specs.declared.spot.Spot.TheVariants.{Tower, Inside}
use Rattle.traffic_core.specs.Lands.{Land, IsLand}
use Rattle.traffic_core.specs.Places.{IsSpot}
use Rattle.traffic_core.specs.Trips.{edge_mm, mm_before, mm_behind, mm_between}
use Rattle.landmark_prep.specs.Preparations.{Preparation}
use Rattle.traffic_core.specs.Answers.{Asked, IsRightAnswer}

-- between towers a walk is as long as its edges together
abbrev pub WholeWalksAreEdges : Type 0
WholeWalksAreEdges = (graph : Graph) (from to : NodeId) (hops : List Hop) → mm_between graph (Tower from) (Tower to) hops ≡ sum_by (edge_mm graph) hops

-- out of an edge and into another it is as long as its first piece, its whole edges and its last piece together
abbrev pub WalksArePieces : Type 0
WalksArePieces = (graph : Graph) (e f : EdgeId) (x y : ℕ) (first last : Hop) (inner : List Hop) →
    first.by.edge ≡ e → x ≤ (edge_at graph.edges e.0).mm → last.by.edge ≡ f → y ≤ (edge_at graph.edges f.0).mm →
    mm_between graph (Inside e x) (Inside f y) (first ∷ (inner ++ last ∷ []))
    ≡ mm_behind (edge_at graph.edges e.0) x first.by.reverse + sum_by (edge_mm graph) inner + mm_before (edge_at graph.edges f.0) y last.by.reverse

-- inside one edge a forward piece is as long as its ends are apart, and so is one in reverse
abbrev pub ForwardPiecesAreApart : Type 0
ForwardPiecesAreApart = (graph : Graph) (e : EdgeId) (x y : ℕ) (hop : Hop) → hop.by.edge ≡ e → hop.by.reverse ≡ false → x ≤ y → y ≤ (edge_at graph.edges e.0).mm →
    mm_between graph (Inside e x) (Inside e y) (hop ∷ []) ≡ y - x

abbrev pub ReversePiecesAreApart : Type 0
ReversePiecesAreApart = (graph : Graph) (e : EdgeId) (x y : ℕ) (hop : Hop) → hop.by.edge ≡ e → hop.by.reverse ≡ true → y ≤ x → x ≤ (edge_at graph.edges e.0).mm →
    mm_between graph (Inside e x) (Inside e y) (hop ∷ []) ≡ x - y

-- a place lies at one spot, or nowhere
abbrev pub OneSpot : Type 0
OneSpot = (land : Land) → IsLand land → (profile : ℕ) (place : Place) (first second : Option Spot) →
    IsSpot land profile place first → IsSpot land profile place second → first ≡ second

-- the weight that an answer tells
abbrev pub weight_in : RouteAnswer → Option ℕ
weight_in (NoNode id) = None
weight_in (NoSnap point) = None
weight_in (NoRoute settled) = None
weight_in (WeightOverflow weight) = Some weight
weight_in (Walk weight mm settled hops) = Some weight
weight_in (Labelled weight labels) = Some weight

-- all right answers to a query tell the same weight, or none, whatever guides the searches: where a route is right, that there is none isn't
abbrev pub OneWeight : Type 0
OneWeight = (land : Land) → IsLand land → (limits : DirEdge → ℕ) (one other : Option Preparation) (asks : Asked) (first second : RouteAnswer) →
    IsRightAnswer land limits one asks first → IsRightAnswer land limits other asks second → weight_in first ≡ weight_in second
