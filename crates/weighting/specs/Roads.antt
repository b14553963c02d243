-- Roads as a rule weighs them, seen from their nodes: the directed edges that leave a node, or the same turned round.
use Rattle.std.specs.Prelude.{ℕ, ◌<◌, Bool, true, false, ◌||◌, not, List, [], map, length, Option, Some, None, All}
use Rattle.std.specs.Option.{is_some}
use Rattle.gh_base.specs.declared.edges.DirEdge.{DirEdge}
use Rattle.gh_base.specs.declared.edges.Hop.{Hop}
use Rattle.gh_base.specs.Networks.{Network}
use Rattle.encoded_values.specs.Values.{opening}
use Rattle.base_graph.specs.Graphs.{Graph, directed, edge_at, head, tail, around_of}
use Rattle.weighting.specs.declared.weight_view.Side.{Side}
use Rattle.weighting.specs.declared.weight_view.Side.TheVariants.{Out, Back}
use Rattle.weighting.specs.Rules.{Rule}
use Rattle.weighting.specs.Weights.{values_at, weight_by}

-- the limit that a directed edge opens with, in milli-km/h
abbrev pub opening_of : Graph → DirEdge → ℕ
opening_of graph by = opening (values_at graph by)

-- the weight of a whole directed edge at its own limit
abbrev pub whole_weight : Rule → (DirEdge → ℕ) → Graph → DirEdge → Option ℕ
whole_weight rule limits graph by = weight_by rule graph by (limits by) (edge_at graph.edges by.edge.0).mm

-- whether a directed edge has a weight at the limit that it opens with
abbrev pub opens : Rule → Graph → DirEdge → Bool
opens rule graph by = is_some (whole_weight rule (opening_of graph) graph by)

-- whether some direction of an edge has
abbrev pub is_usable : Rule → Graph → ℕ → Bool
is_usable rule graph n = opens rule graph (directed n false) || opens rule graph (directed n true)

-- a directed edge, from the tower at which it starts to the one to which it leads
abbrev pub hop_out : Rule → (DirEdge → ℕ) → Graph → DirEdge → Hop
hop_out rule limits graph by = record {
  to = record { 0 = head (edge_at graph.edges by.edge.0) by.reverse };
  by = by;
  weight = whole_weight rule limits graph by;
}

-- a directed edge turned round: from the tower to which it leads to the one at which it starts
abbrev pub hop_back : Rule → (DirEdge → ℕ) → Graph → DirEdge → Hop
hop_back rule limits graph by = record {
  to = record { 0 = tail (edge_at graph.edges by.edge.0) by.reverse };
  by = by;
  weight = whole_weight rule limits graph by;
}

-- the other direction of the same edge
abbrev pub opposite : DirEdge → DirEdge
opposite by = record { edge = by.edge; reverse = not by.reverse }

-- on the one side the hop of what starts at a tower, and on the other that of its opposite, which leads there
abbrev pub hop_of : Side → Rule → (DirEdge → ℕ) → Graph → DirEdge → Hop
hop_of Out rule limits graph by = hop_out rule limits graph by
hop_of Back rule limits graph by = hop_back rule limits graph (opposite by)

abbrev pub network_of : Side → Rule → (DirEdge → ℕ) → Graph → Network
network_of side rule limits graph = record { nodes = length graph.places; hops = λ node. map (hop_of side rule limits graph) (around_of graph node) }

-- each directed edge is a hop of the tower at which it starts
abbrev pub network_by : Rule → (DirEdge → ℕ) → Graph → Network
network_by rule limits graph = network_of Out rule limits graph

-- each directed edge is a hop of the tower to which it leads, to the one at which it starts
abbrev pub network_back : Rule → (DirEdge → ℕ) → Graph → Network
network_back rule limits graph = network_of Back rule limits graph

-- the directed edges that are left to give
abbrev pub edges_left : Option (List DirEdge) → List DirEdge
edges_left None = []
edges_left (Some around) = around

-- the hops of what is left to give
abbrev pub hops_left : Side → Rule → (DirEdge → ℕ) → Graph → Option (List DirEdge) → List Hop
hops_left side rule limits graph around = map (hop_of side rule limits graph) (edges_left around)

-- each of these is a directed edge of the graph
abbrev pub AreOf : Graph → List DirEdge → Type 0
AreOf graph list = All (λ by. by.edge.0 < length graph.edges) list

-- each of these hops is over an edge of the graph
abbrev pub AreOver : Graph → List Hop → Type 0
AreOver graph hops = All (λ hop. hop.by.edge.0 < length graph.edges) hops
