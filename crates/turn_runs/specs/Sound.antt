-- Private: what the search for a line is given and comes to, and what the struct that answers keeps.
use Rattle.std.specs.Prelude.{◌<◌, ℕ, length, nat_lt, if◌then◌else◌}
use Rattle.std.specs.List.{sum_by}
use Rattle.base_graph.specs.Graphs.{Graph, IsGraph}
use Rattle.alt_search.specs.declared.finding.Found.{Found}
use Rattle.alt_search.specs.declared.finding.Found.TheVariants as found
use Rattle.turn_graph.specs.Tables.{IsFor, IsTableOf}
use Rattle.traffic_core.specs.Trips.{edge_mm}
use Rattle.traffic_core.specs.Answers.{greatest_weight}
use Rattle.script_text.specs.declared.reply.Reply.{Reply}
use Rattle.script_text.specs.declared.reply.Reply.TheVariants as reply
use Rattle.map_roads.specs.Opening.{IsGuideOf}
use Rattle.turn_runs.specs.Lines.{TurnRoads, streets_of}

-- what a finding comes to: the mm are those of the edges
abbrev pub reply_of : Graph → Found → Reply
reply_of graph (found.NoWalk settled) = reply.NoRoute settled
reply_of graph (found.Walk hops weight settled) =
    if nat_lt greatest_weight weight then reply.Overflow weight else reply.Route weight (sum_by (edge_mm graph) hops) settled hops

-- there is a profile, the table is of the restrictions, and the guide is made of the roads at the limits that they open with
pub record AreSound (roads : TurnRoads) : Type 0 where
  pub graph : IsGraph roads.land.graph
  pub there : 0 < length roads.land.profiles
  pub suits : IsFor roads.land.graph roads.table
  pub table_is : IsTableOf (streets_of roads) roads.turns roads.table
  pub count : ℕ
  pub guides : IsGuideOf roads.land count roads.guide
