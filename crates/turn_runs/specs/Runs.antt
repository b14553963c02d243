-- What `turns` writes: a line for each query over a map.
use Rattle.std.specs.Prelude.{◌≡◌, ℕ, ℤ, List}
use Rattle.gh_base.specs.declared.kinds.Form.{Form}
use Rattle.map_import.specs.declared.roads.Roads.{Roads}
use Rattle.turn_graph.specs.declared.turn.Turn.{Turn}
use Rattle.turn_graph.specs.Tables.{IsTableOf}
use Rattle.map_roads.specs.Reading.{AreRoadsAndWays}
use Rattle.map_roads.specs.Cars.{car_land}
use Rattle.map_roads.specs.Opening.{IsGuideOf}
use Rattle.query_lines.specs.Answering.{IsAnswered}
use Rattle.turn_runs.specs.Turns.{turns_in}
use Rattle.turn_runs.specs.Lines.{TurnRoads, streets_of, IsLineOf}

-- roads for cars with the ways of their edges, restrictions, and a guide of at most so many landmarks
pub record AreTurnRoads (found : Roads) (ways : List ℤ) (turns : List Turn) (count : ℕ) (roads : TurnRoads) : Type 0 where
  pub land_is : roads.land ≡ car_land found
  pub ways_are : roads.table.ways ≡ ways
  pub turns_are : roads.turns ≡ turns
  pub table_is : IsTableOf (streets_of roads) roads.turns roads.table
  pub guides : IsGuideOf roads.land count roads.guide

-- a text answers the queries that bytes are, over the roads, ways and restrictions of the map that bytes are in a form
pub record IsTurnText (form : Form) (held : List ℕ) (count : ℕ) (bytes text : List ℕ) : Type 0 where
  pub found : Roads
  pub ways : List ℤ
  pub are : AreRoadsAndWays form held found ways
  pub roads : TurnRoads
  pub roads_are : AreTurnRoads found ways (turns_in form held) count roads
  pub answers : IsAnswered (IsLineOf roads) bytes text
