-- What answers query lines over the roads and restrictions of a map that was read.
use Rattle.std.proofs.Common.{◌≡◌, ℕ, ℤ, Option, Some, None, List, refl, sym, subst}
use Rattle.std.specs.Prelude.{IfSome}
use Rattle.gh_base.specs.declared.kinds.Form.{Form}
use Rattle.map_import.specs.declared.roads.Roads.{Roads}
use Rattle.landmark_prep.specs.Preparations.{Preparation}
use Rattle.traffic_core.specs.Lands.{Land}
use Rattle.turn_graph.specs.declared.turn.Turn.{Turn}
use Rattle.turn_graph.specs.Tables.{Table, IsTableOf, streets_for}
use Rattle.map_roads.specs.Statuses.{IsShortMap}
use Rattle.map_roads.specs.Reading.{AreRoadsAndWays}
use Rattle.map_roads.specs.Cars.{car_land}
use Rattle.map_roads.specs.Opening.{IsGuideOf}
use Rattle.map_roads.proofs.Counted.{AreRead}
use Rattle.query_lines.specs.Answering.{IsAnswered}
use Rattle.turn_runs.specs.Turns.{turns_in}
use Rattle.turn_runs.specs.Lines.{TurnRoads, IsLineOf}
use Rattle.turn_runs.specs.Runs.{AreTurnRoads, IsTurnText}

-- what was made of roads, ways and restrictions
pub turn_roads : (found : Roads) (ways : List ℤ) (turns : List Turn) (count : ℕ) (land : Land) → land ≡ car_land found → (table : Table)
    → IsTableOf (record { graph = found.graph.lists; ids = found.ids; ways = ways }) turns table → (guide : Option Preparation) → IsGuideOf land count guide
    → (roads : TurnRoads) → roads ≡ record { land = land; turns = turns; table = table; guide = guide } → AreTurnRoads found ways turns count roads
turn_roads found ways turns count land land_is table kept guide guides roads same =
    let own : IsTableOf (streets_for found.graph.lists found.ids table) turns table =
    subst (λ (w : List ℤ). IsTableOf (record { graph = found.graph.lists; ids = found.ids; ways = w }) turns table) (sym kept.ways) kept in
    subst (λ (r : TurnRoads). AreTurnRoads found ways turns count r) (sym same) (record {
      land_is = land_is;
      ways_are = kept.ways;
      turns_are = refl;
      table_is = subst (λ (l : Land). IsTableOf (streets_for l.graph l.ids table) turns table) (sym land_is) own;
      guides = guides;
    })

module _ (form : Form) (found : Roads) (ways : List ℤ) (turns : List Turn) where
  -- they are those of the map
  abbrev pub AreOfMap : List ℕ → Type 0
  AreOfMap held = IsShortMap held × AreRoadsAndWays form held found ways × (turns ≡ turns_in form held)

  -- the roads alone
  pub roads_read : (holds : Option (List ℕ)) → IfSome holds AreOfMap → AreRead form holds found
  roads_read None read = tt
  roads_read (Some held) read = (read.0, record { map = read.1.map; reads_as = read.1.reads_as; roads_are = read.1.roads_are })

  pub turn_text : (count : ℕ) (roads : TurnRoads) → AreTurnRoads found ways turns count roads → (held bytes text : List ℕ) → AreOfMap held → IsAnswered (IsLineOf roads) bytes text
      → IsTurnText form held count bytes text
  turn_text count roads are held bytes text read answers = record {
    found = found;
    ways = ways;
    are = read.1;
    roads = roads;
    roads_are = subst (λ (t : List Turn). AreTurnRoads found ways t count roads) read.2 are;
    answers = answers;
  }
