-- Which line answers a query from tower to tower by a search from both ends.
use Rattle.std.specs.Prelude.{◌≡◌, ℕ, ◌+◌, ◌<◌, ◌≤◌, ◌⊎◌, List, [], ◌++◌, Option, codes, decimal}
use Rattle.std.specs.List.{sum_by}
use Rattle.gh_base.specs.declared.edges.Hop.{Hop}
use Rattle.walk_rules.specs.Walks.{IsLeast, IsLeastWeight, NoWalk, weight_of}
use Rattle.landmark_prep.specs.Preparations.{Preparation}
use Rattle.traffic_core.specs.Lands.{Land, IsTower, IsNoTower}
use Rattle.traffic_core.specs.Trips.{edge_mm}
use Rattle.traffic_core.specs.Answers.{greatest_weight}
use Rattle.two_way_search.specs.Keys.{StartsOnBothSides}
use Rattle.two_way_search.specs.Answers.{NeedsNoSearch}
use Rattle.script_text.specs.declared.reply.Reply.TheVariants as reply
use Rattle.script_text.specs.Replies.{hops_text, reply_text}
use Rattle.query_lines.specs.declared.queries.TowerQuery.{TowerQuery}
use Rattle.both_runs.specs.declared.answer.BothAnswer.{BothAnswer}
use Rattle.both_runs.specs.declared.answer.BothAnswer.TheVariants.{NoNode, NoRoute, Overflow, Walk}
use Rattle.map_roads.specs.Opening.{opening_network}
use Rattle.both_runs.specs.Guided.{opening_back, AreBounds}

-- at so many nodes each side is started: forward first and in turn, at none where nothing is to be searched, and else as the keys by these bounds ask
pub record AreRightStarts (land : Land) (ahead behind : ℕ → Option ℕ) (from to forward backward : ℕ) : Type 0 where
  pub turns : (forward ≡ backward) ⊎ (forward ≡ backward + 1)
  pub nowhere : NeedsNoSearch ahead behind from to → (forward ≡ 0) × (backward ≡ 0)
  pub keyed : (NeedsNoSearch ahead behind from to → ⊥) →
      StartsOnBothSides (opening_network land) (opening_back land) ahead behind from to forward backward

-- a least walk, empty from a tower to itself, with its weight, which isn't too great, and the mm of its edges
pub record IsRightWalk (land : Land) (from to weight mm : ℕ) (hops : List Hop) : Type 0 where
  pub least : IsLeast (opening_network land) from hops to
  pub empty : from ≡ to → hops ≡ []
  pub weight_is : weight_of hops ≡ weight
  pub within : weight ≤ greatest_weight
  pub mm_is : mm ≡ sum_by (edge_mm land.graph) hops

-- which answer is right between two towers by these bounds: that there is no walk, the least weight where it is too great, or a least walk
abbrev pub IsRightBy : Land → (ℕ → Option ℕ) → (ℕ → Option ℕ) → ℕ → ℕ → BothAnswer → Type 0
IsRightBy land ahead behind from to (NoNode id) = ⊥
IsRightBy land ahead behind from to (NoRoute forward backward) =
    NoWalk (opening_network land) from to × AreRightStarts land ahead behind from to forward backward
IsRightBy land ahead behind from to (Overflow weight) =
    IsLeastWeight (opening_network land) from to weight × (greatest_weight < weight)
IsRightBy land ahead behind from to (Walk weight mm forward backward hops) =
    IsRightWalk land from to weight mm hops × AreRightStarts land ahead behind from to forward backward

-- and by those bounds that what guides the search gives
pub record IsRightBetween (land : Land) (guide : Option Preparation) (from to : ℕ) (answer : BothAnswer) : Type 0 where
  pub ahead : ℕ → Option ℕ
  pub behind : ℕ → Option ℕ
  pub bounds : AreBounds land guide from to ahead behind
  pub right : IsRightBy land ahead behind from to answer

-- the first id is no tower's, and the answer says so; or it is one's, and the second isn't
abbrev pub IsMissing : Land → TowerQuery → BothAnswer → Type 0
IsMissing land query answer =
    (IsNoTower land query.from × (answer ≡ NoNode query.from))
    ⊎ ((node : ℕ) × IsTower land query.from node × IsNoTower land query.to × (answer ≡ NoNode query.to))

-- both are a tower's, and the answer is right between these
pub record IsFound (land : Land) (guide : Option Preparation) (query : TowerQuery) (answer : BothAnswer) : Type 0 where
  pub from : ℕ
  pub to : ℕ
  pub from_is : IsTower land query.from from
  pub to_is : IsTower land query.to to
  pub right : IsRightBetween land guide from to answer

-- which answer to a query is right
abbrev pub IsRight : Land → Option Preparation → TowerQuery → BothAnswer → Type 0
IsRight land guide query answer = IsMissing land query answer ⊎ IsFound land guide query answer

-- both counts of starts, forward first
abbrev pub starts_text : ℕ → ℕ → List ℕ
starts_text forward backward = decimal forward ++ (codes " " ++ decimal backward)

-- the weight in ms, the length in mm, the starts, and the edges
abbrev pub both_text : ℕ → ℕ → ℕ → ℕ → List Hop → List ℕ
both_text weight mm forward backward hops =
    codes "both " ++ (decimal weight ++ (codes " " ++ (decimal mm ++ (codes " " ++ (starts_text forward backward ++ hops_text hops)))))

-- what an answer says; of a missing tower and of a weight that is too great it is what a script is answered
abbrev pub answer_text : BothAnswer → List ℕ
answer_text (NoNode id) = reply_text (reply.NoNode id)
answer_text (NoRoute forward backward) = codes "noroute " ++ starts_text forward backward
answer_text (Overflow weight) = reply_text (reply.Overflow weight)
answer_text (Walk weight mm forward backward hops) = both_text weight mm forward backward hops

-- the text of a right answer, and a newline
abbrev pub IsRightLine : Land → Option Preparation → TowerQuery → List ℕ → Type 0
IsRightLine land guide query line =
    (answer : BothAnswer) × IsRight land guide query answer × (line ≡ answer_text answer ++ codes "\n")
