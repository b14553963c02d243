-- What replies over roads come to, and the lines that say it.
use Rattle.std.specs.Prelude.{ℕ, ◌+◌, Bool, true, false, List, [], ◌∷◌, ◌++◌, length, codes, decimal, if◌then◌else◌}
use Rattle.std.specs.List.{count_by, sum_by}
use Rattle.traffic_core.specs.Lands.{Land}
use Rattle.script_text.specs.declared.reply.Reply.{Reply}
use Rattle.script_text.specs.declared.reply.Reply.TheVariants as reply
use Rattle.script_text.specs.declared.script.Script.{Script}
use Rattle.script_service.specs.Answering.{joined}
use Rattle.script_service.specs.Collecting.{replies}
use Rattle.script_service.specs.Writing.{Fits}
use Rattle.generated_run.specs.declared.summing.Summary.{Summary}

-- the landmarks of a preparation
abbrev pub landmarks_of : Reply → ℕ
landmarks_of (reply.Prepared landmarks) = landmarks
landmarks_of other = 0

-- a query was answered with a walk
abbrev pub is_route : Reply → Bool
is_route (reply.Route weight mm settled hops) = true
is_route other = false

-- its weight
abbrev pub weight_of : Reply → ℕ
weight_of (reply.Route weight mm settled hops) = weight
weight_of other = 0

-- what replies come to over so many nodes and edges, where the journal has so many entries
abbrev pub summary_from : ℕ → ℕ → List Reply → ℕ → Summary
summary_from nodes edges said entries = record {
  nodes = nodes;
  edges = edges;
  landmarks = sum_by landmarks_of said;
  routes = count_by is_route said;
  entries = entries;
  weight = sum_by weight_of said;
}

-- a summary with one reply more
abbrev pub with_reply : Summary → Reply → Summary
with_reply summary said = record {
  nodes = summary.nodes;
  edges = summary.edges;
  landmarks = summary.landmarks + landmarks_of said;
  routes = summary.routes + (if is_route said then 1 else 0);
  entries = summary.entries;
  weight = summary.weight + weight_of said;
}

-- the summary of a text that fits a script: of its replies and its journal
abbrev pub summary_of : (land : Land) (script : Script) (text : List ℕ) → Fits land script text → Summary
summary_of land script text fits = summary_from (length land.graph.places) (length land.graph.edges) (replies (joined fits.phases)) (length fits.journal)

-- a name, a space, the number, and the end of the line
abbrev pub line_of : List ℕ → ℕ → List ℕ
line_of name number = name ++ (32 ∷ (decimal number ++ 10 ∷ []))

abbrev pub summary_text : Summary → List ℕ
summary_text summary =
    line_of (codes "nodes") summary.nodes ++ line_of (codes "edges") summary.edges ++ line_of (codes "landmarks") summary.landmarks
    ++ line_of (codes "routes") summary.routes ++ line_of (codes "entries") summary.entries ++ line_of (codes "weight") summary.weight
