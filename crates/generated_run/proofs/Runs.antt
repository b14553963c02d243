-- A run of a size.
use Rattle.std.proofs.Common.{◌≡◌, ◌∙◌, ◌≢◌, ℕ, ◌-◌, ◌*◌, ◌≤◌, ℤ, List, ◌++◌, length, map, ap, sym, subst, refl}
use Rattle.std.specs.Prelude.{Ok, Err}
use Rattle.std.specs.List.{range_with_len}
use Rattle.std.proofs.lemmas.List.FromFn.{length-map-range_with_len}
use Rattle.gh_base.specs.declared.map.OsmMap.{OsmMap}
use Rattle.base_graph.specs.Graphs.{Graph}
use Rattle.weighting.specs.declared.profile.Profile.{Profile}
use Rattle.script_text.specs.declared.script.Script.{Script}
use Rattle.script_text.specs.Scripts.{IsScript}
use Rattle.script_service.specs.declared.actor.Heard.{Heard}
use Rattle.map_import.specs.declared.faults.ImportFault.{ImportFault}
use Rattle.map_import.specs.declared.faults.ImportFault.TheVariants as fault
use Rattle.map_import.specs.Building.{laid_as}
use Rattle.map_import.specs.Refusals.{Laid, Refuses, roads}
use Rattle.map_import.specs.Roads.{place_in, points_along}
use Rattle.traffic_core.specs.Lands.{Land}
use Rattle.script_text.specs.declared.reply.Reply.{Reply}
use Rattle.script_service.specs.declared.collecting.Answers.{Answers}
use Rattle.script_service.specs.Answering.{joined}
use Rattle.script_service.specs.Collecting.{AreAnswers, replies, replies_heard}
use Rattle.script_service.specs.Writing.{journal_text, lines_text}
use Rattle.generated_run.specs.declared.summing.Summary.{Summary}
use Rattle.generated_run.specs.Generating.{AreRoadsOfSize, IsRunOf}
use Rattle.generated_run.specs.Laws.{AreSameRoads}
use Rattle.generated_run.specs.Maps.{map_of}
use Rattle.generated_run.specs.Draws.{draw}
use Rattle.generated_run.specs.Scripts.{profiles, script_of}
use Rattle.generated_run.proofs.GeneratedScript.{script_is_script}
use Rattle.generated_run.specs.Summaries.{summary_from}
use Rattle.generated_run.proofs.GridRoads.{grid_roads}

-- nothing in the map of a size is refused
pub never_refused : (size : ℕ) (map : OsmMap) (e : ImportFault) → 2 ≤ size → size ≤ 300 → map ≡ map_of size → e ≢ fault.NoMemory → Refuses (roads map) e → ⊥
never_refused size map e two few is other refuses =
    let grid = grid_roads size two few in
    let laid = grid.is in
    let refused : roads (map_of size) ≡ Err e = ap roads (sym is) ∙ refuses other in
    cc

pub only_memory : (size : ℕ) (map : OsmMap) (e : ImportFault) → 2 ≤ size → size ≤ 300 → map ≡ map_of size → Refuses (roads map) e → e ≡ fault.NoMemory
only_memory size map fault.NoMemory two few is refuses = refl
only_memory size map (fault.TwiceNode id) two few is refuses = absurd (never_refused size map (fault.TwiceNode id) two few is (λ same. cc) refuses)
only_memory size map (fault.MissingNode way node) two few is refuses = absurd (never_refused size map (fault.MissingNode way node) two few is (λ same. cc) refuses)
only_memory size map (fault.TooLong way) two few is refuses = absurd (never_refused size map (fault.TooLong way) two few is (λ same. cc) refuses)
only_memory size map fault.TooManyEdges two few is refuses = absurd (never_refused size map fault.TooManyEdges two few is (λ same. cc) refuses)
only_memory size map fault.TooManyNodes two few is refuses = absurd (never_refused size map fault.TooManyNodes two few is (λ same. cc) refuses)

-- and it has so many edges
pub edge_count : (size : ℕ) (map : OsmMap) (to : Laid) → 2 ≤ size → size ≤ 300 → map ≡ map_of size → roads map ≡ Ok to → length to.edges ≡ 2 * size * (size - 1)
edge_count size map to two few is laid =
    let grid = grid_roads size two few in
    let first = grid.is in
    let second : roads (map_of size) ≡ Ok to = ap roads (sym is) ∙ laid in
    let same : to ≡ grid.to = cc in
    ap (λ (l : Laid). length l.edges) same ∙ grid.edges

pub run_of : (size : ℕ) (land : Land) (answers : Answers) (summary : Summary) → AreRoadsOfSize size land → AreAnswers land (script_of size (length land.graph.edges)) answers →
    summary ≡ summary_from (length land.graph.places) (length land.graph.edges) (replies_heard answers.heard.items) answers.entries → IsRunOf size summary
run_of size land answers summary roads_are are is =
    let script = script_of size (length land.graph.edges) in
    record {
      land = land;
      roads_are = roads_are;
      text = lines_text script.actors (joined are.phases) ++ journal_text script.actors land.profiles are.journal;
      fits = record { phases = are.phases; journal = are.journal; begins = are.begins; text_is = refl };
      summary_is = is ∙ ap (λ (l : List Reply). summary_from (length land.graph.places) (length land.graph.edges) l answers.entries) are.replies_are
          ∙ ap (λ n. summary_from (length land.graph.places) (length land.graph.edges) (replies (joined are.phases)) n) are.entries;
    }

one_laid : (size : ℕ) (one other : Land) → AreRoadsOfSize size one → AreRoadsOfSize size other → laid_as one.ids one.graph ≡ laid_as other.ids other.graph
one_laid size one other a b =
    let first = a.roads.laid in
    let second = b.roads.laid in
    let both : Ok (laid_as one.ids one.graph) ≡ Ok (laid_as other.ids other.graph) = sym first ∙ second in
    cc

pub one_ground : (size : ℕ) (one other : Land) → AreRoadsOfSize size one → AreRoadsOfSize size other → AreSameRoads one other
one_ground size one other a b =
    let same = one_laid size one other a b in
    let ids : one.ids ≡ other.ids = ap (λ (l : Laid). l.ids) same in
    record {
      ids = ids;
      edges = ap (λ (l : Laid). l.edges) same;
      places = a.roads.places ∙ ap (points_along (place_in (map_of size).nodes)) ids ∙ sym b.roads.places;
    }

pub edges_of_size : (size : ℕ) (land : Land) → 2 ≤ size → size ≤ 300 → AreRoadsOfSize size land → length land.graph.edges ≡ 2 * size * (size - 1)
edges_of_size size land two few are = edge_count size (map_of size) (laid_as land.ids land.graph) two few refl are.roads.laid

-- the run whose answers these are
pub run_is : (size : ℕ) (graph : Graph) (ids : List ℤ) (ps : List Profile) (land : Land) (script : Script) (answers : Answers) (summary : Summary) (nodes edges : ℕ) (heard : List Heard) →
    land ≡ record { graph = graph; ids = ids; profiles = ps } → ps ≡ profiles → AreRoadsOfSize size (record { graph = graph; ids = ids; profiles = profiles }) →
    nodes ≡ length graph.places → edges ≡ length graph.edges → script ≡ script_of size edges → AreAnswers land script answers → heard ≡ answers.heard.items →
    summary ≡ summary_from nodes edges (replies_heard heard) answers.entries → IsRunOf size summary
run_is size graph ids ps land script answers summary nodes edges heard land_is ps_is roads_are nodes_are edges_are script_is are heard_is is =
    let whole : land ≡ record { graph = graph; ids = ids; profiles = profiles } = land_is ∙ ap (λ (p : List Profile). let l : Land = record { graph = graph; ids = ids; profiles = p } in l) ps_is in
    let here : AreRoadsOfSize size land = subst (AreRoadsOfSize size) (sym whole) roads_are in
    let many : edges ≡ length land.graph.edges = edges_are ∙ ap (λ (l : Land). length l.graph.edges) (sym whole) in
    let towers : nodes ≡ length land.graph.places = nodes_are ∙ ap (λ (l : Land). length l.graph.places) (sym whole) in
    let fits : AreAnswers land (script_of size (length land.graph.edges)) answers = subst (λ (s : Script). AreAnswers land s answers) (script_is ∙ ap (script_of size) many) are in
    run_of size land answers summary here fits
    (is ∙ ap (λ n. summary_from n edges (replies_heard heard) answers.entries) towers
    ∙ ap (λ n. summary_from (length land.graph.places) n (replies_heard heard) answers.entries) many
    ∙ ap (λ (h : List Heard). summary_from (length land.graph.places) (length land.graph.edges) (replies_heard h) answers.entries) heard_is)

pub script_here : (size edges : ℕ) (script : Script) (ps : List Profile) (land : Land) (graph : Graph) (ids : List ℤ) → script ≡ script_of size edges → land ≡ record { graph = graph; ids = ids; profiles = ps } → ps ≡ profiles → IsScript land.profiles script
script_here size edges script ps land graph ids is land_is ps_is =
    let same : land.profiles ≡ profiles = ap (λ (l : Land). l.profiles) land_is ∙ ps_is in
    subst (λ (s : Script). IsScript land.profiles s) (sym is) (subst (λ (p : List Profile). IsScript p (script_of size edges)) (sym same) (script_is_script size edges))

-- all draws of a list
pub all_drawn : (size count : ℕ) (items slice : List ℕ) → items ≡ map (draw size) (range_with_len 0 count) → slice ≡ items → (slice ≡ map (draw size) (range_with_len 0 (length slice))) × (length slice ≡ count)
all_drawn size count items slice are is =
    let long : length slice ≡ count = ap length (is ∙ are) ∙ length-map-range_with_len (draw size) 0 count in
    (is ∙ are ∙ ap (λ n. map (draw size) (range_with_len 0 n)) (sym long), long)
