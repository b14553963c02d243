-- Two runs of one size have one summary.
use Rattle.std.proofs.Common.{◌≡◌, ℕ, ℤ, ◌+◌, ◌-◌, ◌*◌, ◌<◌, ◌≤◌, Bool, cond, List, [], ◌∷◌, ◌++◌, length, filter, refl, sym, ap, subst, ◌∙◌, inl, inr, arith, append_assoc}
use Rattle.std.specs.List.{sum_by}
use Rattle.std.proofs.lemmas.Bool.{cases_Bool}
use Rattle.std.proofs.lemmas.List.Sums.{sum_by-cons}
use Rattle.std.proofs.lemmas.Nat.{mul-le}
use Rattle.gh_base.specs.declared.edges.DirEdge.{DirEdge}
use Rattle.gh_base.specs.declared.map.Point.{Point}
use Rattle.base_graph.specs.Graphs.{Edge}
use Rattle.weighting.specs.declared.profile.Profile.{Profile}
use Rattle.traffic_core.specs.Lands.{Land}
use Rattle.script_text.specs.declared.reply.Reply.{Reply}
use Rattle.script_text.specs.declared.script.Line.{Line}
use Rattle.script_service.specs.Answering.{Answered, is_accepted, joined, lines}
use Rattle.script_service.specs.Collecting.{replies}
use Rattle.script_service.specs.Writing.{Fits}
use Rattle.generated_run.specs.declared.summing.Summary.{Summary}
use Rattle.generated_run.specs.Generating.{AreRoadsOfSize, IsRunOf}
use Rattle.generated_run.specs.Scripts.{script_of}
use Rattle.generated_run.specs.Summaries.{is_route, landmarks_of, summary_of, weight_of}
use Rattle.generated_run.proofs.Runs.{edges_of_size, one_ground}
use Rattle.summary_laws.specs.Laws.{FourLandmarks, OneSummary, SixteenRoutes}
use Rattle.summary_laws.proofs.Landmarks.{landmarks_in, tells_of_landmarks}
use Rattle.summary_laws.proofs.OpenGrid.{ids_distinct, some_open}
use Rattle.summary_laws.proofs.RepliesOfTwoRuns.{IsPair, pair, sums_alike}
use Rattle.summary_laws.proofs.AnsweredScripts.{asks, mild}
use Rattle.summary_laws.proofs.LinesOfScripts.{plays, whole}
use Rattle.summary_laws.proofs.RoutesOfTwoRuns.{land_around}
use Rattle.summary_laws.proofs.SixteenRoutes.{each_route}

-- a run over roads
record RunOver (size : ℕ) (summary : Summary) (land : Land) : Type 0 where
  roads_are : AreRoadsOfSize size land
  text : List ℕ
  fits : Fits land (script_of size (length land.graph.edges)) text
  summary_is : summary ≡ summary_of land (script_of size (length land.graph.edges)) text fits

over : (size : ℕ) (summary : Summary) (run : IsRunOf size summary) → RunOver size summary run.land
over size summary run = record { roads_are = run.roads_are; text = run.text; fits = run.fits; summary_is = run.summary_is }

abbrev made : List Point → List Edge → List (List DirEdge) → List ℤ → List Profile → Land
made places edges around ids profiles = record { graph = record { places = places; edges = edges; around = around }; ids = ids; profiles = profiles }

same_land : (size : ℕ) (one other : Land) → AreRoadsOfSize size one → AreRoadsOfSize size other → other ≡ land_around one other.graph.around
same_land size one other a b =
    let same = one_ground size one other a b in
    let profiles : other.profiles ≡ one.profiles = b.profiles_are ∙ sym a.profiles_are in
    let around = other.graph.around in
    ap (λ (p : List Point). made p other.graph.edges around other.ids other.profiles) (sym same.places)
    ∙ ap (λ (e : List Edge). made one.graph.places e around other.ids other.profiles) (sym same.edges)
    ∙ ap (λ (i : List ℤ). made one.graph.places one.graph.edges around i other.profiles) (sym same.ids)
    ∙ ap (λ (p : List Profile). made one.graph.places one.graph.edges around one.ids p) profiles

pub some_edge : (size : ℕ) (land : Land) → 2 ≤ size → size ≤ 300 → AreRoadsOfSize size land → 0 < length land.graph.edges
some_edge size land two few are =
    let count = edges_of_size size land two few are in
    let least = mul-le (2 * 2) 1 (2 * size) (size - 1) (omega arith) (omega arith) in
    omega (arith, count, least)

-- the accepted replies, counted
taken_sum : (xs : List Answered) → length (filter (λ (a : Answered). is_accepted a.reply) xs) ≡ sum_by (λ (said : Reply). cond (is_accepted said) 1 0) (replies xs)
taken_sum [] = refl
taken_sum (a ∷ xs) =
    let rest = taken_sum xs in
    let one = sum_by-cons (λ (said : Reply). cond {A = ℕ} (is_accepted said) 1 0) a.reply (replies xs) in
    elim (cases_Bool (is_accepted a.reply)) [
      | inl t ↦
          let here : cond {A = ℕ} (is_accepted a.reply) 1 0 ≡ 1 = ap (λ b. cond {A = ℕ} b 1 0) t in
          let long : length (filter (λ (b : Answered). is_accepted b.reply) (a ∷ xs)) ≡ length (filter (λ (b : Answered). is_accepted b.reply) xs) + 1 = rw t (omega arith) in
          omega (arith, rest, one, here, long)
      | inr f ↦
          let here : cond {A = ℕ} (is_accepted a.reply) 1 0 ≡ 0 = ap (λ b. cond {A = ℕ} b 1 0) f in
          let long : length (filter (λ (b : Answered). is_accepted b.reply) (a ∷ xs)) ≡ length (filter (λ (b : Answered). is_accepted b.reply) xs) = rw f refl in
          omega (arith, rest, one, here, long)
    ]

-- what replies come to, where each comes to what its line does
sum_told : (f : Reply → ℕ) (g : Line → ℕ) (past xs : List Answered) → ((x z : List Answered) (a : Answered) → past ++ xs ≡ x ++ a ∷ z → f a.reply ≡ g a.line) → sum_by f (replies xs) ≡ sum_by g (lines xs)
sum_told f g past [] each = refl
sum_told f g past (a ∷ xs) each =
    let rest = sum_told f g (past ++ a ∷ []) xs (λ x z b is. each x z b (sym (append_assoc past (a ∷ []) xs) ∙ is)) in
    sum_by-cons f a.reply (replies xs) ∙ ap (λ (n : ℕ). n + sum_by f (replies xs)) (each past xs a refl) ∙ ap (λ (n : ℕ). g a.line + n) rest ∙ sym (sum_by-cons g a.line (lines xs))

four_of_whole : (size edges : ℕ) → sum_by (λ (line : Line). landmarks_in line.command) (whole size edges) ≡ 4
four_of_whole size edges = refl

four_over : (size : ℕ) (summary : Summary) → 2 ≤ size → size ≤ 300 → (land : Land) → RunOver size summary land → summary.landmarks ≡ 4
four_over size summary two few land run =
    let some = some_edge size land two few run.roads_are in
    let played = plays size land run.text some run.fits in
    let all = joined run.fits.phases in
    let opens = some_open size land run.fits.journal run.roads_are some (mild land run.fits.journal all played.played) in
    ap (λ (s : Summary). s.landmarks) run.summary_is
    ∙ sum_told landmarks_of (λ (line : Line). landmarks_in line.command) [] all (λ x z a is. tells_of_landmarks size two few land run.roads_are run.fits.journal all played.played opens x z a is)
    ∙ ap (sum_by (λ (line : Line). landmarks_in line.command)) played.lines_are ∙ four_of_whole size (length land.graph.edges)

pub four_landmarks : FourLandmarks
four_landmarks size summary two few run = four_over size summary two few run.land (over size summary run)

sixteen_of_whole : (size edges : ℕ) → sum_by (λ (line : Line). cond {A = ℕ} (asks line.command) 1 0) (whole size edges) ≡ 16
sixteen_of_whole size edges = refl

sixteen_over : (size : ℕ) (summary : Summary) → 2 ≤ size → size ≤ 300 → (land : Land) → RunOver size summary land → summary.routes ≡ 16
sixteen_over size summary two few land run =
    let some = some_edge size land two few run.roads_are in
    let played = plays size land run.text some run.fits in
    let all = joined run.fits.phases in
    ap (λ (s : Summary). s.routes) run.summary_is
    ∙ sum_told (λ (said : Reply). cond {A = ℕ} (is_route said) 1 0) (λ (line : Line). cond {A = ℕ} (asks line.command) 1 0) [] all
    (λ x z a is. ap (λ (t : Bool). cond {A = ℕ} t 1 0) (each_route size two few land run.roads_are run.fits.journal all played.played played.lines_are x z a is))
    ∙ ap (sum_by (λ (line : Line). cond {A = ℕ} (asks line.command) 1 0)) played.lines_are ∙ sixteen_of_whole size (length land.graph.edges)

pub sixteen_routes : SixteenRoutes
sixteen_routes size summary two few run = sixteen_over size summary two few run.land (over size summary run)

-- a summary by its lines
made_summary : (n m e f l k r s c d w v : ℕ) → n ≡ m → e ≡ f → l ≡ k → r ≡ s → c ≡ d → w ≡ v →
    (let one : Summary = record { nodes = n; edges = e; landmarks = l; routes = r; entries = c; weight = w } in
    let other : Summary = record { nodes = m; edges = f; landmarks = k; routes = s; entries = d; weight = v } in one ≡ other)
made_summary n m e f l k r s c d w v a b g h i j = cc

same_over : (size : ℕ) (one other : Summary) → 2 ≤ size → size ≤ 300 → (land : Land) (around : List (List DirEdge)) → RunOver size one land → RunOver size other (land_around land around) → one ≡ other
same_over size one other two few land around first second =
    let some = some_edge size land two few first.roads_are in
    let plays_one = plays size land first.text some first.fits in
    let plays_two = plays size (land_around land around) second.text some second.fits in
    let all = joined first.fits.phases in
    let too = joined second.fits.phases in
    let open_one = some_open size land first.fits.journal first.roads_are some (mild land first.fits.journal all plays_one.played) in
    let open_two = some_open size (land_around land around) second.fits.journal second.roads_are some (mild (land_around land around) second.fits.journal too plays_two.played) in
    let alike : (x z u v : List Answered) (a b : Answered) → all ≡ x ++ a ∷ z → too ≡ u ++ b ∷ v → lines x ≡ lines u → a.line ≡ b.line → IsPair a b =
    pair size land around first.roads_are.roads.graph second.roads_are.roads.graph (ids_distinct size land first.roads_are) first.fits.journal second.fits.journal all too plays_one.played plays_two.played
    plays_one.lines_are plays_two.lines_are open_one open_two in
    let same : lines all ≡ lines too = plays_one.lines_are ∙ sym plays_two.lines_are in
    let took : Reply → ℕ = λ said. cond (is_accepted said) 1 0 in
    let took_same = sums_alike took [] [] all too (λ x z u v a b is also before line. ap (λ (t : Bool). cond {A = ℕ} t 1 0) (alike x z u v a b is also before line).took) refl same in
    let route_same = sums_alike (λ (said : Reply). cond {A = ℕ} (is_route said) 1 0) [] [] all too (λ x z u v a b is also before line. ap (λ (t : Bool). cond {A = ℕ} t 1 0) (alike x z u v a b is also before line).route) refl same in
    let weight_same = sums_alike weight_of [] [] all too (λ x z u v a b is also before line. (alike x z u v a b is also before line).weight) refl same in
    made_summary one.nodes other.nodes one.edges other.edges one.landmarks other.landmarks one.routes other.routes one.entries other.entries one.weight other.weight
    (ap (λ (s : Summary). s.nodes) first.summary_is ∙ sym (ap (λ (s : Summary). s.nodes) second.summary_is))
    (ap (λ (s : Summary). s.edges) first.summary_is ∙ sym (ap (λ (s : Summary). s.edges) second.summary_is))
    (four_over size one two few land first ∙ sym (four_over size other two few (land_around land around) second))
    (ap (λ (s : Summary). s.routes) first.summary_is ∙ route_same ∙ sym (ap (λ (s : Summary). s.routes) second.summary_is))
    (ap (λ (s : Summary). s.entries) first.summary_is ∙ plays_one.played.count ∙ taken_sum all ∙ took_same ∙ sym (taken_sum too) ∙ sym plays_two.played.count ∙ sym (ap (λ (s : Summary). s.entries) second.summary_is))
    (ap (λ (s : Summary). s.weight) first.summary_is ∙ weight_same ∙ sym (ap (λ (s : Summary). s.weight) second.summary_is))

-- a size has one summary
pub one_summary : OneSummary
one_summary size one other two few a b =
    same_over size one other two few a.land b.land.graph.around (over size one a) (subst (RunOver size other) (same_land size a.land b.land a.roads_are b.roads_are) (over size other b))
