-- A text that fits the script of a size: its lines, in order, and what its replies are together.
use Rattle.std.proofs.Common.{◌≡◌, ℕ, ◌<◌, ◌⊎◌, Bool, false, List, [], ◌∷◌, ◌++◌, length, map, filter, get_or, All, AllPairs, refl, sym, ap, subst, ◌∙◌, inl, inr, arith, zero-add}
use Rattle.std.specs.List.{flat_map, range_with_len}
use Rattle.std.proofs.lemmas.Bool.{cases_Bool, false≢true}
use Rattle.std.proofs.lemmas.List.{map-append}
use Rattle.std.proofs.lemmas.List.Elements.{All-append, All-cons, All-head, All-nil, All-tail}
use Rattle.std.proofs.lemmas.List.FromFn.{get_or-map-range_with_len, length-map-range_with_len}
use Rattle.std.proofs.lemmas.Nat.{mod_below}
use Rattle.traffic_core.specs.Lands.{Land}
use Rattle.script_text.specs.declared.script.Line.{Line}
use Rattle.script_service.specs.Answering.{Answered, joined, lines}
use Rattle.script_service.specs.Fitting.{SeesOwn, by_actor}
use Rattle.script_service.specs.Writing.{Fits}
use Rattle.script_service.proofs.ListsAndPairs.{pairs_joined}
use Rattle.generated_run.specs.Scripts.{lowering_at, phases_of, preparing, publishing, route_at, script_of}
use Rattle.summary_laws.proofs.AnsweredScripts.{IsLineOf, IsPlayed, SeesChanges, asks, changes}

-- the lines of a size, phase by phase and of a phase actor by actor
abbrev pub lowerings : ℕ → ℕ → List Line
lowerings size edges = map (lowering_at size edges) (range_with_len 0 8)

abbrev pub routes : ℕ → List Line
routes size = map (route_at size) (range_with_len 0 16)

abbrev pub before_publishing : ℕ → ℕ → List Line
before_publishing size edges = lowerings size edges ++ preparing ∷ []

abbrev pub phase_lines : ℕ → ℕ → List (List Line)
phase_lines size edges = before_publishing size edges ∷ (publishing ∷ []) ∷ routes size ∷ []

abbrev pub whole : ℕ → ℕ → List Line
whole size edges = flat_map (λ (phase : List Line). phase) (phase_lines size edges)

in_phases : (size edges : ℕ) → map (by_actor 6) (phases_of size edges) ≡ phase_lines size edges
in_phases size edges = refl

pub all_range : (P : Line → Type 0) (f : ℕ → Line) (n : ℕ) → ((k : ℕ) → k < n → P (f k)) → All P (map f (range_with_len 0 n))
all_range P f n each k d h =
    let below : k < n = omega (arith, length-map-range_with_len f 0 n) in
    subst P (sym (get_or-map-range_with_len f 0 n k k d below (zero-add k))) (each k below)

pub all_of_whole : (P : Line → Type 0) (size edges : ℕ) → All P (lowerings size edges) → P preparing → P publishing → All P (routes size) → All P (whole size edges)
all_of_whole P size edges lower prepare publish route =
    All-append P (before_publishing size edges) (publishing ∷ (routes size ++ [])) (All-append P (lowerings size edges) (preparing ∷ []) lower (All-cons P preparing [] prepare (All-nil P)))
    (All-cons P publishing (routes size ++ []) publish (All-append P (routes size) [] route (All-nil P)))

lines_joined : (phases : List (List Answered)) → lines (joined phases) ≡ flat_map (λ (phase : List Line). phase) (map lines phases)
lines_joined [] = refl
lines_joined (phase ∷ phases) = map-append (λ (a : Answered). a.line) phase (joined phases) ∙ ap (λ (l : List Line). lines phase ++ l) (lines_joined phases)

pub unmap : {X Y : Type 0} (P : Y → Type 0) (f : X → Y) (xs : List X) → All P (map f xs) → All (λ (x : X). P (f x)) xs
unmap P f [] all = All-nil (λ x. P (f x))
unmap P f (x ∷ xs) all = All-cons (λ x. P (f x)) x xs (All-head P (f x) (map f xs) all) (unmap P f xs (All-tail P (f x) (map f xs) all))

-- none of these changes roads, or none asks
abbrev IsQuiet : List Line → Type 0
IsQuiet list = All (λ (line : Line). changes line.command ≡ false) list ⊎ All (λ (line : Line). asks line.command ≡ false) list

quiet_pairs : (part : List Answered) → IsQuiet (lines part) → AllPairs SeesChanges part
quiet_pairs part (inl still) i j d below within change ask =
    let no_change = unmap (λ (line : Line). changes line.command ≡ false) (λ (a : Answered). a.line) part still i d (omega arith) in
    absurd (false≢true (sym no_change ∙ change))
quiet_pairs part (inr silent) i j d below within change ask =
    let no_query = unmap (λ (line : Line). asks line.command ≡ false) (λ (a : Answered). a.line) part silent j d within in
    absurd (false≢true (sym no_query ∙ ask))

first_quiet : (size edges : ℕ) → All (λ (line : Line). asks line.command ≡ false) (before_publishing size edges)
first_quiet size edges =
    let P : Line → Type 0 = λ line. asks line.command ≡ false in
    All-append P (lowerings size edges) (preparing ∷ []) (all_range P (lowering_at size edges) 8 (λ k h. refl)) (All-cons P preparing [] refl (All-nil P))

pub routes_quiet : (size : ℕ) → All (λ (line : Line). changes line.command ≡ false) (routes size)
routes_quiet size = all_range (λ (line : Line). changes line.command ≡ false) (route_at size) 16 (λ k h. refl)

-- before the routes none asks
abbrev pub early : ℕ → ℕ → List Line
early size edges = before_publishing size edges ++ publishing ∷ []

pub early_quiet : (size edges : ℕ) → All (λ (line : Line). asks line.command ≡ false) (early size edges)
early_quiet size edges =
    let P : Line → Type 0 = λ line. asks line.command ≡ false in
    All-append P (before_publishing size edges) (publishing ∷ []) (first_quiet size edges) (All-cons P publishing [] refl (All-nil P))

phases_quiet : (size edges : ℕ) → All IsQuiet (phase_lines size edges)
phases_quiet size edges =
    let P : Line → Type 0 = λ line. asks line.command ≡ false in
    All-cons IsQuiet (before_publishing size edges) ((publishing ∷ []) ∷ routes size ∷ []) (inr (first_quiet size edges))
    (All-cons IsQuiet (publishing ∷ []) (routes size ∷ []) (inr (All-cons P publishing [] refl (All-nil P)))
    (All-cons IsQuiet (routes size) [] (inl (routes_quiet size)) (All-nil IsQuiet)))

filter_lines : (test : Line → Bool) (xs : List Answered) → length (filter (λ (a : Answered). test a.line) xs) ≡ length (filter test (lines xs))
filter_lines test [] = refl
filter_lines test (a ∷ xs) = elim (cases_Bool (test a.line)) [
  | inl t ↦ let rest = filter_lines test xs in rw t (omega (arith, rest))
  | inr f ↦ rw f (filter_lines test xs)
]

nine_change : (size edges : ℕ) → length (filter (λ (line : Line). changes line.command) (whole size edges)) ≡ 9
nine_change size edges = refl

whole_lines : (size edges : ℕ) → 0 < edges → All (λ (line : Line). IsLineOf edges line.actor line.command) (whole size edges)
whole_lines size edges some =
    let P : Line → Type 0 = λ line. IsLineOf edges line.actor line.command in
    all_of_whole P size edges (all_range P (lowering_at size edges) 8 (λ k h. (refl, mod_below _ edges some, refl, refl))) (refl, refl, refl) (refl, refl)
    (all_range P (route_at size) 16 (λ k h. (refl, (_, refl), (_, refl))))

-- the replies of a text that fits
pub record Plays (size : ℕ) (land : Land) (text : List ℕ) (fits : Fits land (script_of size (length land.graph.edges)) text) : Type 0 where
  pub played : IsPlayed land fits.journal (joined fits.phases)
  pub lines_are : lines (joined fits.phases) ≡ whole size (length land.graph.edges)

pub plays : (size : ℕ) (land : Land) (text : List ℕ) → 0 < length land.graph.edges → (fits : Fits land (script_of size (length land.graph.edges)) text) → Plays size land text fits
unfolding script_of
plays size land text some fits =
    let edges = length land.graph.edges in
    let begins = fits.begins in
    let order : map lines fits.phases ≡ phase_lines size edges = begins.in_order ∙ in_phases size edges in
    let lines_are : lines (joined fits.phases) ≡ whole size edges = lines_joined fits.phases ∙ ap (λ (p : List (List Line)). flat_map (λ (phase : List Line). phase) p) order in
    let sees = begins.sees in
    let P : Line → Type 0 = λ line. IsLineOf edges line.actor line.command in
    let quiet : All (λ (part : List Answered). IsQuiet (lines part)) fits.phases = unmap IsQuiet lines fits.phases (subst (All IsQuiet) (sym order) (phases_quiet size edges)) in
    record {
      played = record {
        lines_are = unmap P (λ (a : Answered). a.line) (joined fits.phases) (subst (All P) (sym lines_are) (whole_lines size edges some));
        pairs = pairs_joined SeesOwn fits.phases (λ i j d below within k e h m f l same. sees.told i j d below within k e h m f l) sees.seen;
        later = pairs_joined SeesChanges fits.phases (λ i j d below within k e h m f l change ask. (sees.told i j d below within k e h m f l).least)
            (λ i d h. quiet_pairs (get_or fits.phases i d) (quiet i d h));
        within = λ k d h. let low = sees.within k d h in omega (arith, low, begins.journal_is.count);
        right = begins.right;
        count = begins.journal_is.count;
        each = begins.journal_is.each;
        nine = filter_lines (λ (line : Line). changes line.command) (joined fits.phases) ∙ ap (λ (l : List Line). length (filter (λ (line : Line). changes line.command) l)) lines_are ∙ nine_change size edges;
      };
      lines_are = lines_are;
    }
