-- Entries of a list that was replayed.
use Rattle.std.proofs.Common.{◌≡◌, ℕ, ◌<◌, List, [], ◌∷◌, ◌++◌, length, get_or, ap, sym, subst, ◌∙◌, arith, All, Option, None, Some, ◌-◌, ◌+◌, ◌*◌, true, false, if◌then◌else◌}
use Rattle.std.proofs.lemmas.List.Elements.{All-get_or}
use Rattle.std.proofs.lemmas.List.{map-append, length-map, get_or-map}
use Rattle.std.proofs.lemmas.Option.{slice_get_within, get_or_from_slice_get}
use Rattle.std.specs.Prelude.{IfSome, MatchOption}
use Rattle.std.proofs.Math.Path.{fun_ext}
use denote.Ref.{Bor}
use Rattle.base_graph.specs.Graphs.{Graph}
use Rattle.landmark_prep.specs.Preparations.{Preparation}
use Rattle.traffic_core.specs.declared.entry.What.{What}
use Rattle.gh_base.specs.declared.edges.DirEdge.{DirEdge}
use Rattle.traffic_core.specs.History.{IsGuide, limit_in, limit_after, index_of, IsFirstBelow}
use Rattle.weighting.specs.SlowRoads.{AreNowhereAbove}
use Rattle.traffic_core.specs.Seen.{seen}
use Rattle.traffic_core.specs.Truth.{IsTrueOver}
use Rattle.traffic_core.specs.declared.entry.Entry.{Entry}
use Rattle.traffic_core.specs.Lands.{Land}
use Rattle.traffic_core.specs.Standing.{State, Stands, IsOnLand, CanTake}
use Rattle.traffic_share.specs.TrueEntries.{IsTrueEntry, IsTrueChange}
use Rattle.traffic_share.specs.Notes.{shown, Replayed, IsReplay, CanFollow}

pub shown-push : (refs : List (Bor Entry)) (r : Bor Entry) → shown (refs ++ r ∷ []) ≡ shown refs ++ r.now ∷ []
shown-push refs r = map-append (λ (r : Bor Entry). r.now) refs (r ∷ [])

pub length-shown : (refs : List (Bor Entry)) → length (shown refs) ≡ length refs
length-shown refs = length-map refs (λ (r : Bor Entry). r.now)

pub shown-get : (refs : List (Bor Entry)) (r : Bor Entry) (i : ℕ) (e : Entry) → i < length refs → r ≡ get_or refs i r → get_or (shown refs) i e ≡ r.now
shown-get refs r i e below at = get_or-map (λ (r : Bor Entry). r.now) refs i r e below ∙ sym (ap (λ (r : Bor Entry). r.now) at)

-- what holds of all entries holds of the one at a place
all_at : (P : Entry → Type 0) (refs : List (Bor Entry)) (r : Bor Entry) (i : ℕ) → All P (shown refs) → i < length (shown refs) → r ≡ get_or refs i r → P r.now
all_at P refs r i all below at =
    let inside : i < length refs = omega (arith, length-shown refs) in
    subst P (shown-get refs r i r.now inside at) (All-get_or P (shown refs) i r.now below all)

pub true_at : (land : Land) (refs : List (Bor Entry)) (state : State) (r : Bor Entry) (i : ℕ) → IsReplay land (shown refs) state → i < length (shown refs) → r ≡ get_or refs i r
    → IsTrueEntry land r.now
true_at land refs state r i replay below at = all_at (IsTrueEntry land) refs r i replay.true_each below at

pub on_land_at : (land : Land) (refs : List (Bor Entry)) (state : State) (r : Bor Entry) (i : ℕ) → IsReplay land (shown refs) state → i < length (shown refs) → r ≡ get_or refs i r
    → IsOnLand land r.now.what
on_land_at land refs state r i replay below at =
    let P : Land → Type 0 = λ l. IsOnLand l r.now.what in
    subst P replay.of_land (all_at (λ (e : Entry). IsOnLand state.land e.what) refs r i replay.stands.on_land below at)

-- what guides queries over the state's roads guides them over these
pub guide_over : (land : Land) (entries same : List Entry) (state : State) (profile : ℕ) (prep : Option Preparation) → IsReplay land entries state → entries ≡ same
    → IsGuide state.land.graph entries profile prep → IsGuide land.graph same profile prep
guide_over land entries same state profile prep replay is guide =
    let P : Land → Type 0 = λ l. IsGuide l.graph entries profile prep in
    let Q : List Entry → Type 0 = λ es. IsGuide land.graph es profile prep in
    subst Q is (subst P replay.of_land guide)

-- it is true over them, since each publication of the list is
pub guide_is_true : (land : Land) (entries : List Entry) (state : State) (profile : ℕ) (prep : Option (Bor Preparation)) → IsReplay land entries state
    → IsGuide state.land.graph entries profile (seen prep) → IfSome prep (λ p. IsTrueOver land p.now)
guide_is_true land entries state profile None replay guide = tt
guide_is_true land entries state profile (Some prep) replay guide =
    let effect = guide.1.effect in
    let below = slice_get_within entries (guide.0 - 1) effect.entry effect.entry_is in
    let P : Entry → Type 0 = λ e. IsTrueEntry land e in
    let Q : What → Type 0 = λ w. IsTrueChange land w in
    let here = subst P (get_or_from_slice_get entries (guide.0 - 1) effect.entry effect.entry effect.entry_is) (All-get_or P entries (guide.0 - 1) effect.entry below replay.true_each) in
    subst Q effect.publishes.what here

-- an entry that can follow the list can be taken by the state, and the other way round
pub can_take : (land : Land) (replay : Replayed) (entry : Entry) → IsReplay land replay.entries replay.state → CanFollow land replay entry → CanTake replay.state entry
can_take land replay entry is can =
    let P : Land → Type 0 = λ l. IsOnLand l entry.what in
    record { room = omega (arith, is.stands.len, can.room); on_land = subst P (sym is.of_land) can.on_land }

pub can_follow : (land : Land) (replay : Replayed) (entry : Entry) → IsReplay land replay.entries replay.state → CanTake replay.state entry → CanFollow land replay entry
can_follow land replay entry is can =
    let P : Land → Type 0 = λ l. IsOnLand l entry.what in
    record { room = omega (arith, is.stands.len, can.room); on_land = subst P is.of_land can.on_land }

-- what the state's limits say of a directed edge
pub limit_is : (land : Land) (entries : List Entry) (state : State) (by : DirEdge) (limit : ℕ) → Stands state entries → state.land ≡ land
    → limit ≡ limit_in state.limits by → limit ≡ limit_after land.graph entries by
limit_is land entries state by limit stands of_land is =
    let P : Land → Type 0 = λ l. limit ≡ limit_after l.graph entries by in
    subst P of_land (is ∙ stands.limits.each by)

-- what the state says of a snapshot
pub first_over : (land : Land) (entries : List Entry) (state : State) (snapshot : List ℕ) (found : Option DirEdge) → Stands state entries → state.land ≡ land
    → MatchOption found (AreNowhereAbove state.land.graph (limit_in state.limits) (limit_in snapshot)) (IsFirstBelow state.land.graph (limit_in state.limits) snapshot)
    → MatchOption found (AreNowhereAbove land.graph (limit_after land.graph entries) (limit_in snapshot)) (IsFirstBelow land.graph (limit_after land.graph entries) snapshot)
first_over land entries state snapshot found stands of_land says =
    let P : (DirEdge → ℕ) → Type 0 = λ limits. MatchOption found (AreNowhereAbove state.land.graph limits (limit_in snapshot)) (IsFirstBelow state.land.graph limits snapshot) in
    let Q : Land → Type 0 = λ l. MatchOption found (AreNowhereAbove l.graph (limit_after l.graph entries) (limit_in snapshot)) (IsFirstBelow l.graph (limit_after l.graph entries) snapshot) in
    subst Q of_land (subst P (fun_ext stands.limits.each) says)

-- a directed edge has its place in a list of limits
pub index_within : (limits : List ℕ) (graph : Graph) (by : DirEdge) → length limits ≡ 2 * length graph.edges → by.edge.0 < length graph.edges → index_of by < length limits
index_within limits graph by long there =
    let low = elim by.reverse as (λ side. 2 * by.edge.0 + (if side then 1 else 0) < 2 * by.edge.0 + 2) [ true ↦ omega arith | false ↦ omega arith ] in
    omega (arith, long, there, low)
