-- Preparations of the roads at the limits of a state.
use Rattle.std.proofs.Common.{◌≡◌, ℕ, ◌<◌, List, length, None, sym, subst, ap, ◌∙◌, ◌↔◌}
use Rattle.std.proofs.Math.Path.{fun_ext}
use Rattle.gh_base.specs.declared.edges.DirEdge.{DirEdge}
use Rattle.gh_base.specs.Networks.{Network}
use Rattle.walk_rules.specs.Walks.{AreTurned}
use Rattle.base_graph.specs.Graphs.{Graph}
use Rattle.weighting.specs.declared.profile.Profile.{Profile}
use Rattle.weighting.specs.Rules.{Rule, rule_of}
use Rattle.weighting.specs.Roads.{network_by}
use Rattle.landmark_choice.specs.Parts.{IsBarred}
use Rattle.landmark_prep.specs.Preparations.{Preparation, IsPrepOf}
use Rattle.landmark_prep.specs.declared.making.Made.{Made}
use Rattle.landmark_prep.specs.declared.making.Made.TheVariants.{Prep, NoLandmark}
use Rattle.landmark_prep.specs.Answers.{IfPrep, IsNoLandmark}
use Rattle.landmark_prep.specs.Laws.{LandmarksAreTheCount}
use Rattle.traffic_core.specs.declared.entry.Entry.{Entry}
use Rattle.weighting.specs.Profiles.{profile_at}
use Rattle.traffic_core.specs.Lands.{Land, rule_alone}
use Rattle.traffic_core.specs.History.{limit_in, limit_after, AreLimitsAfter}
use Rattle.traffic_core.specs.Standing.{State, Stands}
use Rattle.traffic_core.specs.Truth.{network_at, IsPrepAt, IsNoPrepAt, IsTrueOver}

-- what was made at a history's limits, with those as its snapshot, is the preparation after it
prep_at : (land : Land) (h : List Entry) (limits : List ℕ) (profile count : ℕ) (prep : Preparation) → AreLimitsAfter land.graph h limits
    → prep.profile ≡ profile → prep.snapshot ≡ limits → IsPrepOf (network_at land profile (limit_in limits)) count prep → IsPrepAt land h profile count prep
prep_at land h limits profile count prep are of_profile snapshot is_prep =
    let P : List ℕ → Type 0 = λ ls. AreLimitsAfter land.graph h ls in
    let Q : List ℕ → Type 0 = λ ls. IsPrepOf (network_at land profile (limit_in ls)) count prep in
    record { of_profile = of_profile; snapshot = subst P (sym snapshot) are; is_prep = subst Q (sym snapshot) is_prep }

-- where every node is barred at a history's limits, there is none after it
no_prep_at : (land : Land) (h : List Entry) (limits : List ℕ) (profile : ℕ) → AreLimitsAfter land.graph h limits
    → ((node : ℕ) → node < length land.graph.places → IsBarred (network_at land profile (limit_in limits)) node) → IsNoPrepAt land h profile
no_prep_at land h limits profile are barred =
    subst (λ (f : DirEdge → ℕ). (node : ℕ) → node < length land.graph.places → IsBarred (network_at land profile f) node) (fun_ext are.each) barred

-- the preparation after a history is true over the roads
pub true_after : (land : Land) (h : List Entry) (profile count : ℕ) (prep : Preparation) → LandmarksAreTheCount → profile < length land.profiles
    → IsPrepAt land h profile count prep → IsTrueOver land prep
true_after land h profile count prep counted there at =
    let P : ℕ → Type 0 = λ n. n < length land.profiles in
    let Q : ℕ → Type 0 = λ n. IsPrepOf (network_at land n (limit_in prep.snapshot)) (length prep.landmarks) prep in
    record {
      there = subst P (sym at.of_profile) there;
      long = at.snapshot.long;
      is_prep = subst Q (sym at.of_profile) (counted (network_at land profile (limit_in prep.snapshot)) count prep at.is_prep);
    }

-- what a view of the ground's graph shows under a profile alone is the roads as the profile weighs them
pub network_is : (land : Land) (profile : ℕ) (own : Profile) (rule : Rule) (seen limits : DirEdge → ℕ) (graph : Graph) (network : Network)
    → network ≡ network_by rule seen graph → rule ≡ rule_of own None → own ≡ profile_at land.profiles profile → seen ≡ limits → graph ≡ land.graph
    → network ≡ network_at land profile limits
network_is land profile own rule seen limits graph network is rule_is own_is limits_are graph_is =
    is ∙ (ap (λ (r : Rule). network_by r seen graph) (rule_is ∙ ap (λ (p : Profile). rule_of p None) own_is)
    ∙ (ap (λ (f : DirEdge → ℕ). network_by (rule_alone (profile_at land.profiles profile)) f graph) limits_are
    ∙ ap (λ (gr : Graph). network_by (rule_alone (profile_at land.profiles profile)) limits gr) graph_is))

-- so what is made of the network is made of those roads
pub made_of : (made : Made) (network same : Network) (count : ℕ) → network ≡ same → IfPrep made (λ prep. IsPrepOf network count prep) → IfPrep made (λ prep. IsPrepOf same count prep)
made_of made network same count is prep = subst (λ (n : Network). IfPrep made (λ prep. IsPrepOf n count prep)) is prep

-- two networks are those of one view and of the same turned round
pub turned_as : (one other out back : Network) → one ≡ out → other ≡ back → AreTurned out back → AreTurned one other
turned_as one other out back is is' turned =
    subst (λ (n : Network). AreTurned n other) (sym is) (subst (λ (n : Network). AreTurned out n) (sym is') turned)

-- where nothing was made of a network, each of its nodes is barred
pub barred_of : (made : Made) (network same : Network) → network ≡ same → IsNoLandmark made → (IsNoLandmark made ↔ ((node : ℕ) → node < network.nodes → IsBarred network node))
    → (node : ℕ) → node < same.nodes → IsBarred same node
barred_of made network same is none when =
    subst (λ (n : Network). (node : ℕ) → node < n.nodes → IsBarred n node) is (when.0 none)

-- the limits of a state are those after each history that it stands for
limits_of : (land : Land) (h : List Entry) (state : State) → Stands state h → state.land ≡ land → AreLimitsAfter land.graph h state.limits
limits_of land h state stands of_land = subst (λ (l : Land). AreLimitsAfter l.graph h state.limits) of_land stands.limits

-- what was made of a state's roads is the preparation after the history
pub made_after : (land ground : Land) (h : List Entry) (state : State) (limits : List ℕ) (profile count : ℕ) (made : Made) → Stands state h → state.land ≡ land → ground ≡ state.land → limits ≡ state.limits
    → IfPrep made (λ prep. IsPrepOf (network_at ground profile (limit_in limits)) count prep) → IfPrep made (λ prep. prep.profile ≡ profile)
    → IfPrep made (λ prep. prep.snapshot ≡ state.limits) → IfPrep made (IsPrepAt land h profile count)
made_after land ground h state limits profile count (Prep prep) stands of_land same taken is of_profile snapshot =
    prep_at land h state.limits profile count prep (limits_of land h state stands of_land) of_profile snapshot
    (subst (λ (l : Land). IsPrepOf (network_at l profile (limit_in state.limits)) count prep) (same ∙ of_land)
    (subst (λ (ls : List ℕ). IsPrepOf (network_at ground profile (limit_in ls)) count prep) taken is))
made_after land ground h state limits profile count NoLandmark stands of_land same taken is of_profile snapshot = tt

-- where every node of a state's roads is barred, there is none after the history
pub barred_after : (land ground : Land) (h : List Entry) (state : State) (limits : List ℕ) (profile : ℕ) → Stands state h → state.land ≡ land → ground ≡ state.land
    → limits ≡ state.limits → ((node : ℕ) → node < length ground.graph.places → IsBarred (network_at ground profile (limit_in limits)) node) → IsNoPrepAt land h profile
barred_after land ground h state limits profile stands of_land same taken barred =
    no_prep_at land h state.limits profile (limits_of land h state stands of_land)
    (subst (λ (l : Land). (node : ℕ) → node < length l.graph.places → IsBarred (network_at l profile (limit_in state.limits)) node) (same ∙ of_land)
    (subst (λ (ls : List ℕ). (node : ℕ) → node < length ground.graph.places → IsBarred (network_at ground profile (limit_in ls)) node) taken barred))
