-- What views of the roads show, and that walks over them are over edges.
use Rattle.std.specs.Prelude.{None}
use Rattle.std.proofs.Common.{◌≡◌, ℕ, List, sym, subst, ap, ◌∙◌}
use Rattle.gh_base.specs.declared.edges.DirEdge.{DirEdge}
use Rattle.gh_base.specs.declared.edges.Hop.{Hop}
use Rattle.gh_base.specs.Networks.{Network}
use Rattle.walk_rules.specs.Walks.{IsWalk}
use Rattle.walk_rules.specs.Turned.{IsTurned}
use Rattle.base_graph.specs.Graphs.{Graph, IsGraph}
use Rattle.weighting.specs.declared.profile.Profile.{Profile}
use Rattle.weighting.specs.declared.weight_view.Side.{Side}
use Rattle.weighting.specs.declared.weight_view.Side.TheVariants.{Out}
use Rattle.weighting.specs.Profiles.{profile_at}
use Rattle.weighting.specs.Rules.{Rule, rule_of}
use Rattle.weighting.specs.Roads.{AreOver, network_of, opening_of}
use Rattle.weighting.specs.RoadFacts.{walk_over}
use Rattle.traffic_core.specs.Lands.{Land, rule_alone}
use Rattle.map_roads.specs.Opening.{opening_network}

pub turned_as : {out home one other : Network} → out ≡ one → home ≡ other → IsTurned one other → IsTurned out home
turned_as {out} {home} {one} {other} same also turned =
    subst (λ (n : Network). IsTurned n home) (sym same) (subst (λ (n : Network). IsTurned one n) (sym also) turned)

-- a view of the first profile's roads at the opening limits
pub shown : (land : Land) (side : Side) {graph : Graph} {rule : Rule} {limits : DirEdge → ℕ} {profile : Profile} {network : Network}
    → graph ≡ land.graph → profile ≡ profile_at land.profiles 0 → rule ≡ rule_of profile None → limits ≡ opening_of graph → network ≡ network_of side rule limits graph
    → network ≡ network_of side (rule_alone (profile_at land.profiles 0)) (opening_of land.graph) land.graph
shown land side {graph} {rule} {limits} {profile} {network} same first alone at is =
    is ∙ ap (λ (r : Rule). network_of side r limits graph) (alone ∙ ap rule_alone first)
    ∙ ap (λ (l : DirEdge → ℕ). network_of side (rule_alone (profile_at land.profiles 0)) l graph) at
    ∙ ap (λ (g : Graph). network_of side (rule_alone (profile_at land.profiles 0)) (opening_of g) g) same

pub over_edges : (land : Land) {graph : Graph} → graph ≡ land.graph → IsGraph graph → (from to : ℕ) {hops list : List Hop} → list ≡ hops → IsWalk (opening_network land) from hops to → AreOver graph list
over_edges land {graph} same facts from to {hops} {list} are walk =
    let here : IsGraph land.graph = subst (λ (g : Graph). IsGraph g) same facts in
    let over : AreOver land.graph hops = walk_over Out (rule_alone (profile_at land.profiles 0)) (opening_of land.graph) land.graph here from to hops walk in
    subst (λ (l : List Hop). AreOver graph l) (sym are) (subst (λ (g : Graph). AreOver g hops) (sym same) over)
