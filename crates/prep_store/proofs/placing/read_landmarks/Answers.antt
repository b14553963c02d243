use Rattle.std.specs.Prelude.{slice_get, IsNone}
use Rattle.std.proofs.Common.{◌≡◌, ℕ, Some, List, refl, sym, subst}
use Rattle.gh_base.specs.declared.edges.NodeId.{NodeId}
use Rattle.landmark_prep.specs.Preparations.{IsPlacing}
use Rattle.landmark_prep.proofs.Prepared.{open_not_barred, placing_of}
use Rattle.landmark_prep.proofs.Unique.{one_placing}
use Rattle.prep_store.specs.FirstFaults.{IsRuleAt, FailsInLandmarks}
use Rattle.prep_store.proofs.Telling.{fails_as, handed_on}
use Rattle.prep_store.proofs.Faulting.{rule_as}
use Rattle.prep_store.proofs.Tables.{numbers}
use Rattle.prep_store.proofs.placing.read_landmarks.Goals as goal

pub returns-in_err-check_landmarks-in-Some-clause-fails : goal.returns-in_err-check_landmarks-in-Some-clause-fails
returns-in_err-check_landmarks-in-Some-clause-fails g c =
    let network = g.V.RoadView.network c.args.out.now in
    let count = c.args.count in
    let nodes = c.as_slice.result.now in
    let grain = c.in-Some.placing.grain in
    let placed : IsPlacing network count (numbers nodes) grain =
    subst (λ (ns : List NodeId). IsPlacing network count (numbers ns) grain) (sym c.as_slice.ensures) (placing_of network count c.in_ok-placed.placed c.in-Some.placing c.in_ok-placed.ensures.placing c.in-Some.is) in
    handed_on (FailsInLandmarks network count) c.from_residual-in_err-check_landmarks-in-Some.result c.from_residual-in_err-check_landmarks-in-Some.ensures.1
    (fails_as c.in_err-check_landmarks-in-Some.ensures.fails (λ total rest f. rule_as (λ (place node : ℕ). slice_get (numbers nodes) place ≡ Some node) (IsRuleAt network count)
    (λ place node e. (numbers nodes, grain, placed, e))
    (λ place node r. subst (λ (ns : List ℕ). slice_get ns place ≡ Some node) (one_placing network count r.0 (numbers nodes) r.1 grain r.2 placed).0 r.3) f))

pub returns-in-None-clause-fails : goal.returns-in-None-clause-fails
returns-in-None-clause-fails g c =
    let network = g.V.RoadView.network c.args.out.now in
    let none : IsNone c.in_ok-placed.placed = subst (λ o. IsNone o) (sym c.in-None.is) refl in
    fails_as (c.refuse_landmarks.ensures c.args.count c.requires.some) (λ total rest f. rule_as (λ _ _. ⊥) (IsRuleAt network c.args.count) (λ place node bad. absurd bad)
    (λ place node r. open_not_barred network r.2.some (c.in_ok-placed.ensures.none.0 none)) f)
