use Rattle.std.proofs.Common.{sym, subst}
use Rattle.landmark_prep.specs.declared.making.Made.{Made}
use Rattle.landmark_prep.specs.Answers.{IsNoLandmark}
use Rattle.traffic_core.specs.Lands.{Land}
use Rattle.traffic_core.specs.Truth.{IsNoPrepAt}
use Rattle.traffic_share.proofs.seat.Seat.prepare.Goals as goal

pub returns-in-NoLandmark : goal.returns-in-NoLandmark
returns-in-NoLandmark g c =
    subst (λ (land : Land). IsNoPrepAt land c.args.self.now.entries c.args.profile) c.state.ensures.land
    (c.in_ok-prep.ensures.none c.args.self.now.entries c.state.ensures.stands (subst (λ (m : Made). IsNoLandmark m) (sym c.in-NoLandmark.is) tt))
