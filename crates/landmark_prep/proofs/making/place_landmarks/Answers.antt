use Rattle.std.proofs.Common.{sym}
use Rattle.std.proofs.lemmas.Bool.{false≢true}
use Rattle.landmark_prep.proofs.Prepared.{open_of, open_not_barred}
use Rattle.landmark_prep.proofs.making.place_landmarks.Goals as goal

pub returns-clause-none : goal.returns-clause-none
returns-clause-none g c =
    let network = g.V.RoadView.network c.args.out.now in
    (λ no. absurd (false≢true (sym no)), λ barred. absurd (open_not_barred network (open_of network c.in_ok-start.field-0 c.in-Some.start c.in_ok-start.ensures.some c.in-Some.is) barred))
