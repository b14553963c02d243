use Rattle.std.proofs.Common.{◌≤◌, length, take, map}
use Rattle.prep_store.specs.Stores.{words}
use Rattle.prep_store.specs.Readings.{place, Takes}
use Rattle.prep_store.proofs.placing.check_landmarks.Given as goal

-- the landmarks so far were taken, and are right
abbrev pub invariant-landmarks : goal.invariant-landmarks
invariant-landmarks g l =
    let seen = place g.S.Source.left g.S.Source.faults g.S.Source.mark in
    record {
      taken : Takes (seen l.fn.source l.fn.at) (seen l.source l.at) (words (take l.place (map (λ node. node.0) l.right)));
      within : l.place ≤ length l.right;
    }
