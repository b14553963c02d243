use Rattle.std.proofs.Common.{◌≡◌, ◌+◌, ◌*◌, ◌^◌, ◌≤◌, List, length, take, map}
use Rattle.prep_store.specs.Stores.{Lists, lists_text}
use Rattle.prep_store.specs.Readings.{place, Takes}
use Rattle.prep_store.specs.Steps.{AreRead}
use Rattle.prep_store.proofs.lists.read_lists.Given as goal

-- the lists of the landmarks so far were taken, and are evidence
abbrev pub invariant-lists : goal.invariant-lists
invariant-lists g l =
    let seen = place g.S.Source.left g.S.Source.faults g.S.Source.mark in
    record {
      read : (lists : List Lists) × Takes (seen l.fn.source l.fn.at) (seen l.source l.at) (lists_text lists)
          × AreRead (g.V.RoadView.network l.out) (g.W.RoadView.network l.back) l.grain (take l.place (map (λ node. node.0) l.landmarks)) lists l.table;
      bounded : l.at ≤ l.fn.at + l.place * 2 ^ 37;
      end : l.place-end ≡ length l.landmarks;
    }
