use Rattle.std.proofs.Common.{◌≤◌, ◌-◌, take}
use Rattle.pbf_writer.specs.Growing.{IsBlockOf}
use Rattle.pbf_writer.proofs.Ends.{EndsFrom}
use Rattle.pbf_writer.proofs.ways.first_block.Given as goal

-- the block so far, which doesn't end before
abbrev pub invariant-ways : goal.invariant-ways
invariant-ways l = record {
  block : IsBlockOf (take l.count l.ways) l.block;
  ends : EndsFrom l.ways l.count;
  some : 1 ≤ l.count;
  few : l.count ≤ l.most;
}

abbrev pub decreases-ways : goal.decreases-ways
decreases-ways l = l.most - l.count
