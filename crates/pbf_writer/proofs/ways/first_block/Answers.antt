use Rattle.std.proofs.Common.{◌<◌, [], length, take, arith}
use Rattle.pbf_writer.proofs.Ends.{first_end, later_end, too_long, no_more}
use Rattle.pbf_writer.proofs.Grown.{one_way, next_take, was_added, was_refused}
use Rattle.pbf_writer.proofs.ways.first_block.Goals as goal

pub ways-init : goal.ways-init
ways-init c = record {
  block = one_way c.args.ways.now c.index-ways-0.result _ (omega arith) c.index-ways-0.is (c.in_ok-add.ensures [] c.in_ok-start.ensures);
  ends = first_end c.args.ways.now;
  some = omega arith;
  few = omega arith;
}

pub ways-preserved : goal.ways-preserved
ways-preserved c =
    let tried = was_added c.in_ok-added.added (take c.ways.count c.args.ways.now) c.index-ways-count.result c.try_add.new.self c.if-not-added.false (c.in_ok-added.ensures (take c.ways.count c.args.ways.now) c.ways.invariant.block) in
    let inside : c.ways.count < length c.args.ways.now = omega arith in
    let more = rw (next_take c.args.ways.now c.ways.count c.index-ways-count.result inside c.index-ways-count.is) at tried in
    record {
      block = more.0;
      ends = later_end c.args.ways.now c.ways.count c.ways.invariant.ends (omega arith) inside more.1;
      some = omega arith;
      few = omega arith;
    }

pub returns-then-not-added-clause-count : goal.returns-then-not-added-clause-count
returns-then-not-added-clause-count c =
    let tried = was_refused c.in_ok-added.added (take c.ways.count c.args.ways.now) c.index-ways-count.result c.try_add.new.self c.if-not-added.true (c.in_ok-added.ensures (take c.ways.count c.args.ways.now) c.ways.invariant.block) in
    let inside : c.ways.count < length c.args.ways.now = omega arith in
    let long = rw (next_take c.args.ways.now c.ways.count c.index-ways-count.result inside c.index-ways-count.is) at tried.1 in
    too_long c.args.ways.now c.ways.count c.ways.invariant.ends long

pub returns-clause-count : goal.returns-clause-count
returns-clause-count c = no_more c.args.ways.now c.ways.count c.ways.invariant.ends (omega arith) (λ less. omega arith)
