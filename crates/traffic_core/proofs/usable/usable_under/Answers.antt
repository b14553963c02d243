use Rattle.std.proofs.Common.{sym, ap, ◌∙◌}
use Rattle.weighting.specs.Rules.{Rule}
use Rattle.weighting.specs.Roads.{is_usable}
use Rattle.traffic_core.proofs.Usables.{add_usable, skip_usable}
use Rattle.traffic_core.proofs.usable.usable_under.Goals as goal
use Rattle.traffic_core.proofs.usable.usable_under.Goals.{then-is_usable, else-is_usable}

pub loop-number-preserved : goal.loop-number-preserved
loop-number-preserved c =
    let graph = c.args.graph.now.lists in
    let profile = c.args.profile.now in
    let number = c.loop-number.number in
    let told = c.is_usable.ensures ∙ ap (λ (rule : Rule). is_usable rule graph number) c.new-alone.ensures in
    elim c.if-is_usable.branch [
      | then-is_usable w ↦
          rw w.bits-is
          (add_usable graph profile number c.loop-number.bits w.add.new.self c.loop-number.invariant (sym told ∙ w.if-is_usable.true) w.add.ensures.edges w.add.ensures.added w.add.ensures.others)
      | else-is_usable w ↦ rw w.bits-is (skip_usable graph profile number c.loop-number.bits c.loop-number.invariant (sym told ∙ w.if-is_usable.false))
    ]
