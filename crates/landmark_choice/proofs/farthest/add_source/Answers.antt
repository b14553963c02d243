use Rattle.std.proofs.Common.{◌≡◌, length, drop, ap, arith}
use Rattle.std.proofs.lemmas.List.{take_at}
use Rattle.landmark_choice.specs.Farthest.{distance_at}
use Rattle.landmark_choice.proofs.Choosing.{near_more}
use Rattle.landmark_choice.proofs.farthest.add_source.Goals as goal

pub returns-clause-near : goal.returns-clause-near
returns-clause-near g c = λ sources before.
    let kept : length c.take_nearer.new.near ≡ length c.args.near.items = omega (arith, c.take_nearer.auto.near, ap length c.deref_mut.ensures.value) in
    let whole = take_at c.take_nearer.new.near (drop (length c.take_nearer.new.near) c.args.near.items) c.args.near.len (omega (arith, c.args.near.ok.0)) in
    rw whole (near_more (g.V.RoadView.network c.args.view.now) sources c.args.node.0 (distance_at c.args.near.items) (distance_at c.in_ok-own.own.items) (distance_at c.take_nearer.new.near) before c.in_ok-own.ensures.near
    (λ v. rw (c.deref_mut.ensures.value, c.deref.ensures.value) at (c.take_nearer.ensures v)))
