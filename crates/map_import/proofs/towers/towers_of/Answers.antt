use Rattle.std.specs.Ordering.{int_eq}
use Rattle.std.specs.HashMap.{get}
use Rattle.std.specs.List.{list_any}
use Rattle.std.proofs.Common.{List, ℤ, ◌+◌, ◌||◌, Some, true, cond, count_by, ap, ◌∙◌}
use Rattle.std.proofs.lemmas.List.{take_all}
use Rattle.map_import.specs.Roads.{UsedWay, times, is_end_of, first_of, last_of}
use Rattle.map_import.specs.Building.{mark}
use Rattle.map_import.proofs.Marks.{counted_more, ends_more, is_tower_by}
use Rattle.map_import.proofs.towers.towers_of.Goals as goal

pub counts-preserved : goal.counts-preserved
counts-preserved c =
    counted_more c.args.ways.now c.counts.way-index c.way-item.result (get int_eq c.counts.marks) (get int_eq c.count_refs.new.marks)
    c.counts-test.true c.way-item.is c.counts.invariant
    (λ n before id. c.in_ok-count_refs.ensures n before id
    ∙ ap (λ (r : List ℤ). mark (n id + count_by (int_eq id) r)) (c.deref.ensures.value ∙ ap (λ (w : UsedWay). w.refs) c.way.view_is))

pub ends-preserved : goal.ends-preserved
ends-preserved c =
    ends_more c.args.ways.now c.ends.way-index c.way-item-in-ends.result (get int_eq c.ends.marks) (get int_eq c.mark_ends.new.marks) (λ id. mark (times c.args.ways.now id))
    c.ends-test.true c.way-item-in-ends.is c.ends.invariant
    (λ id. c.in_ok-mark_ends.ensures id
    ∙ ap (λ (r : List ℤ). cond (int_eq id (first_of r) || int_eq id (last_of r)) (Some true) (get int_eq c.ends.marks id)) (c.deref-in-ends.ensures.value ∙ ap (λ (w : UsedWay). w.refs) c.way-in-ends.view_is))

pub returns : goal.returns
returns c = λ id.
    is_tower_by c.args.ways.now id (get int_eq c.ends.marks id)
    (c.ends.invariant id ∙ ap (λ (l : List UsedWay). cond (list_any (is_end_of id) l) (Some true) (mark (times c.args.ways.now id))) (take_all c.ends.way-index c.args.ways.now c.ends-test.false))
