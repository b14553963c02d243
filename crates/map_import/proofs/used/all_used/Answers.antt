use Rattle.std.proofs.Common.{List, Option, ◌∷◌, ◌++◌, [], take, sym, ap, ◌∙◌}
use Rattle.std.specs.List.{cons_option}
use Rattle.std.proofs.lemmas.List.{append-nil}
use Rattle.map_import.specs.Roads.{UsedWay, used_ways}
use Rattle.map_import.proofs.Merges.{used_more}
use Rattle.map_import.proofs.used.all_used.Goals as goal

pub loop-way-preserved-in_default : goal.loop-way-preserved-in_default
loop-way-preserved-in_default c =
    let ways = c.args.ways.now in
    let i = c.loop-way.way-index in
    let so_far = used_ways (take i ways) in
    c.loop-way.invariant ∙ sym (append-nil so_far)
    ∙ ap (λ (o : Option UsedWay). so_far ++ cons_option o []) (sym c.in_default.is ∙ c.in_ok-way.ensures)
    ∙ sym (used_more ways i c.way-item.result c.loop-way-test.true c.way-item.is)

pub loop-way-preserved : goal.loop-way-preserved
loop-way-preserved c =
    let ways = c.args.ways.now in
    let i = c.loop-way.way-index in
    let so_far = used_ways (take i ways) in
    c.in_ok-push.ensures.items ∙ ap (λ (l : List UsedWay). l ++ c.in-Some.way ∷ []) c.loop-way.invariant
    ∙ ap (λ (o : Option UsedWay). so_far ++ cons_option o []) (sym c.in-Some.is ∙ c.in_ok-way.ensures)
    ∙ sym (used_more ways i c.way-item.result c.loop-way-test.true c.way-item.is)
