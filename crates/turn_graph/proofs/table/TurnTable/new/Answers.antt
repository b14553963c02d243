use Rattle.std.specs.Ordering.{int_eq}
use Rattle.std.specs.HashMap.{get}
use Rattle.std.proofs.Common.{◌↔◌, ℤ, ◌<◌, List, filter, Contains, refl, sym, subst, ap, ◌∙◌, arith}
use Rattle.turn_graph.specs.declared.turn.Turn.{Turn}
use Rattle.turn_graph.specs.Restrictions.{Streets, CountsAt}
use Rattle.turn_graph.proofs.Kept.{row_is}
use Rattle.turn_graph.proofs.table.TurnTable.new.Goals as goal

pub returns-clause-kept : goal.returns-clause-kept
returns-clause-kept c =
    let roads = c.args.roads.now in
    let streets : Streets = record { graph = roads.graph.lists; ids = roads.ids; ways = c.args.ways.now } in
    let turns = c.args.turns.now in
    let standing : (id : ℤ) → _ = λ id. c.in_ok-standing.ensures id ∙ ap (λ (ts : List Turn). filter (λ (turn : Turn). int_eq id turn.via) ts) c.as_slice.ensures in
    record {
      ways = refl;
      rows = omega arith;
      each = λ tower turn l.
          let below : tower < c.loop-node.node = omega arith in
          subst (λ (row : List Turn). Contains row turn ↔ (Contains turns turn × CountsAt streets turn tower)) (sym (c.loop-node.invariant.each tower below))
          (row_is streets roads.graph.facts turns (get int_eq c.in_ok-standing.standing) standing tower turn l);
    }
