use Rattle.std.proofs.Common.{arith, sym, ◌∙◌}
use Rattle.std.proofs.lemmas.Int.{ints}
use Rattle.map_import.proofs.Merges.{merged_is, is_short, is_used, is_closed}
use Rattle.map_import.proofs.used.used_way.Goals as goal

pub returns-then-len-lt2 : goal.returns-then-len-lt2
returns-then-len-lt2 c =
    let count = c.dedup.new.self.ok.0 in
    is_short c.args.way.now _ (merged_is _ _ _ _ c.as_slice.ensures c.in_ok-refs.ensures.items c.dedup.ensures.filtered) (omega arith)

pub returns-in-Some : goal.returns-in-Some
returns-in-Some c =
    let count = c.dedup.new.self.ok.0 in
    is_used c.args.way.now _ _ _ (omega (arith, ints)) (merged_is _ _ _ _ c.as_slice.ensures c.in_ok-refs.ensures.items c.dedup.ensures.filtered)
    (omega arith) (sym c.values_of.ensures.values ∙ c.in-Some.is)

pub returns-in-None : goal.returns-in-None
returns-in-None c =
    let count = c.dedup.new.self.ok.0 in
    is_closed c.args.way.now _ (merged_is _ _ _ _ c.as_slice.ensures c.in_ok-refs.ensures.items c.dedup.ensures.filtered)
    (omega arith) (sym c.values_of.ensures.values ∙ c.in-None.is)
