use Rattle.std.proofs.Common.{◌≡◌, take}
use Rattle.map_import.specs.Roads.{used_ways}
use Rattle.map_import.proofs.used.all_used.Given as goal

abbrev pub invariant-loop-way : goal.invariant-loop-way
invariant-loop-way l = l.found.items ≡ used_ways (take l.way-index l.ways)
