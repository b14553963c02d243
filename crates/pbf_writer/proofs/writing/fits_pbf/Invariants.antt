use Rattle.std.proofs.Common.{◌≡◌, ℕ, ◌<◌, true, get_or}
use Rattle.gh_base.specs.declared.map.OsmWay.{OsmWay}
use Rattle.pbf_wire.specs.Writing.{fits}
use Rattle.pbf_writer.proofs.writing.fits_pbf.Given as goal

-- each way before fits
abbrev pub invariant-loop-way : goal.invariant-loop-way
invariant-loop-way l = (k : ℕ) (d : OsmWay) → k < l.way-index → fits (get_or l.way-items k d) ≡ true
