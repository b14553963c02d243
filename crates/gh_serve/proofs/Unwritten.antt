-- A run of a size ends with none of the statuses that say by themselves that nothing is written.
use Rattle.map_roads.specs.Statuses.{IsOfRun, IsUnwritten}
use Rattle.map_roads.specs.declared.status.Status.{Status}
use Rattle.map_roads.specs.declared.status.Status.TheVariants as status

pub never_unwritten : (s : Status) → IsOfRun s → IsUnwritten s → ⊥
never_unwritten status.Done of unwritten = unwritten
never_unwritten status.NoMemory of unwritten = unwritten
never_unwritten status.WriteFault of unwritten = unwritten
never_unwritten status.Usage of unwritten = of
never_unwritten status.OpenFault of unwritten = of
never_unwritten (status.ReadFault what) of unwritten = of
never_unwritten (status.BadMap fault) of unwritten = of
never_unwritten (status.BadScript line byte kind) of unwritten = of
never_unwritten (status.TooLarge what limit) of unwritten = of
never_unwritten status.NoLandmark of unwritten = of
never_unwritten (status.BadPrep fault) of unwritten = of
