-- The statuses that preparing and checking end with.
use Rattle.prep_store.specs.declared.fault.PrepFault.{PrepFault}
use Rattle.prep_store.specs.declared.fault.PrepFault.TheVariants as prep_fault
use Rattle.map_roads.specs.declared.status.Status.{Status}
use Rattle.map_roads.specs.declared.status.Status.TheVariants as status
use Rattle.map_roads.specs.declared.status.Which.TheVariants as which
use Rattle.map_roads.specs.declared.status.Quantity.TheVariants as quantity
use Rattle.map_roads.specs.Statuses.{IsOfRun, IsOfRoads}

-- those that preparing roads gives, which reads no script
abbrev pub IsOfPrep : Status → Type 0
IsOfPrep (status.TooLarge quantity.Labels limit) = Unit {0}
IsOfPrep status.NoLandmark = Unit {0}
IsOfPrep status = IsOfRoads status

-- those that checking a store gives, which is read in the script's place
abbrev pub IsOfCheck : Status → Type 0
IsOfCheck (status.ReadFault which.Script) = Unit {0}
IsOfCheck (status.BadPrep fault) = Unit {0}
IsOfCheck status = IsOfRoads status

-- those that come of them once the map is read
abbrev pub IsOfPreparing : Status → Type 0
IsOfPreparing status.NoLandmark = Unit {0}
IsOfPreparing status = IsOfRun status

abbrev pub IsOfChecking : Status → Type 0
IsOfChecking (status.ReadFault which.Script) = Unit {0}
IsOfChecking (status.BadPrep fault) = Unit {0}
IsOfChecking status = IsOfRun status

-- those that reading a store gives
abbrev pub IsOfStore : Status → Type 0
IsOfStore status.NoMemory = Unit {0}
IsOfStore (status.ReadFault which.Script) = Unit {0}
IsOfStore (status.BadPrep fault) = Unit {0}
IsOfStore status = ⊥

-- the status that a reading of a store ends with
abbrev pub status_of_store : PrepFault → Status
status_of_store prep_fault.ReadFault = status.ReadFault which.Script
status_of_store prep_fault.NoMemory = status.NoMemory
status_of_store fault = status.BadPrep fault
