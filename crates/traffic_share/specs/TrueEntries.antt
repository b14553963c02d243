-- Entries that are true over the roads.
use Rattle.traffic_core.specs.declared.entry.Entry.{Entry}
use Rattle.traffic_core.specs.declared.entry.What.{What}
use Rattle.traffic_core.specs.declared.entry.What.TheVariants.{Lower, Restore, Publish}
use Rattle.std.specs.Prelude.{[]}
use Rattle.traffic_core.specs.Lands.{Land}
use Rattle.traffic_core.specs.Truth.{IsTrueOver}

-- roads without a tower: what stands where none were picked
abbrev pub no_land : Land
no_land = record { graph = record { places = []; edges = []; around = [] }; ids = []; profiles = [] }

-- a preparation that it publishes is true over the roads
abbrev pub IsTrueChange : Land → What → Type 0
IsTrueChange land (Lower by speed) = Unit {0}
IsTrueChange land (Restore by speed) = Unit {0}
IsTrueChange land (Publish prep) = IsTrueOver land prep

abbrev pub IsTrueEntry : Land → Entry → Type 0
IsTrueEntry land entry = IsTrueChange land entry.what
