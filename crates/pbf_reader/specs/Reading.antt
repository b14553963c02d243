-- What a reading answers, by the bytes that were read.
use Rattle.std.specs.Prelude.{◌≡◌, ◌<◌, ◌≤◌, List, ℕ, length, Result, Ok, Err}
use Rattle.gh_base.specs.declared.kinds.PbfKind.{PbfKind}
use Rattle.gh_base.specs.declared.map.OsmMap.{OsmMap}
use Rattle.pbf_wire.specs.Files.{reads}
use Rattle.pbf_reader.specs.declared.fault.PbfFault.{PbfFault}
use Rattle.pbf_reader.specs.declared.fault.PbfFault.TheVariants.{At, ReadFault, TooLong, NoMemory}

-- a fault is the first of a reading, unless memory ran out
abbrev pub Fails : {X : Type 0} → PbfFault → Result X (ℕ × PbfKind) → Type 0
Fails (At byte kind) read = read ≡ Err (byte, kind)
Fails ReadFault read = ⊥
Fails TooLong read = ⊥
Fails NoMemory read = Unit {0}

-- what a function returned is what a reading gives, unless memory ran out
abbrev pub Gives : {X : Type 0} → Result X PbfFault → Result X (ℕ × PbfKind) → Type 0
Gives (Ok x) read = read ≡ Ok x
Gives (Err fault) read = Fails fault read

-- a map or a fault is that of the bytes, which are not too many; too many they are only where that is answered
abbrev pub Answers : ℕ → Result OsmMap PbfFault → List ℕ → Type 0
Answers limit (Ok m) held = (length held ≤ limit) × (reads held ≡ Ok m)
Answers limit (Err (At byte kind)) held = (length held ≤ limit) × (reads held ≡ Err (byte, kind))
Answers limit (Err ReadFault) held = Unit {0}
Answers limit (Err TooLong) held = limit < length held
Answers limit (Err NoMemory) held = Unit {0}
