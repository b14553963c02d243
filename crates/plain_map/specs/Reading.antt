-- What a reading of a source answers, by the bytes that the source held.
use Rattle.std.specs.Prelude.{◌≡◌, ◌<◌, ◌≤◌, List, ℕ, length, Result, Ok, Err}
use Rattle.gh_base.specs.declared.map.OsmMap.{OsmMap}
use Rattle.plain_map.specs.declared.fault.PlainFault.{PlainFault}
use Rattle.plain_map.specs.declared.fault.PlainFault.TheVariants.{At, ReadFault, TooLong, NoMemory}
use Rattle.plain_map.specs.Lines.{reads}

-- what a function returned is what a reading gives, unless memory ran out
abbrev pub Parses : Result OsmMap PlainFault → Result OsmMap PlainFault → Type 0
Parses (Ok m) read = read ≡ Ok m
Parses (Err (At line byte kind)) read = read ≡ Err (At line byte kind)
Parses (Err ReadFault) read = ⊥
Parses (Err TooLong) read = ⊥
Parses (Err NoMemory) read = Unit {0}

-- a map or a fault is that of the bytes, which are not too many; too many they are only where that is answered
abbrev pub Answers : ℕ → Result OsmMap PlainFault → List ℕ → Type 0
Answers limit (Ok m) held = (length held ≤ limit) × (reads held ≡ Ok m)
Answers limit (Err (At line byte kind)) held = (length held ≤ limit) × (reads held ≡ Err (At line byte kind))
Answers limit (Err ReadFault) held = Unit {0}
Answers limit (Err TooLong) held = limit < length held
Answers limit (Err NoMemory) held = Unit {0}
