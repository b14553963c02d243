-- What a reader of a part of a text tells: what the part says, or what is wrong with it.
use Rattle.std.specs.Prelude.{◌≡◌, Result, Ok, Err}
use Rattle.gh_base.specs.declared.faults.PartFault.{PartFault}
use Rattle.gh_base.specs.declared.faults.PartFault.TheVariants as faults

-- a fault is the reading's own, unless memory ran out
abbrev pub Fails : {X K : Type 0} → PartFault K → Result X K → Type 0
Fails faults.NoMemory read = Unit {0}
Fails (faults.Is kind) read = read ≡ Err kind

-- what a function returned is what a reading gives, unless memory ran out
abbrev pub Gives : {X K : Type 0} → Result X (PartFault K) → Result X K → Type 0
Gives (Ok x) read = read ≡ Ok x
Gives (Err fault) read = Fails fault read
