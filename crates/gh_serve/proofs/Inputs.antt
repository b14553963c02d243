-- What is said of standard input as bytes is said of it as a script.
use Rattle.std.proofs.Common.{ℕ, List, Option, Some, None}
use Rattle.std.specs.Prelude.{IfSome}
use Rattle.map_roads.specs.declared.status.Status.{Status}
use Rattle.map_roads.specs.declared.status.Status.TheVariants as status
use Rattle.map_roads.specs.declared.status.Which.TheVariants as which
use Rattle.map_roads.specs.declared.status.Quantity.TheVariants as quantity
use Rattle.map_roads.specs.Statuses.{IsOfInput, InputSays}
use Rattle.gh_serve.specs.Statuses.{IsOfScript, ScriptSays}

pub of_script : (s : Status) → IsOfInput s → IsOfScript s
of_script status.NoMemory of = tt
of_script (status.ReadFault which.Script) of = tt
of_script (status.TooLarge quantity.Script limit) of = tt
of_script (status.ReadFault which.Map) of = of
of_script (status.TooLarge quantity.Map limit) of = of
of_script (status.TooLarge quantity.Labels limit) of = of
of_script (status.TooLarge quantity.Way limit) of = of
of_script status.Done of = of
of_script status.Usage of = of
of_script status.OpenFault of = of
of_script status.WriteFault of = of
of_script (status.BadMap fault) of = of
of_script (status.BadScript line byte kind) of = tt
of_script status.NoLandmark of = of
of_script (status.BadPrep fault) of = of

says : (s : Status) (held : List ℕ) → IsOfInput s → InputSays s held → ScriptSays s held
says status.NoMemory held of said = tt
says (status.ReadFault which.Script) held of said = tt
says (status.TooLarge quantity.Script limit) held of said = said
says (status.ReadFault which.Map) held of said = absurd of
says (status.TooLarge quantity.Map limit) held of said = absurd of
says (status.TooLarge quantity.Labels limit) held of said = absurd of
says (status.TooLarge quantity.Way limit) held of said = absurd of
says status.Done held of said = absurd of
says status.Usage held of said = absurd of
says status.OpenFault held of said = absurd of
says status.WriteFault held of said = absurd of
says (status.BadMap fault) held of said = absurd of
says (status.BadScript line byte kind) held of said = absurd of
says status.NoLandmark held of said = absurd of
says (status.BadPrep fault) held of said = absurd of

pub script_says : (s : Status) (left : Option (List ℕ)) → IsOfInput s → IfSome left (InputSays s) → IfSome left (ScriptSays s)
script_says s None of said = tt
script_says s (Some held) of said = says s held of said
