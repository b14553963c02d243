-- The script that lines make (this project's own form), or its first fault by line and byte.
use Rattle.std.specs.Prelude.{ℕ, ◌+◌, max, List, [], ◌∷◌, ◌++◌, Option, None, Result, Ok, Err, unwrap_or}
use Rattle.gh_base.specs.declared.kinds.ScriptKind.{ScriptKind}
use Rattle.gh_base.specs.Parts.{parts_of}
use Rattle.script_text.specs.declared.fault.ScriptFault.{ScriptFault}
use Rattle.script_text.specs.declared.fault.ScriptFault.TheVariants.{At}
use Rattle.script_text.specs.declared.so_far.SoFar.{SoFar}
use Rattle.script_text.specs.declared.script.ScriptRead.{ScriptRead}
use Rattle.script_text.specs.Commands.{with_default}
use Rattle.script_text.specs.Lines.{all_lines, line_at, with_said}
use Rattle.script_text.specs.Scripts.{changes_in}

-- before all lines
abbrev pub nothing : SoFar
nothing = record { profiles = []; journal = None; actors = []; done = []; phase = [] }

abbrev pub at_line : {A : Type 0} → ℕ → Result A (ℕ × ScriptKind) → Result A ScriptFault
at_line number (Ok x) = Ok x
at_line number (Err fault) = Err (At number fault.0 fault.1)

abbrev pub and_so : {A B : Type 0} → Result A ScriptFault → (A → Result B ScriptFault) → Result B ScriptFault
and_so (Ok x) f = f x
and_so (Err fault) f = Err fault

-- what the lines from this number on make of what stood before, or the first fault
abbrev pub reads_from : ℕ → SoFar → List (List ℕ) → Result SoFar ScriptFault
reads_from number s [] = Ok s
reads_from number s (line ∷ lines) = and_so (at_line number (line_at s line)) (λ said. reads_from (number + 1) (with_said s said) lines)

-- without a line that says it a journal has room for each command that may become an entry
abbrev pub script_from : SoFar → ScriptRead
script_from s = record { profiles = with_default s.profiles; script = record { capacity = unwrap_or s.journal (max (changes_in (all_lines s)) 1); actors = s.actors; phases = s.done ++ s.phase ∷ [] } }

-- the script that these bytes are, or their first fault
unfoldable pub script_of : List ℕ → Result ScriptRead ScriptFault
script_of bytes = and_so (reads_from 1 nothing (parts_of 10 bytes)) (λ s. Ok (script_from s))
