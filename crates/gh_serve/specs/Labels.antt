-- How many labels of landmarks a script asks for.
use Rattle.std.specs.Prelude.{ℕ, ◌+◌, ◌*◌, List, [], ◌∷◌}
use Rattle.script_text.specs.declared.script.Command.{Command}
use Rattle.script_text.specs.declared.script.Command.TheVariants as command
use Rattle.script_text.specs.declared.script.Line.{Line}
use Rattle.script_text.specs.declared.script.Script.{Script}

-- a preparation asks for one of each landmark at each tower and edge, of which there are so many together
abbrev pub labels_of : ℕ → Command → ℕ
labels_of size (command.Prepare profile count) = count * size
labels_of size other = 0

-- the labels that lines ask for, added up
abbrev pub labels_in : ℕ → List Line → ℕ
labels_in size [] = 0
labels_in size (line ∷ lines) = labels_of size line.command + labels_in size lines

-- phase by phase
abbrev pub labels_in_phases : ℕ → List (List Line) → ℕ
labels_in_phases size [] = 0
labels_in_phases size (phase ∷ phases) = labels_in size phase + labels_in_phases size phases

-- those that all lines of a script ask for
abbrev pub labels_asked : ℕ → Script → ℕ
labels_asked size script = labels_in_phases size script.phases
