-- The turn restrictions of a map's bytes.
use Rattle.std.specs.Prelude.{ℕ, List}
use Rattle.gh_base.specs.declared.kinds.Form.{Form}
use Rattle.gh_base.specs.declared.kinds.Form.TheVariants as forms
use Rattle.turn_graph.specs.declared.turn.Turn.{Turn}
use Rattle.turn_texts.specs.PlainRelations.{plain_turns}
use Rattle.turn_pbf.specs.PbfTurns.{pbf_turns}

-- the restrictions of bytes in a form, in their order
abbrev pub turns_in : Form → List ℕ → List Turn
turns_in forms.Plain held = plain_turns held
turns_in forms.Pbf held = pbf_turns held
