-- Lines with their replies, and what an actor was asked and answered before.
use Rattle.std.specs.Prelude.{ℕ, ◌==◌, Bool, true, false, List, [], ◌∷◌, map, filter, length}
use Rattle.std.specs.List.{flat_map}
use Rattle.weighting.specs.declared.profile.Profile.{Profile}
use Rattle.script_text.specs.declared.script.Command.{Command}
use Rattle.script_text.specs.declared.script.Command.TheVariants as command
use Rattle.script_text.specs.declared.script.Line.{Line}
use Rattle.script_text.specs.declared.reply.Reply.{Reply}
use Rattle.script_text.specs.declared.reply.Reply.TheVariants as reply
use Rattle.route_sessions.specs.Sessions.{InForce, first_rule, rule_with}

-- a line with its reply, and the number of entries of the journal that the reply speaks of
pub record Answered : Type 0 where
  pub line : Line
  pub at : ℕ
  pub reply : Reply

abbrev pub lines : List Answered → List Line
lines answered = map (λ (a : Answered). a.line) answered

-- phases, one behind another
abbrev pub joined : List (List Answered) → List Answered
joined phases = flat_map (λ (phase : List Answered). phase) phases

-- what one actor was answered
abbrev pub own_of : ℕ → List Answered → List Answered
own_of actor answered = filter (λ (a : Answered). a.line.actor == actor) answered

-- a reply that tells of an entry of its own
abbrev pub is_accepted : Reply → Bool
is_accepted reply.Lowered = true
is_accepted reply.Restored = true
is_accepted reply.Published = true
is_accepted other = false

-- the entries that replies tell of, counted
abbrev pub accepted : List Answered → ℕ
accepted answered = length (filter (λ (a : Answered). is_accepted a.reply) answered)

-- the rule in force behind a command
abbrev pub rule_behind : List Profile → InForce → Command → InForce
rule_behind profiles rule (command.Model profile text) = rule_with profiles rule profile text
rule_behind profiles rule other = rule

-- behind commands, one after another
abbrev pub rule_from : List Profile → InForce → List Answered → InForce
rule_from profiles rule [] = rule
rule_from profiles rule (a ∷ own) = rule_from profiles (rule_behind profiles rule a.line.command) own

-- the rule in force behind an actor's replies: that of the last model that was taken; before any, the first profile without a statement
unfoldable pub rule_after : List Profile → List Answered → InForce
rule_after profiles own = rule_from profiles first_rule own
