-- What a line says behind those before it.
use Rattle.std.specs.Prelude.{◌≡◌, ℕ, ◌+◌, Bool, true, false, ◌||◌, List, [], ◌∷◌, ◌++◌, length, Option, Some, None, Result, Ok, Err, ◌==◌, nat_lt, codes, if◌then◌else◌}
use Rattle.std.specs.Str.{bytes_eq}
use Rattle.std.specs.Str.Lossy.{utf8_valid_len}
use Rattle.gh_base.specs.declared.kinds.ScriptKind.{ScriptKind}
use Rattle.gh_base.specs.declared.kinds.ScriptKind.TheVariants as kind
use Rattle.gh_base.specs.Parts.{parts_of}
use Rattle.weighting.specs.declared.profile.Profile.{Profile}
use Rattle.script_text.specs.declared.fault.LineFault.{LineFault}
use Rattle.script_text.specs.declared.fault.LineFault.TheVariants as line_faults
use Rattle.script_text.specs.declared.line.Lead.{Lead}
use Rattle.script_text.specs.declared.line.Lead.TheVariants as lead
use Rattle.script_text.specs.declared.line.Said.{Said}
use Rattle.script_text.specs.declared.line.Said.TheVariants as said
use Rattle.script_text.specs.declared.so_far.SoFar.{SoFar}
use Rattle.script_text.specs.declared.script.Command.{Command}
use Rattle.script_text.specs.declared.script.Line.{Line}
use Rattle.script_text.specs.Commands.{with_default, command_of}
use Rattle.script_text.specs.Headers.{actor_in, profile_line, journal_line, actor_line}
use Rattle.script_text.specs.LineReading.{◌>>=◌, ◌>>◌, Reader, Outcome, pure, fault, next, last}
use Rattle.script_text.specs.Names.{is_name}
use Rattle.script_text.specs.Scripts.{lines_of, turns_of}

-- the commands so far
abbrev pub all_lines : SoFar → List Line
all_lines s = lines_of s.done ++ s.phase

abbrev pub is_some : {X : Type 0} → List X → Bool
is_some [] = false
is_some (x ∷ xs) = true

-- a command stood, or a `sync`
abbrev pub has_begun : SoFar → Bool
has_begun s = is_some s.done || is_some s.phase

-- a header line comes before all commands
abbrev pub in_header : SoFar → Result (Unit {0}) (ℕ × ScriptKind)
in_header s = if has_begun s then Err (0, kind.Late) else Ok tt

-- one more fits
abbrev pub room_for : ℕ → ℕ → Result (Unit {0}) (ℕ × ScriptKind)
room_for most count = if nat_lt count most then Ok tt else Err (0, kind.TooMany)

-- one more header line fits: no command stood before, and there are not as many as may be
unfoldable pub header_room : SoFar → ℕ → ℕ → Result (Unit {0}) (ℕ × ScriptKind)
header_room s most count = if has_begun s then Err (0, kind.Late) else room_for most count

-- what has to be so before a word is read
abbrev pub given : Result (Unit {0}) (ℕ × ScriptKind) → Reader (Unit {0})
given (Ok is) = pure is
given (Err e) = λ r. Err e

-- what the first word of a line begins
abbrev pub lead_of : List ℕ → Lead
lead_of word =
    if bytes_eq word (codes "profile") then lead.Profile
    else if bytes_eq word (codes "journal") then lead.Journal
    else if bytes_eq word (codes "actor") then lead.Actor
    else if bytes_eq word (codes "sync") then lead.Sync
    else lead.Name

unfoldable pub profile_said : SoFar → Reader Said
profile_said s = do
  given (header_room s 8 (length s.profiles))
  p ← profile_line s.profiles
  pure (said.Profile p)

unfoldable pub journal_said : SoFar → Reader Said
journal_said s = do
  given (in_header s)
  n ← journal_line s.journal
  pure (said.Journal n)

unfoldable pub actor_said : SoFar → Reader Said
actor_said s = do
  given (header_room s 16 (length s.actors))
  a ← actor_line s.actors
  pure (said.Actor a)

-- a name that is no actor's, or no name
abbrev pub stranger : List ℕ → ScriptKind
stranger word = if is_name word then kind.NoActor else kind.Word

abbrev pub command_by : SoFar → List ℕ → Option ℕ → Reader Said
command_by s word None = fault 0 (stranger word)
command_by s word (Some actor) = do
  given (room_for 65536 (length (all_lines s)))
  c ← command_of (with_default s.profiles)
  pure (said.Command actor c)

-- a command, behind the name of its actor
unfoldable pub command_said : SoFar → List ℕ → Reader Said
command_said s word = command_by s word (actor_in s.actors word)

abbrev pub sync_said : Reader Said
sync_said = last >>= (λ _. pure said.Sync)

abbrev pub said_by : SoFar → List ℕ → Lead → Reader Said
said_by s word lead.Profile = profile_said s
said_by s word lead.Journal = journal_said s
said_by s word lead.Actor = actor_said s
said_by s word lead.Sync = sync_said
said_by s word lead.Name = command_said s word

-- the first word, and what it begins
unfoldable pub said_in : SoFar → Reader Said
said_in s = next >>= (λ p. said_by s p.1 (lead_of p.1))

-- empty, or begun by #
abbrev pub is_passed : List ℕ → Bool
is_passed [] = true
is_passed (b ∷ bytes) = b == 35

abbrev pub value_of : {A : Type 0} → Outcome A → Result A (ℕ × ScriptKind)
value_of (Ok p) = Ok p.0
value_of (Err e) = Err e

-- what a line says, or its first fault
unfoldable pub line_at : SoFar → List ℕ → Result Said (ℕ × ScriptKind)
line_at s line =
    if is_passed line then Ok said.Nothing
    else if utf8_valid_len line == length line then value_of (said_in s (0, parts_of 32 line))
    else Err (utf8_valid_len line, kind.Utf8)

-- the script with what a line says
abbrev pub with_said : SoFar → Said → SoFar
with_said s said.Nothing = s
with_said s (said.Profile p) = record { profiles = s.profiles ++ p ∷ []; journal = s.journal; actors = s.actors; done = s.done; phase = s.phase }
with_said s (said.Journal n) = record { profiles = s.profiles; journal = Some n; actors = s.actors; done = s.done; phase = s.phase }
with_said s (said.Actor a) = record { profiles = s.profiles; journal = s.journal; actors = s.actors ++ a ∷ []; done = s.done; phase = s.phase }
with_said s said.Sync = record { profiles = s.profiles; journal = s.journal; actors = s.actors; done = s.done ++ s.phase ∷ []; phase = [] }
with_said s (said.Command a c) = record { profiles = s.profiles; journal = s.journal; actors = s.actors; done = s.done; phase = s.phase ++ record { actor = a; number = turns_of a (all_lines s) + 1; command = c } ∷ [] }

-- what a function returned is what a reading gives, unless memory ran out
abbrev pub FailsAt : {X : Type 0} → LineFault → Result X (ℕ × ScriptKind) → Type 0
FailsAt line_faults.NoMemory read = Unit {0}
FailsAt (line_faults.At byte kind) read = read ≡ Err (byte, kind)

abbrev pub GivesAt : {X : Type 0} → Result X LineFault → Result X (ℕ × ScriptKind) → Type 0
GivesAt (Ok x) read = read ≡ Ok x
GivesAt (Err fault) read = FailsAt fault read
