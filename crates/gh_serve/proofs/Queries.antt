-- Nothing but want of memory keeps answers to query lines from their end.
use Rattle.std.proofs.Common.{◌≡◌, refl, ℕ, List, Option, Some, None, Err, inl, inr, arith}
use Rattle.std.specs.Prelude.{IfSome}
use Rattle.gh_base.specs.Causes.{Rose}
use Rattle.gh_base.specs.declared.kinds.Form.{Form}
use Rattle.gh_base.specs.declared.kinds.ScriptKind.{ScriptKind}
use Rattle.script_text.specs.declared.fault.ScriptFault.TheVariants as script_fault
use Rattle.map_roads.specs.Cars.{FewSay}
use Rattle.map_roads.specs.Statuses.{MapSays, IsCalm, IsDoneOrNoMemory}
use Rattle.map_roads.specs.declared.status.Status.{Status}
use Rattle.map_roads.specs.declared.status.Status.TheVariants as status
use Rattle.map_roads.specs.declared.status.Which.TheVariants as which
use Rattle.map_roads.specs.declared.status.Quantity.TheVariants as quantity
use Rattle.map_roads.proofs.OneMap.{no_fault}
use Rattle.map_roads.proofs.Few.{few_or_many}
use Rattle.query_lines.specs.Queries.{queries_of}
use Rattle.query_lines.specs.Lines.{IsQueryText, LinesSay, IsOfQueries}
use Rattle.gh_serve.specs.Answers.{IsAnswerable}

-- lines that are queries have no fault
no_line_fault : (line byte : ℕ) (kind : ScriptKind) (held : List ℕ) → IsQueryText held → queries_of held ≡ Err (script_fault.At line byte kind) → ⊥
no_line_fault line byte kind held is f = let a = is.1.reads_as in cc

answers_to_the_end : (s : Status) (form : Form) (held : List ℕ) (count : ℕ) (bytes : List ℕ) → IsOfQueries s → MapSays s form held → FewSay s form held count → LinesSay s bytes → IsAnswerable form held count bytes →
    (s ≡ status.OpenFault → ⊥) → (s ≡ status.ReadFault which.Map → ⊥) → (s ≡ status.ReadFault which.Script → ⊥) → (s ≡ status.WriteFault → ⊥) → IsDoneOrNoMemory s
answers_to_the_end status.Done form held count bytes of map_says few_say lines_say is no_open no_map no_lines no_write = inl refl
answers_to_the_end status.NoMemory form held count bytes of map_says few_say lines_say is no_open no_map no_lines no_write = inr refl
answers_to_the_end status.OpenFault form held count bytes of map_says few_say lines_say is no_open no_map no_lines no_write = absurd (no_open refl)
answers_to_the_end (status.ReadFault which.Map) form held count bytes of map_says few_say lines_say is no_open no_map no_lines no_write = absurd (no_map refl)
answers_to_the_end (status.ReadFault which.Script) form held count bytes of map_says few_say lines_say is no_open no_map no_lines no_write = absurd (no_lines refl)
answers_to_the_end status.WriteFault form held count bytes of map_says few_say lines_say is no_open no_map no_lines no_write = absurd (no_write refl)
answers_to_the_end (status.BadMap f) form held count bytes of map_says few_say lines_say is no_open no_map no_lines no_write = absurd (no_fault f form held is.map map_says.1)
answers_to_the_end (status.BadScript line byte kind) form held count bytes of map_says few_say lines_say is no_open no_map no_lines no_write =
    absurd (no_line_fault line byte kind bytes is.lines lines_say.1)
answers_to_the_end (status.TooLarge quantity.Map limit) form held count bytes of map_says few_say lines_say is no_open no_map no_lines no_write =
    absurd (let short = is.map.short in omega (arith, map_says.0, map_says.1))
answers_to_the_end (status.TooLarge quantity.Script limit) form held count bytes of map_says few_say lines_say is no_open no_map no_lines no_write =
    absurd (let short = is.lines.1.short in omega (arith, lines_say.0, lines_say.1))
answers_to_the_end (status.TooLarge quantity.Labels limit) form held count bytes of map_says few_say lines_say is no_open no_map no_lines no_write =
    absurd (few_or_many form held count is.few few_say.1)
answers_to_the_end status.Usage form held count bytes of map_says few_say lines_say is no_open no_map no_lines no_write = absurd of
answers_to_the_end (status.TooLarge quantity.Way limit) form held count bytes of map_says few_say lines_say is no_open no_map no_lines no_write = absurd of
answers_to_the_end status.NoLandmark form held count bytes of map_says few_say lines_say is no_open no_map no_lines no_write = absurd of
answers_to_the_end (status.BadPrep fault) form held count bytes of map_says few_say lines_say is no_open no_map no_lines no_write = absurd of

pub answers_complete : (s : Status) (form : Form) (count : ℕ) (holds left : Option (List ℕ)) (b c t u i j k l : ℕ) → IsOfQueries s → IfSome holds (MapSays s form) →
    IfSome holds (λ held. FewSay s form held count) → IfSome left (LinesSay s) →
    (s ≡ status.OpenFault → Rose b c) → (s ≡ status.ReadFault which.Map → Rose t u) → (s ≡ status.ReadFault which.Script → Rose i j) → (s ≡ status.WriteFault → Rose k l) →
    IfSome holds (λ held. IfSome left (λ bytes. IsAnswerable form held count bytes → IsCalm b c → IsCalm t u → IsCalm i j → IsCalm k l → IsDoneOrNoMemory s))
answers_complete s form count None left b c t u i j k l of map_says few_say lines_say bring read_map read_lines write = tt
answers_complete s form count (Some held) None b c t u i j k l of map_says few_say lines_say bring read_map read_lines write = tt
answers_complete s form count (Some held) (Some bytes) b c t u i j k l of map_says few_say lines_say bring read_map read_lines write = λ is no_b no_t no_i no_k.
    answers_to_the_end s form held count bytes of map_says few_say lines_say is (λ e. no_b (bring e)) (λ e. no_t (read_map e)) (λ e. no_i (read_lines e)) (λ e. no_k (write e))
