-- How the forms in memory move bytes, and at which calls they fail.
use Rattle.std.specs.Prelude.{ℕ, ◌+◌, ◌-◌, ◌^◌, min, List, [], Option, Some, None, ◌==◌, if◌then◌else◌}
use Rattle.std.specs.Str.{bytes_eq}
use Rattle.gh_base.specs.declared.memory.MemSource.{MemSource}
use Rattle.gh_base.specs.declared.memory.MemSink.{MemSink}
use Rattle.gh_base.specs.declared.memory.MemFiles.{MemFiles}
use Rattle.gh_base.specs.declared.sure.SureSource.{SureSource}
use Rattle.gh_base.specs.declared.sure.SureSink.{SureSink}
use Rattle.gh_base.specs.declared.sure.SureFiles.{SureFiles}

-- at most how many bytes a call moves, the numbers of the calls that fail, and how many calls there were
pub record Plan : Type 0 where
  pub step : ℕ
  pub fails : List ℕ
  pub calls : ℕ

-- the number of the next call; it stands still at the end of its type
abbrev pub next_call : Plan → ℕ
next_call plan = min (plan.calls + 1) (2 ^ 64 - 1)

-- the plan after one more call
abbrev pub called : Plan → Plan
called plan = record { step = plan.step; fails = plan.fails; calls = next_call plan }

abbrev pub source_plan : MemSource → Plan
source_plan source = record { step = source.step; fails = source.fails.now; calls = source.calls }

abbrev pub sink_plan : MemSink → Plan
sink_plan sink = record { step = sink.step; fails = sink.fails.now; calls = sink.calls }

-- that of bringing
abbrev pub bring_plan : MemFiles → Plan
bring_plan files = record { step = files.step; fails = files.fails.now; calls = files.calls }

-- that of each source when it is brought
abbrev pub take_plan : MemFiles → Plan
take_plan files = record { step = files.step; fails = files.take_fails.now; calls = 0 }

-- the one name there is
abbrev pub own_name : MemFiles → List ℕ
own_name files = files.name.now

abbrev pub held_by_name : MemFiles → List ℕ → Option (List ℕ)
held_by_name files name = if bytes_eq name files.name.now then Some files.bytes.now else None

-- the own name has the mark 1, all others 0
abbrev pub mark_by_name : MemFiles → List ℕ → ℕ
mark_by_name files name = if bytes_eq name files.name.now then 1 else 0

-- all marks but 1 share their counts
abbrev pub failed_brings_at : MemFiles → ℕ → ℕ
failed_brings_at files mark = if mark == 1 then files.own_brings else files.other_brings

abbrev pub failed_takes_at : MemFiles → ℕ → ℕ
failed_takes_at files mark = if mark == 1 then files.own_takes else files.other_takes

abbrev pub source_step : SureSource → ℕ
source_step source = source.step

abbrev pub sink_step : SureSink → ℕ
sink_step sink = sink.step

abbrev pub files_step : SureFiles → ℕ
files_step files = files.step

abbrev pub surely_held : SureFiles → List ℕ → Option (List ℕ)
surely_held files name = Some (if bytes_eq name files.name.now then files.bytes.now else [])

abbrev pub sure_mark : SureFiles → List ℕ → ℕ
sure_mark files name = if bytes_eq name files.name.now then 1 else 0

-- no call of a sure form fails
abbrev pub sure_faults : SureSource → ℕ
sure_faults source = 0

abbrev pub sure_failed : SureFiles → ℕ → ℕ
sure_failed files mark = 0
