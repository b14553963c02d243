-- What is written of a size: the summary of a text that fits the size's script over the roads of the size's map.
use Rattle.std.specs.Prelude.{◌≡◌, ℕ, List, length, Option}
use Rattle.std.specs.Io.KnownBytes.{Appends}
use Rattle.gh_base.specs.Causes.{AppendsFront}
use Rattle.traffic_core.specs.Lands.{Land, AreRoadsOf}
use Rattle.script_service.specs.Writing.{Fits}
use Rattle.generated_run.specs.Maps.{map_of}
use Rattle.generated_run.specs.Scripts.{profiles, script_of}
use Rattle.generated_run.specs.Summaries.{summary_of, summary_text}
use Rattle.generated_run.specs.declared.summing.Summary.{Summary}

-- the roads of a size, for cars
pub record AreRoadsOfSize (size : ℕ) (land : Land) : Type 0 where
  pub roads : AreRoadsOf (map_of size) land
  pub profiles_are : land.profiles ≡ profiles

-- a text that fits the script of a size, over the size's roads
pub record IsRunOf (size : ℕ) (summary : Summary) : Type 0 where
  pub land : Land
  pub roads_are : AreRoadsOfSize size land
  pub text : List ℕ
  pub fits : Fits land (script_of size (length land.graph.edges)) text
  pub summary_is : summary ≡ summary_of land (script_of size (length land.graph.edges)) text fits

-- where they are known, behind its old bytes the sink has the summary of such a text
abbrev pub Generates : ℕ → Option (List ℕ) → Option (List ℕ) → Type 0
Generates size old new = (summary : Summary) × IsRunOf size summary × Appends old new (summary_text summary)

-- or a front of it
abbrev pub GeneratesFront : ℕ → Option (List ℕ) → Option (List ℕ) → Type 0
GeneratesFront size old new = (summary : Summary) × IsRunOf size summary × AppendsFront old new (summary_text summary)
