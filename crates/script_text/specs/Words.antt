-- The words of kinds and parts.
use Rattle.std.specs.Prelude.{ℕ, List, codes}
use Rattle.gh_base.specs.declared.kinds.JsonKind.{JsonKind}
use Rattle.gh_base.specs.declared.kinds.JsonKind.TheVariants as json
use Rattle.gh_base.specs.declared.kinds.ModelKind.{ModelKind}
use Rattle.gh_base.specs.declared.kinds.ModelKind.TheVariants as model
use Rattle.gh_base.specs.declared.kinds.Part.{Part}
use Rattle.gh_base.specs.declared.kinds.Part.TheVariants as part

-- a kind's word is its name
abbrev pub json_word : JsonKind → List ℕ
json_word json.End = codes "End"
json_word json.Byte = codes "Byte"
json_word json.Utf8 = codes "Utf8"
json_word json.Escape = codes "Escape"
json_word json.TooLong = codes "TooLong"
json_word json.TwiceKey = codes "TwiceKey"
json_word json.Depth = codes "Depth"
json_word json.After = codes "After"

abbrev pub model_word : ModelKind → List ℕ
model_word model.NotObject = codes "NotObject"
model_word model.UnknownKey = codes "UnknownKey"
model_word model.NotList = codes "NotList"
model_word model.Statement = codes "Statement"
model_word model.NoIf = codes "NoIf"
model_word model.Condition = codes "Condition"
model_word model.Name = codes "Name"
model_word model.Number = codes "Number"
model_word model.Feature = codes "Feature"
model_word model.TwiceId = codes "TwiceId"
model_word model.Geometry = codes "Geometry"
model_word model.Ring = codes "Ring"
model_word model.Position = codes "Position"
model_word model.TooMany = codes "TooMany"

-- a part's word is its key in a model
abbrev pub part_word : Part → List ℕ
part_word part.Top = codes "top"
part_word part.Areas = codes "areas"
part_word part.Speed = codes "speed"
part_word part.Priority = codes "priority"
part_word part.Influence = codes "distance_influence"
