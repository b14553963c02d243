-- What answering query lines over a map that was read says of it, where its bytes are told.
use Rattle.std.proofs.Common.{ℕ, List, Option, Some, None}
use Rattle.std.specs.Prelude.{IfSome}
use Rattle.gh_base.specs.declared.kinds.Form.{Form}
use Rattle.gh_base.specs.declared.kinds.ScriptKind.{ScriptKind}
use Rattle.map_roads.specs.declared.status.Status.{Status}
use Rattle.map_roads.specs.declared.status.Status.TheVariants as status
use Rattle.map_roads.specs.declared.status.Which.TheVariants as which
use Rattle.map_roads.specs.declared.status.Quantity.TheVariants as quantity
use Rattle.map_roads.specs.Statuses.{IsMap, MapSays}
use Rattle.map_roads.specs.Cars.{AreFewOfPrep, FewSay}
use Rattle.map_roads.specs.Written.{Writes, WritesFront}
use Rattle.query_lines.specs.Lines.{IsOfAnswering}

-- a fact of each status of answering
of_answering : (Stands : Status → Type 0) → Stands status.NoMemory → Stands status.Done → Stands status.WriteFault → Stands (status.ReadFault which.Script)
    → ((line byte : ℕ) (kind : ScriptKind) → Stands (status.BadScript line byte kind)) → ((limit : ℕ) → Stands (status.TooLarge quantity.Script limit))
    → (s : Status) → IsOfAnswering s → Stands s
of_answering Stands none done write read bad large status.NoMemory is = none
of_answering Stands none done write read bad large status.Done is = done
of_answering Stands none done write read bad large status.WriteFault is = write
of_answering Stands none done write read bad large (status.ReadFault which.Script) is = read
of_answering Stands none done write read bad large (status.ReadFault which.Map) is = absurd is
of_answering Stands none done write read bad large (status.BadScript line byte kind) is = bad line byte kind
of_answering Stands none done write read bad large (status.TooLarge quantity.Script limit) is = large limit
of_answering Stands none done write read bad large (status.TooLarge quantity.Map limit) is = absurd is
of_answering Stands none done write read bad large (status.TooLarge quantity.Labels limit) is = absurd is
of_answering Stands none done write read bad large (status.TooLarge quantity.Way limit) is = absurd is
of_answering Stands none done write read bad large status.Usage is = absurd is
of_answering Stands none done write read bad large status.OpenFault is = absurd is
of_answering Stands none done write read bad large (status.BadMap fault) is = absurd is
of_answering Stands none done write read bad large status.NoLandmark is = absurd is
of_answering Stands none done write read bad large (status.BadPrep fault) is = absurd is

-- the map is one, and its labels are few, as each of these says
pub map_said : (form : Form) (holds : Option (List ℕ)) → IfSome holds (IsMap form) → (s : Status) → IsOfAnswering s → IfSome holds (MapSays s form)
map_said form None is s of = tt
map_said form (Some held) is s of = of_answering (λ t. MapSays t form held) tt is is is (λ line byte kind. is) (λ limit. is) s of

pub labels_said : (form : Form) (count : ℕ) (holds : Option (List ℕ)) → IfSome holds (λ held. AreFewOfPrep form held count) → (s : Status) → IsOfAnswering s → IfSome holds (λ held. FewSay s form held count)
labels_said form count None few s of = tt
labels_said form count (Some held) few s of = of_answering (λ t. FewSay t form held count) tt few few few (λ line byte kind. few) (λ limit. few) s of

-- texts that answer the lines over what was read are such texts of the map
module _ (Stands : List ℕ → Type 0) (IsText : List ℕ → List ℕ → Type 0) (IsSo : List ℕ → List ℕ → List ℕ → Type 0)
    (so : (held bytes text : List ℕ) → Stands held → IsText bytes text → IsSo held bytes text) (old new : Option (List ℕ)) where
  pub over_map : (holds left : Option (List ℕ)) → IfSome holds Stands → IfSome left (λ bytes. Writes (IsText bytes) old new) → IfSome holds (λ held. IfSome left (λ bytes. Writes (IsSo held bytes) old new))
  over_map None left read written = tt
  over_map (Some held) None read written = tt
  over_map (Some held) (Some bytes) read written = (written.0, so held bytes written.0 read written.1, written.2)

  pub front_over_map : (holds left : Option (List ℕ)) → IfSome holds Stands → IfSome left (λ bytes. WritesFront (IsText bytes) old new) → IfSome holds (λ held. IfSome left (λ bytes. WritesFront (IsSo held bytes) old new))
  front_over_map None left read written = tt
  front_over_map (Some held) None read written = tt
  front_over_map (Some held) (Some bytes) read written = (written.0, so held bytes written.0 read written.1, written.2)
