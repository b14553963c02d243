-- Bytes are one map, and one that has roads has no fault.
use Rattle.std.proofs.Common.{◌≡◌, ℕ, List}
use Rattle.gh_base.specs.declared.kinds.Form.{Form}
use Rattle.gh_base.specs.declared.kinds.Form.TheVariants as forms
use Rattle.gh_base.specs.declared.map.OsmMap.{OsmMap}
use Rattle.map_roads.specs.Statuses.{ReadsAs, IsFaultOf, IsMap}
use Rattle.map_roads.specs.declared.status.MapFault.{MapFault}
use Rattle.map_roads.specs.declared.status.MapFault.TheVariants as fault

-- the bytes are one map
pub one_map : (form : Form) (held : List ℕ) (m n : OsmMap) → ReadsAs form held m → ReadsAs form held n → m ≡ n
one_map forms.Plain held m n a b = cc
one_map forms.Pbf held m n a b = cc

-- a map that has roads has no fault
pub no_fault : (f : MapFault) (form : Form) (held : List ℕ) → IsMap form held → IsFaultOf f form held → ⊥
no_fault (fault.Plain line byte kind) forms.Plain held is b = let a = is.reads_as in cc
no_fault (fault.Plain line byte kind) forms.Pbf held is b = b
no_fault (fault.Pbf byte kind) forms.Plain held is b = b
no_fault (fault.Pbf byte kind) forms.Pbf held is b = let a = is.reads_as in cc
no_fault (fault.Import refusal) form held is b =
    let same = one_map form held is.map b.0 is.reads_as b.1 in
    let roads_are = is.roads_are in
    let refused = b.2 in
    cc
