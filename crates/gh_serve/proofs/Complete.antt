-- Nothing but want of memory keeps a run from its end, where no call of the outside fails and all bytes are right.
use Rattle.std.proofs.Common.{◌≡◌, refl, ℕ, List, Option, Some, None, Err, inl, inr, arith}
use Rattle.std.specs.Prelude.{IfSome}
use Rattle.gh_base.specs.Causes.{Rose}
use Rattle.gh_base.specs.declared.kinds.Form.{Form}
use Rattle.gh_base.specs.declared.kinds.Form.TheVariants as forms
use Rattle.map_roads.specs.Statuses.{IsMap, IsOfRoads, MapSays, IsCalm, IsDoneOrNoMemory}
use Rattle.gh_serve.specs.Statuses.{IsScriptText, AsksLabels, AreFewLabels, AreManyLabels, IsOfService, IsOfConversion, ScriptSays, LabelsSay}
use Rattle.map_roads.proofs.OneMap.{one_map, no_fault}
use Rattle.gh_serve.specs.Runs.{IsServable}
use Rattle.gh_serve.specs.Converting.{IsConvertible, ConversionSays}
use Rattle.map_roads.specs.declared.status.MapFault.TheVariants as fault
use Rattle.map_roads.specs.declared.status.Status.{Status}
use Rattle.map_roads.specs.declared.status.Status.TheVariants as status
use Rattle.map_roads.specs.declared.status.Which.TheVariants as which
use Rattle.map_roads.specs.declared.status.Quantity.TheVariants as quantity
use Rattle.gh_base.specs.declared.kinds.ScriptKind.{ScriptKind}
use Rattle.script_text.specs.declared.fault.ScriptFault.TheVariants as script_fault
use Rattle.script_text.specs.Grammar.{script_of}

-- nor a script that is in its grammar
no_script_fault : (line byte : ℕ) (kind : ScriptKind) (held : List ℕ) → IsScriptText held → script_of held ≡ Err (script_fault.At line byte kind) → ⊥
no_script_fault line byte kind held is f = let a = is.reads_as in cc

-- the bytes ask for one number of labels
one_count : (form : Form) (held bytes : List ℕ) (m n : ℕ) → AsksLabels form held bytes m → AsksLabels form held bytes n → m ≡ n
one_count form held bytes m n a b =
    let same = one_map form held a.map b.map a.map_is b.map_is in
    let laid_a = a.roads_are in
    let laid_b = b.roads_are in
    let read_a = a.script_is in
    let read_b = b.script_is in
    let count_a = a.labels_are in
    let count_b = b.labels_are in
    cc

few_or_many : (form : Form) (held bytes : List ℕ) → AreFewLabels form held bytes → AreManyLabels form held bytes → ⊥
few_or_many form held bytes few many =
    let same : few.0 ≡ many.0 = one_count form held bytes few.0 many.0 few.1 many.1 in
    let le = few.2 in
    let lt = many.2 in
    omega (arith, same, le, lt)

-- of what a service ends with, all but these two has a cause
pub serves_to_the_end : (s : Status) (form : Form) (held bytes : List ℕ) → IsOfService s → MapSays s form held → ScriptSays s bytes → LabelsSay s form held bytes →
    IsMap form held → IsScriptText bytes → AreFewLabels form held bytes →
    (s ≡ status.OpenFault → ⊥) → (s ≡ status.ReadFault which.Map → ⊥) → (s ≡ status.ReadFault which.Script → ⊥) → (s ≡ status.WriteFault → ⊥) → IsDoneOrNoMemory s
serves_to_the_end status.Done form held bytes of map_says script_says labels_say is_map is_script few no_open no_map no_script no_write = inl refl
serves_to_the_end status.NoMemory form held bytes of map_says script_says labels_say is_map is_script few no_open no_map no_script no_write = inr refl
serves_to_the_end status.OpenFault form held bytes of map_says script_says labels_say is_map is_script few no_open no_map no_script no_write = absurd (no_open refl)
serves_to_the_end (status.ReadFault which.Map) form held bytes of map_says script_says labels_say is_map is_script few no_open no_map no_script no_write = absurd (no_map refl)
serves_to_the_end (status.ReadFault which.Script) form held bytes of map_says script_says labels_say is_map is_script few no_open no_map no_script no_write = absurd (no_script refl)
serves_to_the_end status.WriteFault form held bytes of map_says script_says labels_say is_map is_script few no_open no_map no_script no_write = absurd (no_write refl)
serves_to_the_end (status.BadMap f) form held bytes of map_says script_says labels_say is_map is_script few no_open no_map no_script no_write =
    absurd (no_fault f form held is_map map_says.1)
serves_to_the_end (status.BadScript line byte kind) form held bytes of map_says script_says labels_say is_map is_script few no_open no_map no_script no_write =
    absurd (no_script_fault line byte kind bytes is_script script_says.1)
serves_to_the_end (status.TooLarge quantity.Map limit) form held bytes of map_says script_says labels_say is_map is_script few no_open no_map no_script no_write =
    absurd (let short = is_map.short in omega (arith, map_says.0, map_says.1))
serves_to_the_end (status.TooLarge quantity.Script limit) form held bytes of map_says script_says labels_say is_map is_script few no_open no_map no_script no_write =
    absurd (let short = is_script.short in omega (arith, script_says.0, script_says.1))
serves_to_the_end (status.TooLarge quantity.Labels limit) form held bytes of map_says script_says labels_say is_map is_script few no_open no_map no_script no_write =
    absurd (few_or_many form held bytes few labels_say.1)
serves_to_the_end status.Usage form held bytes of map_says script_says labels_say is_map is_script few no_open no_map no_script no_write = absurd of
serves_to_the_end (status.TooLarge quantity.Way limit) form held bytes of map_says script_says labels_say is_map is_script few no_open no_map no_script no_write = absurd of
serves_to_the_end status.NoLandmark form held bytes of map_says script_says labels_say is_map is_script few no_open no_map no_script no_write = absurd of
serves_to_the_end (status.BadPrep fault) form held bytes of map_says script_says labels_say is_map is_script few no_open no_map no_script no_write = absurd of

-- nor of what a conversion ends with
pub converts_to_the_end : (s : Status) (form to : Form) (held : List ℕ) → IsOfConversion s → ConversionSays s form to held → IsConvertible form to held →
    (s ≡ status.OpenFault → ⊥) → (s ≡ status.ReadFault which.Map → ⊥) → (s ≡ status.WriteFault → ⊥) → IsDoneOrNoMemory s
converts_to_the_end status.Done form to held of says is no_open no_map no_write = inl refl
converts_to_the_end status.NoMemory form to held of says is no_open no_map no_write = inr refl
converts_to_the_end status.OpenFault form to held of says is no_open no_map no_write = absurd (no_open refl)
converts_to_the_end (status.ReadFault which.Map) form to held of says is no_open no_map no_write = absurd (no_map refl)
converts_to_the_end status.WriteFault form to held of says is no_open no_map no_write = absurd (no_write refl)
converts_to_the_end (status.BadMap (fault.Plain line byte kind)) forms.Plain to held of says is no_open no_map no_write = absurd (let a = is.reads_as in let b = says.1 in cc)
converts_to_the_end (status.BadMap (fault.Pbf byte kind)) forms.Pbf to held of says is no_open no_map no_write = absurd (let a = is.reads_as in let b = says.1 in cc)
converts_to_the_end (status.TooLarge quantity.Map limit) form to held of says is no_open no_map no_write = absurd (let short = is.short in omega (arith, says.0, says.1))
converts_to_the_end (status.TooLarge quantity.Way limit) form to held of says is no_open no_map no_write =
    absurd (let large = says.1 in large.unfit (rw (one_map form held large.map is.map large.reads_as is.reads_as) is.fits_in))
converts_to_the_end status.Usage form to held of says is no_open no_map no_write = absurd of
converts_to_the_end status.NoLandmark form to held of says is no_open no_map no_write = absurd of
converts_to_the_end (status.BadPrep fault) form to held of says is no_open no_map no_write = absurd of
converts_to_the_end (status.ReadFault which.Script) form to held of says is no_open no_map no_write = absurd of
converts_to_the_end (status.BadScript line byte kind) form to held of says is no_open no_map no_write = absurd of
converts_to_the_end (status.BadMap (fault.Import refusal)) form to held of says is no_open no_map no_write = absurd of
converts_to_the_end (status.TooLarge quantity.Script limit) form to held of says is no_open no_map no_write = absurd of
converts_to_the_end (status.TooLarge quantity.Labels limit) form to held of says is no_open no_map no_write = absurd of
converts_to_the_end (status.BadMap (fault.Plain line byte kind)) forms.Pbf to held of says is no_open no_map no_write = absurd (says.1)
converts_to_the_end (status.BadMap (fault.Pbf byte kind)) forms.Plain to held of says is no_open no_map no_write = absurd (says.1)

-- nor of what writing roads ends with
pub tells_to_the_end : (s : Status) (form : Form) (held : List ℕ) → IsOfRoads s → MapSays s form held → IsMap form held →
    (s ≡ status.OpenFault → ⊥) → (s ≡ status.ReadFault which.Map → ⊥) → (s ≡ status.WriteFault → ⊥) → IsDoneOrNoMemory s
tells_to_the_end status.Done form held of says is no_open no_map no_write = inl refl
tells_to_the_end status.NoMemory form held of says is no_open no_map no_write = inr refl
tells_to_the_end status.OpenFault form held of says is no_open no_map no_write = absurd (no_open refl)
tells_to_the_end (status.ReadFault which.Map) form held of says is no_open no_map no_write = absurd (no_map refl)
tells_to_the_end status.WriteFault form held of says is no_open no_map no_write = absurd (no_write refl)
tells_to_the_end (status.BadMap f) form held of says is no_open no_map no_write = absurd (no_fault f form held is says.1)
tells_to_the_end (status.TooLarge quantity.Map limit) form held of says is no_open no_map no_write = absurd (let short = is.short in omega (arith, says.0, says.1))
tells_to_the_end status.Usage form held of says is no_open no_map no_write = absurd of
tells_to_the_end (status.ReadFault which.Script) form held of says is no_open no_map no_write = absurd of
tells_to_the_end (status.BadScript line byte kind) form held of says is no_open no_map no_write = absurd of
tells_to_the_end (status.TooLarge quantity.Script limit) form held of says is no_open no_map no_write = absurd of
tells_to_the_end (status.TooLarge quantity.Labels limit) form held of says is no_open no_map no_write = absurd of
tells_to_the_end (status.TooLarge quantity.Way limit) form held of says is no_open no_map no_write = absurd of
tells_to_the_end status.NoLandmark form held of says is no_open no_map no_write = absurd of
tells_to_the_end (status.BadPrep fault) form held of says is no_open no_map no_write = absurd of

-- with the bytes where they are told, and the counts
pub serves_complete : (s : Status) (form : Form) (holds left : Option (List ℕ)) (b c t u i j k l : ℕ) → IsOfService s → IfSome holds (MapSays s form) → IfSome left (ScriptSays s) →
    IfSome holds (λ held. IfSome left (λ bytes. LabelsSay s form held bytes)) →
    (s ≡ status.OpenFault → Rose b c) → (s ≡ status.ReadFault which.Map → Rose t u) → (s ≡ status.ReadFault which.Script → Rose i j) → (s ≡ status.WriteFault → Rose k l) →
    IfSome holds (λ held. IfSome left (λ bytes. IsServable form held bytes →
    IsCalm b c → IsCalm t u → IsCalm i j → IsCalm k l → IsDoneOrNoMemory s))
serves_complete s form None left b c t u i j k l of says script_says labels_say bring read_map read_script write = tt
serves_complete s form (Some held) None b c t u i j k l of says script_says labels_say bring read_map read_script write = tt
serves_complete s form (Some held) (Some bytes) b c t u i j k l of says script_says labels_say bring read_map read_script write = λ is no_b no_t no_i no_k.
    serves_to_the_end s form held bytes of says script_says labels_say is.map is.script is.labels (λ e. no_b (bring e)) (λ e. no_t (read_map e)) (λ e. no_i (read_script e)) (λ e. no_k (write e))

pub converts_complete : (s : Status) (form to : Form) (holds : Option (List ℕ)) (b c t u k l : ℕ) → IsOfConversion s → IfSome holds (ConversionSays s form to) →
    (s ≡ status.OpenFault → Rose b c) → (s ≡ status.ReadFault which.Map → Rose t u) → (s ≡ status.WriteFault → Rose k l) →
    IfSome holds (λ held. IsConvertible form to held → IsCalm b c → IsCalm t u → IsCalm k l → IsDoneOrNoMemory s)
converts_complete s form to None b c t u k l of says bring read write = tt
converts_complete s form to (Some held) b c t u k l of says bring read write = λ is no_b no_t no_k.
    converts_to_the_end s form to held of says is (λ e. no_b (bring e)) (λ e. no_t (read e)) (λ e. no_k (write e))

pub tells_complete : (s : Status) (form : Form) (holds : Option (List ℕ)) (b c t u k l : ℕ) → IsOfRoads s → IfSome holds (MapSays s form) →
    (s ≡ status.OpenFault → Rose b c) → (s ≡ status.ReadFault which.Map → Rose t u) → (s ≡ status.WriteFault → Rose k l) →
    IfSome holds (λ held. IsMap form held → IsCalm b c → IsCalm t u → IsCalm k l → IsDoneOrNoMemory s)
tells_complete s form None b c t u k l of says bring read write = tt
tells_complete s form (Some held) b c t u k l of says bring read write = λ is no_b no_t no_k.
    tells_to_the_end s form held of says is (λ e. no_b (bring e)) (λ e. no_t (read e)) (λ e. no_k (write e))
