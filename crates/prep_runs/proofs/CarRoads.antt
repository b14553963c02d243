-- Facts of the roads of cars, where the map's bytes are told; and that nothing but want of memory keeps a preparation and a check from their ends.
use Rattle.std.proofs.Common.{◌≡◌, true, refl, subst, ℕ, List, [], Option, Some, None, inl, inr, ◌⊎◌, arith}
use Rattle.std.specs.Prelude.{IfSome}
use Rattle.std.specs.Io.KnownBytes.{Appends, Keeps}
use Rattle.gh_base.specs.Causes.{Rose, AppendsFront}
use Rattle.gh_base.specs.declared.kinds.Form.{Form}
use Rattle.map_import.specs.declared.roads.Roads.{Roads}
use Rattle.traffic_core.specs.Lands.{Land}
use Rattle.traffic_core.specs.Truth.{IsNoPrepAt}
use Rattle.landmark_prep.specs.Preparations.{Preparation}
use Rattle.prep_store.specs.Stores.{IsStored}
use Rattle.prep_store.specs.FirstFaults.{is_of_bytes, IsFirstFault}
use Rattle.prep_store.specs.declared.fault.PrepFault.{PrepFault}
use Rattle.prep_store.specs.declared.fault.PrepFault.TheVariants as fault
use Rattle.map_roads.specs.Reading.{AreRoadsRead}
use Rattle.map_roads.specs.Statuses.{IsMap, MapSays, IsCalm, IsDoneOrNoMemory, IsOfCars}
use Rattle.prep_runs.specs.Statuses.{IsOfPrep, IsOfPreparing, IsOfCheck, IsOfStore, status_of_store}
use Rattle.map_roads.specs.Cars.{car_land, AreCarsIn, AreFewOfPrep, FewSay}
use Rattle.map_roads.specs.Written.{Writes, WritesFront}
use Rattle.map_roads.proofs.Counted.{AreRead, of_cars}
use Rattle.prep_runs.specs.Preps.{IsStoreAt, StoresFront, IsPrepText, PrepsFront, PrepsPart, PrepSays, IsChecked, IsCheckText, StoreSays, StoreSaysOf, HasNoFault, checked_text}
use Rattle.map_roads.proofs.OneMap.{no_fault}
use Rattle.map_roads.proofs.Few.{few_or_many}
use Rattle.map_roads.specs.declared.status.Status.{Status}
use Rattle.map_roads.specs.declared.status.Status.TheVariants as status
use Rattle.map_roads.specs.declared.status.Which.TheVariants as which
use Rattle.map_roads.specs.declared.status.Quantity.TheVariants as quantity

-- what is written over the roads of cars of a map that was read is so of the map
module _ (form : Form) (count : ℕ) (land : Land) (old new : Option (List ℕ)) where
  pub stored_behind : (holds : Option (List ℕ)) → IfSome holds (λ held. AreCarsIn form held land) → Writes (λ text. IsStoreAt count text land) old new
      → IfSome holds (λ held. Writes (IsPrepText form held count) old new)
  stored_behind None cars written = tt
  stored_behind (Some held) cars written = (written.0, of_cars (IsStoreAt count written.0) cars written.1, written.2)

  pub front_behind : (holds : Option (List ℕ)) → IfSome holds (λ held. AreCarsIn form held land) → StoresFront count old new land → IfSome holds (λ held. PrepsFront form held count old new)
  front_behind None cars written = tt
  front_behind (Some held) cars written = of_cars (StoresFront count old new) cars written

  pub part_behind : (holds : Option (List ℕ)) → IfSome holds (λ held. AreCarsIn form held land) → StoresFront count old new land ⊎ Keeps old new
      → IfSome holds (λ held. PrepsPart form held count old new)
  part_behind None cars part = tt
  part_behind (Some held) cars (inl front) = inl (of_cars (StoresFront count old new) cars front)
  part_behind (Some held) cars (inr keeps) = inr keeps

-- what preparing says of labels and landmarks
says : (s : Status) (form : Form) (held : List ℕ) (count : ℕ) (land : Land) → AreCarsIn form held land → AreFewOfPrep form held count → IsOfPreparing s
    → (s ≡ status.NoLandmark → IsNoPrepAt land [] 0) → PrepSays s form held count
says status.Done form held count land cars few of none = few
says status.WriteFault form held count land cars few of none = few
says status.NoLandmark form held count land cars few of none = (few, of_cars (λ (l : Land). IsNoPrepAt l [] 0) cars (none refl))
says status.NoMemory form held count land cars few of none = tt
says status.Usage form held count land cars few of none = absurd of
says status.OpenFault form held count land cars few of none = absurd of
says (status.ReadFault what) form held count land cars few of none = absurd of
says (status.BadMap fault) form held count land cars few of none = absurd of
says (status.BadScript line byte kind) form held count land cars few of none = absurd of
says (status.TooLarge what limit) form held count land cars few of none = absurd of
says (status.BadPrep fault) form held count land cars few of none = absurd of

pub prep_says : (s : Status) (form : Form) (holds : Option (List ℕ)) (count : ℕ) (land : Land) → IfSome holds (λ held. AreCarsIn form held land) → IfSome holds (λ held. AreFewOfPrep form held count)
    → IsOfPreparing s → (s ≡ status.NoLandmark → IsNoPrepAt land [] 0) → IfSome holds (λ held. PrepSays s form held count)
prep_says s form None count land cars few of none = tt
prep_says s form (Some held) count land cars few of none = says s form held count land cars few of none

-- what reading the roads says of them
refusal_says : (s : Status) (form : Form) (held : List ℕ) (count : ℕ) → IsOfCars s → FewSay s form held count → PrepSays s form held count
refusal_says status.NoMemory form held count of few = tt
refusal_says status.OpenFault form held count of few = tt
refusal_says (status.ReadFault what) form held count of few = tt
refusal_says (status.BadMap fault) form held count of few = tt
refusal_says (status.TooLarge quantity.Map limit) form held count of few = tt
refusal_says (status.TooLarge quantity.Labels limit) form held count of few = few
refusal_says (status.TooLarge quantity.Script limit) form held count of few = absurd of
refusal_says (status.TooLarge quantity.Way limit) form held count of few = absurd of
refusal_says status.Done form held count of few = absurd of
refusal_says status.WriteFault form held count of few = absurd of
refusal_says status.NoLandmark form held count of few = absurd of
refusal_says status.Usage form held count of few = absurd of
refusal_says (status.BadScript line byte kind) form held count of few = absurd of
refusal_says (status.BadPrep fault) form held count of few = absurd of

pub prep_refused : (s : Status) (form : Form) (holds : Option (List ℕ)) (count : ℕ) → IsOfCars s → IfSome holds (λ held. FewSay s form held count) → IfSome holds (λ held. PrepSays s form held count)
prep_refused s form None count of few = tt
prep_refused s form (Some held) count of few = refusal_says s form held count of few

preps_to_the_end : (s : Status) (form : Form) (held : List ℕ) (count : ℕ) → IsOfPrep s → MapSays s form held → PrepSays s form held count → IsMap form held → AreFewOfPrep form held count →
    (s ≡ status.OpenFault → ⊥) → (s ≡ status.ReadFault which.Map → ⊥) → (s ≡ status.WriteFault → ⊥) → IsDoneOrNoMemory s ⊎ (s ≡ status.NoLandmark)
preps_to_the_end status.Done form held count of map_says says is few no_open no_map no_write = inl (inl refl)
preps_to_the_end status.NoMemory form held count of map_says says is few no_open no_map no_write = inl (inr refl)
preps_to_the_end status.NoLandmark form held count of map_says says is few no_open no_map no_write = inr refl
preps_to_the_end status.OpenFault form held count of map_says says is few no_open no_map no_write = absurd (no_open refl)
preps_to_the_end (status.ReadFault which.Map) form held count of map_says says is few no_open no_map no_write = absurd (no_map refl)
preps_to_the_end status.WriteFault form held count of map_says says is few no_open no_map no_write = absurd (no_write refl)
preps_to_the_end (status.BadMap f) form held count of map_says says is few no_open no_map no_write = absurd (no_fault f form held is map_says.1)
preps_to_the_end (status.TooLarge quantity.Map limit) form held count of map_says says is few no_open no_map no_write = absurd (let short = is.short in omega (arith, map_says.0, map_says.1))
preps_to_the_end (status.TooLarge quantity.Labels limit) form held count of map_says says is few no_open no_map no_write = absurd (few_or_many form held count few says.1)
preps_to_the_end status.Usage form held count of map_says says is few no_open no_map no_write = absurd of
preps_to_the_end (status.ReadFault which.Script) form held count of map_says says is few no_open no_map no_write = absurd of
preps_to_the_end (status.BadScript line byte kind) form held count of map_says says is few no_open no_map no_write = absurd of
preps_to_the_end (status.TooLarge quantity.Script limit) form held count of map_says says is few no_open no_map no_write = absurd of
preps_to_the_end (status.TooLarge quantity.Way limit) form held count of map_says says is few no_open no_map no_write = absurd of
preps_to_the_end (status.BadPrep fault) form held count of map_says says is few no_open no_map no_write = absurd of

pub preps_complete : (s : Status) (form : Form) (count : ℕ) (holds : Option (List ℕ)) (b c t u k l : ℕ) → IsOfPrep s → IfSome holds (MapSays s form) → IfSome holds (λ held. PrepSays s form held count) →
    (s ≡ status.OpenFault → Rose b c) → (s ≡ status.ReadFault which.Map → Rose t u) → (s ≡ status.WriteFault → Rose k l) →
    IfSome holds (λ held. IsMap form held → AreFewOfPrep form held count → IsCalm b c → IsCalm t u → IsCalm k l → IsDoneOrNoMemory s ⊎ (s ≡ status.NoLandmark))
preps_complete s form count None b c t u k l of map_says says bring read write = tt
preps_complete s form count (Some held) b c t u k l of map_says says bring read write = λ is few no_b no_t no_k.
    preps_to_the_end s form held count of map_says says is few (λ e. no_b (bring e)) (λ e. no_t (read e)) (λ e. no_k (write e))

-- what a check says, with the bytes of map and store where they are told
pub checked_behind : (form : Form) (holds left old new : Option (List ℕ)) (found : Roads) → AreRead form holds found
    → IfSome left (λ bytes. Writes (λ text. IsChecked bytes text (car_land found)) old new)
    → IfSome holds (λ held. IfSome left (λ bytes. Writes (IsCheckText form held bytes) old new))
checked_behind form None left old new found read told = tt
checked_behind form (Some held) None old new found read told = tt
checked_behind form (Some held) (Some bytes) old new found read told = (told.0, record { found = found; are = read.1; stands = told.1 }, told.2)

pub checked_front : (form : Form) (holds left old new : Option (List ℕ)) (found : Roads) → AreRead form holds found
    → IfSome left (λ bytes. WritesFront (λ text. IsChecked bytes text (car_land found)) old new)
    → IfSome holds (λ held. IfSome left (λ bytes. WritesFront (IsCheckText form held bytes) old new))
checked_front form None left old new found read told = tt
checked_front form (Some held) None old new found read told = tt
checked_front form (Some held) (Some bytes) old new found read told = (told.0, record { found = found; are = read.1; stands = told.1 }, told.2)

fault_says : (s : Status) (form : Form) (held bytes : List ℕ) (found : Roads) → AreRoadsRead form held found → StoreSaysOf s (car_land found) bytes → StoreSays s form held bytes
fault_says (status.BadPrep fault) form held bytes found read said = record { found = found; are = read; stands = said }
fault_says status.Done form held bytes found read said = tt
fault_says status.WriteFault form held bytes found read said = tt
fault_says status.NoLandmark form held bytes found read said = tt
fault_says (status.TooLarge what limit) form held bytes found read said = tt
fault_says status.Usage form held bytes found read said = tt
fault_says status.NoMemory form held bytes found read said = tt
fault_says status.OpenFault form held bytes found read said = tt
fault_says (status.ReadFault what) form held bytes found read said = tt
fault_says (status.BadMap fault) form held bytes found read said = tt
fault_says (status.BadScript line byte kind) form held bytes found read said = tt

pub store_says : (s : Status) (form : Form) (holds left : Option (List ℕ)) (found : Roads) → AreRead form holds found → IfSome left (StoreSaysOf s (car_land found))
    → IfSome holds (λ held. IfSome left (λ bytes. StoreSays s form held bytes))
store_says s form None left found read said = tt
store_says s form (Some held) None found read said = tt
store_says s form (Some held) (Some bytes) found read said = fault_says s form held bytes found read.1 said

checks_to_the_end : (s : Status) (form : Form) (held bytes : List ℕ) → IsOfCheck s → MapSays s form held → StoreSays s form held bytes → IsMap form held → HasNoFault form held bytes →
    (s ≡ status.OpenFault → ⊥) → (s ≡ status.ReadFault which.Map → ⊥) → (s ≡ status.ReadFault which.Script → ⊥) → (s ≡ status.WriteFault → ⊥) → IsDoneOrNoMemory s
checks_to_the_end status.Done form held bytes of map_says says is stored no_open no_map no_store no_write = inl refl
checks_to_the_end status.NoMemory form held bytes of map_says says is stored no_open no_map no_store no_write = inr refl
checks_to_the_end status.OpenFault form held bytes of map_says says is stored no_open no_map no_store no_write = absurd (no_open refl)
checks_to_the_end (status.ReadFault which.Map) form held bytes of map_says says is stored no_open no_map no_store no_write = absurd (no_map refl)
checks_to_the_end (status.ReadFault which.Script) form held bytes of map_says says is stored no_open no_map no_store no_write = absurd (no_store refl)
checks_to_the_end status.WriteFault form held bytes of map_says says is stored no_open no_map no_store no_write = absurd (no_write refl)
checks_to_the_end (status.BadMap f) form held bytes of map_says says is stored no_open no_map no_store no_write = absurd (no_fault f form held is map_says.1)
checks_to_the_end (status.TooLarge quantity.Map limit) form held bytes of map_says says is stored no_open no_map no_store no_write = absurd (let short = is.short in omega (arith, map_says.0, map_says.1))
checks_to_the_end (status.BadPrep fault) form held bytes of map_says says is stored no_open no_map no_store no_write =
    absurd (stored says.found says.are fault says.stands)
checks_to_the_end status.Usage form held bytes of map_says says is stored no_open no_map no_store no_write = absurd of
checks_to_the_end (status.BadScript line byte kind) form held bytes of map_says says is stored no_open no_map no_store no_write = absurd of
checks_to_the_end (status.TooLarge quantity.Script limit) form held bytes of map_says says is stored no_open no_map no_store no_write = absurd of
checks_to_the_end (status.TooLarge quantity.Labels limit) form held bytes of map_says says is stored no_open no_map no_store no_write = absurd of
checks_to_the_end (status.TooLarge quantity.Way limit) form held bytes of map_says says is stored no_open no_map no_store no_write = absurd of
checks_to_the_end status.NoLandmark form held bytes of map_says says is stored no_open no_map no_store no_write = absurd of

pub checks_complete : (s : Status) (form : Form) (holds left : Option (List ℕ)) (b c t u i j k l : ℕ) → IsOfCheck s → IfSome holds (MapSays s form) →
    IfSome holds (λ held. IfSome left (λ bytes. StoreSays s form held bytes)) →
    (s ≡ status.OpenFault → Rose b c) → (s ≡ status.ReadFault which.Map → Rose t u) → (s ≡ status.ReadFault which.Script → Rose i j) → (s ≡ status.WriteFault → Rose k l) →
    IfSome holds (λ held. IfSome left (λ bytes. IsMap form held → HasNoFault form held bytes → IsCalm b c → IsCalm t u → IsCalm i j → IsCalm k l → IsDoneOrNoMemory s))
checks_complete s form None left b c t u i j k l of map_says says bring read_map read_store write = tt
checks_complete s form (Some held) None b c t u i j k l of map_says says bring read_map read_store write = tt
checks_complete s form (Some held) (Some bytes) b c t u i j k l of map_says says bring read_map read_store write = λ is stored no_b no_t no_i no_k.
    checks_to_the_end s form held bytes of map_says says is stored (λ e. no_b (bring e)) (λ e. no_t (read_map e)) (λ e. no_i (read_store e)) (λ e. no_k (write e))

any : (left : Option (List ℕ)) → IfSome left (λ bytes. Unit {0})
any None = tt
any (Some bytes) = tt

-- what a fault of a store comes to
module _ (left : Option (List ℕ)) (land : Land) where
  pub said_of_store : (f : PrepFault) → (is_of_bytes f ≡ true → IfSome left (λ bytes. IsFirstFault land bytes f)) → IfSome left (StoreSaysOf (status_of_store f) land)
  said_of_store fault.ReadFault first = any left
  said_of_store fault.NoMemory first = any left
  said_of_store (fault.Short byte) first = first refl
  said_of_store fault.Magic first = first refl
  said_of_store (fault.Profile profile) first = first refl
  said_of_store (fault.Sizes towers edges) first = first refl
  said_of_store (fault.Count count) first = first refl
  said_of_store (fault.Landmarks place) first = first refl
  said_of_store (fault.Grain grain) first = first refl
  said_of_store (fault.Order landmark back place) first = first refl
  said_of_store (fault.Open landmark back edge) first = first refl
  said_of_store fault.After first = first refl

pub of_store : (f : PrepFault) → IsOfStore (status_of_store f)
of_store fault.ReadFault = tt
of_store fault.NoMemory = tt
of_store (fault.Short byte) = tt
of_store fault.Magic = tt
of_store (fault.Profile profile) = tt
of_store (fault.Sizes towers edges) = tt
of_store (fault.Count count) = tt
of_store (fault.Landmarks place) = tt
of_store (fault.Grain grain) = tt
of_store (fault.Order landmark back place) = tt
of_store (fault.Open landmark back edge) = tt
of_store fault.After = tt

-- only a fault of reading comes to one
pub read_of_store : (f : PrepFault) (b c : ℕ) → (f ≡ fault.ReadFault → Rose b c) → status_of_store f ≡ status.ReadFault which.Script → Rose b c
read_of_store fault.ReadFault b c rose e = rose refl
read_of_store fault.NoMemory b c rose e = cc
read_of_store (fault.Short byte) b c rose e = cc
read_of_store fault.Magic b c rose e = cc
read_of_store (fault.Profile profile) b c rose e = cc
read_of_store (fault.Sizes towers edges) b c rose e = cc
read_of_store (fault.Count count) b c rose e = cc
read_of_store (fault.Landmarks place) b c rose e = cc
read_of_store (fault.Grain grain) b c rose e = cc
read_of_store (fault.Order landmark back place) b c rose e = cc
read_of_store (fault.Open landmark back edge) b c rose e = cc
read_of_store fault.After b c rose e = cc

-- a preparation whose store was read, and what is told of it
module _ (land cars : Land) (same : land ≡ cars) (prep : Preparation) where
  is_checked : (bytes : List ℕ) → IsStored land prep bytes → IsChecked bytes (checked_text prep) cars
  is_checked bytes stored = record { prep = prep; stored = subst (λ (l : Land). IsStored l prep bytes) same stored; text_is = refl }

  pub told_of : (left old new : Option (List ℕ)) → IfSome left (IsStored land prep) → Appends old new (checked_text prep)
      → IfSome left (λ bytes. Writes (λ text. IsChecked bytes text cars) old new)
  told_of None old new stored written = tt
  told_of (Some bytes) old new stored written = (checked_text prep, is_checked bytes stored, written)

  pub front_of_told : (left old new : Option (List ℕ)) → IfSome left (IsStored land prep) → AppendsFront old new (checked_text prep)
      → IfSome left (λ bytes. WritesFront (λ text. IsChecked bytes text cars) old new)
  front_of_told None old new stored written = tt
  front_of_told (Some bytes) old new stored written = (checked_text prep, is_checked bytes stored, written)
