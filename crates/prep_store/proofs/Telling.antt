-- Readings one after another, and the fault of a part as one of the whole.
use Rattle.std.specs.Prelude.{IfSome, IfErr, Result, Ok, Err}
use Rattle.std.specs.Result.{IsErrAnd}
use Rattle.std.proofs.Common.{◌≡◌, ℕ, ◌+◌, true, false, Option, Some, None, List, [], ◌++◌, length, refl, sym, subst, ap, ◌∙◌, append_assoc, arith}
use Rattle.std.proofs.lemmas.List.{length-append}
use Rattle.std.specs.Io.KnownBytes.{Consumes}
use Rattle.prep_store.specs.declared.fault.PrepFault.{PrepFault}
use Rattle.prep_store.specs.declared.fault.PrepFault.TheVariants as faults
use Rattle.prep_store.specs.FirstFaults.{is_of_bytes}
use Rattle.prep_store.specs.Readings.{Place, Takes, Fails}

pub consumed_more : (old mid new : Option (List ℕ)) (xs ys : List ℕ) → Consumes old mid xs → Consumes mid new ys → Consumes old new (xs ++ ys)
consumed_more None mid new xs ys g h = tt
consumed_more (Some a) (Some b) (Some c) xs ys g h = rw (g, h) (sym (append_assoc xs ys c))
consumed_more (Some a) (Some b) None xs ys g h = absurd h
consumed_more (Some a) None new xs ys g h = absurd g

-- nothing is taken
pub none_taken : (a : Place) → Takes a a []
none_taken a = record { bytes = same a.left; counted = omega arith; later = omega arith; mark = refl }
  where
    same : (left : Option (List ℕ)) → Consumes left left []
    same None = tt
    same (Some xs) = refl

-- one text after another
pub taken_then : {a b c : Place} {xs ys : List ℕ} → Takes a b xs → Takes b c ys → Takes a c (xs ++ ys)
taken_then {a} {b} {c} {xs} {ys} t u = record {
  bytes = consumed_more a.left b.left c.left xs ys t.bytes u.bytes;
  counted = omega (arith, t.counted, u.counted, length-append xs ys);
  later = omega (arith, t.later, u.later);
  mark = u.mark ∙ t.mark;
}

pub taken_as : {a b : Place} {xs ys : List ℕ} → xs ≡ ys → Takes a b xs → Takes a b ys
taken_as {a} {b} {xs} {ys} e t = subst (λ (zs : List ℕ). Takes a b zs) e t

onward : (Inner Outer : ℕ → List ℕ → PrepFault → Type 0) (fault : PrepFault) (old new : Option (List ℕ)) (at now : ℕ) (text : List ℕ) → Consumes old new text → now ≡ at + length text →
    ((total : ℕ) (rest after : List ℕ) → rest ≡ text ++ after → Inner total after fault → Outer total rest fault) →
    IfSome new (λ after. Inner (now + length after) after fault) → IfSome old (λ rest. Outer (at + length rest) rest fault)
onward Inner Outer fault None new at now text c n f i = tt
onward Inner Outer fault (Some rest) None at now text c n f i = absurd c
onward Inner Outer fault (Some rest) (Some after) at now text c n f i =
    let total : now + length after ≡ at + length rest = omega (arith, n, ap (λ (xs : List ℕ). length xs) c, length-append text after) in
    f (at + length rest) rest after c (subst (λ (k : ℕ). Inner k after fault) total i)

-- a fault behind a text that was taken
pub fails_behind : {a b c : Place} {text : List ℕ} {fault : PrepFault} {Inner Outer : ℕ → List ℕ → PrepFault → Type 0} → Takes a b text → Fails Inner b c fault →
    ((total : ℕ) (rest after : List ℕ) → rest ≡ text ++ after → Inner total after fault → Outer total rest fault) → Fails Outer a c fault
fails_behind {a} {b} {c} {text} {fault} {Inner} {Outer} t i f = record {
  told = λ of. onward Inner Outer fault a.left b.left a.at b.at text t.bytes t.counted f (i.told of);
  rose = λ e. let rose = i.rose e in omega (arith, rose, t.later);
  later = omega (arith, t.later, i.later);
  mark = i.mark ∙ t.mark;
}

-- the same fault by other words
pub fails_as : {a b : Place} {fault : PrepFault} {Inner Outer : ℕ → List ℕ → PrepFault → Type 0} → Fails Inner a b fault →
    ((total : ℕ) (rest : List ℕ) → Inner total rest fault → Outer total rest fault) → Fails Outer a b fault
fails_as {a} {b} {fault} {Inner} {Outer} i f = record { told = λ of. go a.left (i.told of); rose = i.rose; later = i.later; mark = i.mark }
  where
    go : (left : Option (List ℕ)) → IfSome left (λ rest. Inner (a.at + length rest) rest fault) → IfSome left (λ rest. Outer (a.at + length rest) rest fault)
    go None h = tt
    go (Some rest) h = f (a.at + length rest) rest h

-- a fault that shows in what was taken
pub fails_at : {a b : Place} {text : List ℕ} {Why : ℕ → List ℕ → PrepFault → Type 0} (fault : PrepFault) → Takes a b text → is_of_bytes fault ≡ true →
    ((total : ℕ) (rest after : List ℕ) → rest ≡ text ++ after → Why total rest fault) → Fails Why a b fault
fails_at {a} {b} {text} {Why} fault t of f = record {
  told = λ _. go a.left b.left t.bytes;
  rose = λ e. absurd (let bad : false ≡ true = sym (ap is_of_bytes e) ∙ of in cc);
  later = t.later;
  mark = t.mark;
}
  where
    go : (old new : Option (List ℕ)) → Consumes old new text → IfSome old (λ rest. Why (a.at + length rest) rest fault)
    go None new c = tt
    go (Some rest) None c = absurd c
    go (Some rest) (Some after) c = f (a.at + length rest) rest after c

-- want of memory
pub out_of_memory : {a b : Place} {text : List ℕ} {Why : ℕ → List ℕ → PrepFault → Type 0} → Takes a b text → Fails Why a b faults.NoMemory
out_of_memory t = record { told = λ of. absurd (cc); rose = λ e. absurd (cc); later = t.later; mark = t.mark }

-- what a `?` hands on
pub handed_on : {T : Type 0} {a b : Place} {fault : PrepFault} (Why : ℕ → List ℕ → PrepFault → Type 0) (result : Result T PrepFault) → IsErrAnd result (λ e. e ≡ fault) → Fails Why a b fault → IfErr result (Fails Why a b)
handed_on Why (Ok x) e f = tt
handed_on {T} {a} {b} {fault} Why (Err x) e f = subst (λ (y : PrepFault). Fails Why a b y) (sym e) f
