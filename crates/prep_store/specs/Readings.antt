-- What a reading of a part of a store does: it takes its text from the source, or meets a fault.
use Rattle.std.specs.Prelude.{◌≡◌, ℕ, ◌+◌, ◌≤◌, true, Option, IfSome, List, length}
use Rattle.std.specs.Io.KnownBytes.{Consumes}
use Rattle.gh_base.specs.Causes.{Rose}
use Rattle.prep_store.specs.declared.fault.PrepFault.{PrepFault}
use Rattle.prep_store.specs.declared.fault.PrepFault.TheVariants as faults
use Rattle.prep_store.specs.FirstFaults.{is_of_bytes}

-- a source as it is read: what is left of it, how many bytes came before, its count of failed calls, and its mark
pub record Place : Type 0 where
  pub left : Option (List ℕ)
  pub at : ℕ
  pub failed : ℕ
  pub mark : ℕ

-- how far a source is read, by its words
abbrev pub place : {S : Type 0} → (S → Option (List ℕ)) → (S → ℕ) → (S → ℕ) → S → ℕ → Place
place left failed mark source at = record { left = left source; at = at; failed = failed source; mark = mark source }

-- a text was taken, and its bytes were counted
pub record Takes (old new : Place) (text : List ℕ) : Type 0 where
  pub bytes : Consumes old.left new.left text
  pub counted : new.at ≡ old.at + length text
  pub later : old.failed ≤ new.failed
  pub mark : new.mark ≡ old.mark

-- a fault was met: one that speaks of bytes is why by what was left, and a failed call of the source was counted
pub record Fails (Why : ℕ → List ℕ → PrepFault → Type 0) (old new : Place) (fault : PrepFault) : Type 0 where
  pub told : is_of_bytes fault ≡ true → IfSome old.left (λ rest. Why (old.at + length rest) rest fault)
  pub rose : fault ≡ faults.ReadFault → Rose old.failed new.failed
  pub later : old.failed ≤ new.failed
  pub mark : new.mark ≡ old.mark
