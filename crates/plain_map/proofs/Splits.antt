-- Bytes that part nothing, and lists that are cut where one does.
use Rattle.std.proofs.Common.{◌≡◌, ◌≢◌, ◌∙◌, ℕ, ◌<◌, ◌≤◌, List, [], ◌∷◌, ◌++◌, false, eqb, refl, ap, arith}
use Rattle.std.specs.List.{onto_first}
use Rattle.std.proofs.lemmas.Bool.{eq-eqb, ne_eqb}
use Rattle.std.proofs.lemmas.List.Splits.{slice_split-cons_yes, slice_split-cons_no}
use Rattle.gh_base.specs.Parts.{parts_of}

abbrev pub Each : (ℕ → Type 0) → List ℕ → Type 0
Each P [] = Unit {0}
Each P (b ∷ bytes) = P b × Each P bytes

pub each_append : (P : ℕ → Type 0) (a b : List ℕ) → Each P a → Each P b → Each P (a ++ b)
each_append P [] b h k = k
each_append P (x ∷ a) b h k = (h.0, each_append P a b h.1 k)

pub each_more : (P Q : ℕ → Type 0) → ((b : ℕ) → P b → Q b) → (a : List ℕ) → Each P a → Each Q a
each_more P Q f [] h = tt
each_more P Q f (x ∷ a) h = (f x h.0, each_more P Q f a h.1)

-- neither a newline nor a space, a comma or an equals sign
pub record IsClean (b : ℕ) : Type 0 where
  pub above : 32 < b
  pub comma : b ≢ 44
  pub equals : b ≢ 61

abbrev pub Without : ℕ → List ℕ → Type 0
Without c bytes = Each (λ b. eqb b c ≡ false) bytes

pub no_newline : (a : List ℕ) → Each (λ b. 32 ≤ b) a → Without 10 a
no_newline a h = each_more _ _ (λ b k. ne_eqb b 10 (λ e. omega arith)) a h

pub no_space : (a : List ℕ) → Each IsClean a → Without 32 a
no_space a h = each_more _ _ (λ b k. ne_eqb b 32 (λ e. omega arith)) a h

pub no_comma : (a : List ℕ) → Each (λ b. b ≢ 44) a → Without 44 a
no_comma a h = each_more _ _ (λ b k. ne_eqb b 44 k) a h

pub no_equals : (a : List ℕ) → Each IsClean a → Without 61 a
no_equals a h = each_more _ _ (λ b k. ne_eqb b 61 k.equals) a h

-- the first part ends at the first such byte
pub cut_at : (c : ℕ) (xs ys : List ℕ) → Without c xs → parts_of c (xs ++ c ∷ ys) ≡ xs ∷ parts_of c ys
cut_at c [] ys h = slice_split-cons_yes (λ b. eqb b c) c ys (eq-eqb c c refl)
cut_at c (x ∷ xs) ys h = slice_split-cons_no (λ b. eqb b c) x (xs ++ c ∷ ys) h.0 ∙ ap (onto_first x) (cut_at c xs ys h.1)

-- and where there is none there is one part
pub cut_end : (c : ℕ) (xs : List ℕ) → Without c xs → parts_of c xs ≡ xs ∷ []
cut_end c [] h = refl
cut_end c (x ∷ xs) h = slice_split-cons_no (λ b. eqb b c) x xs h.0 ∙ ap (onto_first x) (cut_end c xs h.1)
