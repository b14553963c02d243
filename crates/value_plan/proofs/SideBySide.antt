-- Slots side by side, and one more behind them.
use Rattle.std.proofs.Common.{◌≡◌, ℕ, ◌+◌, ◌≤◌, inl, Bool, List, [], ◌∷◌, ◌++◌, refl, ap, ◌∙◌, zero-add, arith}
use Rattle.std.specs.Prelude.{All}
use Rattle.std.proofs.lemmas.List.Elements.{All-nil, All-push, All-weaker}
use Rattle.std.proofs.lemmas.List.Quantifiers.{all_pairs_push}
use Rattle.std.proofs.lemmas.List.Sums.{sum_by-append}
use Rattle.value_plan.specs.Slots.{Place, AreApart, AreSideBySide, behind, bits_of, end_of, width, width_of}

pub none_side_by_side : AreSideBySide [] 0
none_side_by_side = record {
  apart = λ i j d before there. absurd (omega arith);
  inside = All-nil (λ slot. end_of slot ≤ 0);
  sum = refl;
  few = omega arith;
}

pub bits_of-push : (slots : List Place) (slot : Place) → bits_of (slots ++ slot ∷ []) ≡ bits_of slots + width slot
bits_of-push slots slot = sum_by-append width slots (slot ∷ []) ∙ ap (λ (n : ℕ). bits_of slots + n) (zero-add (width slot))

-- each slot there is apart from the one behind them
pub apart_from : (slots : List Place) (used bits : ℕ) (directed : Bool) → AreSideBySide slots used → All (λ other. AreApart other (behind slots bits directed)) slots
apart_from slots used bits directed h = λ k d l. inl (let inside = h.inside k d l in let sum = h.sum in omega arith)

pub one_more : (slots : List Place) (used more bits : ℕ) (directed : Bool) → AreSideBySide slots used → more ≡ used + width_of bits directed → more ≤ 128 → AreSideBySide (slots ++ behind slots bits directed ∷ []) more
one_more slots used more bits directed h e few =
    let slot = behind slots bits directed in
    record {
      apart = all_pairs_push AreApart slots slot h.apart (apart_from slots used bits directed h);
      inside = All-push (λ (other : Place). end_of other ≤ more) slots slot
          (All-weaker (λ (other : Place). end_of other ≤ used) (λ (other : Place). end_of other ≤ more) (λ other l. omega arith) slots h.inside)
          (let sum = h.sum in omega arith);
      sum = bits_of-push slots slot ∙ (let sum = h.sum in omega arith);
      few = few;
    }
