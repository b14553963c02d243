-- Lists that begin with others.
use Rattle.std.proofs.Common.{◌≡◌, ℕ, ◌+◌, ◌<◌, List, [], ◌∷◌, ◌++◌, length, get_or, take, refl, ap, sym, ◌∙◌, arith, append_assoc, add-one, length-take, inl, inr, suc, rules}
use Rattle.std.proofs.lemmas.Grind.{common_steps}
use Rattle.std.proofs.Math.Seq.{take-suc}
use Rattle.traffic_core.specs.declared.entry.Entry.{Entry}
use Rattle.traffic_core.specs.declared.entry.What.TheVariants.{Lower}
use Rattle.std.proofs.Common.{false}
use Rattle.traffic_share.specs.Seats.{StartsWith, GrewWithout, AreOfOne}

pub starts_self : (xs : List Entry) → StartsWith xs xs
starts_self xs = record { rest = []; is = grind (arith, common_steps) }

pub starts_push : (ys xs : List Entry) (e : Entry) → StartsWith ys xs → StartsWith (ys ++ e ∷ []) xs
starts_push ys xs e s = record { rest = s.rest ++ e ∷ []; is = rw (s.is, append_assoc) }

pub grew_self : (mine : Entry) (xs : List Entry) → GrewWithout mine xs xs
grew_self mine xs = record { rest = []; is = grind (arith, common_steps); others = search rules }

pub grew_push : (mine found : Entry) (xs ys zs : List Entry) → GrewWithout mine xs ys → zs ≡ ys ++ found ∷ [] → ¬ (found ≡ mine) → GrewWithout mine xs zs
grew_push mine found xs ys zs s is other = record {
  rest = s.rest ++ found ∷ [];
  is = rw (is, s.is, append_assoc);
  others = grind (arith, common_steps, s.others, other);
}

-- lists that agree as far as both go are beginnings of one list
pub of_one : (xs ys : List Entry) → ((k : ℕ) (d : Entry) → k < length xs → k < length ys → get_or xs k d ≡ get_or ys k d) → AreOfOne xs ys
of_one [] ys same = inr (record { rest = ys; is = refl })
of_one (x ∷ xs) [] same = inl (record { rest = x ∷ xs; is = refl })
of_one (x ∷ xs) (y ∷ ys) same =
    let head : x ≡ y = same 0 x (omega arith) (omega arith) in
    let tails : AreOfOne xs ys = of_one xs ys (λ k d a b. same (suc k) d (omega arith) (omega arith)) in
    elim tails [
      | inl s ↦ inl (record { rest = s.rest; is = rw (head, s.is) })
      | inr s ↦ inr (record { rest = s.rest; is = rw (head, s.is) })
    ]

-- the front of a list, with its next item
pub take_more : (front next whole whole' : List Entry) (n : ℕ) → front ≡ take n whole
    → ((d : Entry) → next ≡ front ++ get_or whole (length front) d ∷ []) → n < length whole → whole' ≡ whole → next ≡ take (n + 1) whole'
take_more front next whole whole' n at is below same =
    let d : Entry = record { actor = 0; number = 0; what = Lower (record { edge = record { 0 = 0 }; reverse = false }) 0 } in
    let len : length front ≡ n = rw at (omega (arith, length-take n whole)) in
    rw (same, add-one) (is d ∙ (ap (λ k. front ++ get_or whole k d ∷ []) len ∙ ap (λ f. f ++ get_or whole n d ∷ []) at) ∙ sym (take-suc whole n d below))
