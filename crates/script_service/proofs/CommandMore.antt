-- One command more in a phase.
use Rattle.std.proofs.Common.{◌≡◌, ℕ, ◌+◌, ◌<◌, ◌≤◌, true, List, [], ◌∷◌, ◌++◌, length, filter, arith, length-append, append_assoc, All}
use Rattle.std.proofs.lemmas.List.Elements.{All-push, All-nil, filter-append}
use Rattle.std.proofs.lemmas.List.Quantifiers.{all_pairs_push}
use Rattle.traffic_core.specs.declared.entry.Entry.{Entry}
use Rattle.traffic_core.specs.Lands.{Land}
use Rattle.traffic_share.specs.Seats.{StartsWith}
use Rattle.script_service.specs.Answering.{Answered, own_of, is_accepted, accepted}
use Rattle.script_service.specs.Replying.{IsRightAfter}
use Rattle.script_service.specs.Fitting.{IsPast, SeesOwn}
use Rattle.script_service.specs.Going.{Goes}
use Rattle.script_service.proofs.RightReplies.{are_right_later, right_append}

pub accepted-append : (xs ys : List Answered) → accepted (xs ++ ys) ≡ accepted xs + accepted ys
accepted-append xs ys =
    rw (filter-append (λ (a : Answered). is_accepted a.reply) xs ys)
    (length-append (filter (λ (a : Answered). is_accepted a.reply) xs) (filter (λ (a : Answered). is_accepted a.reply) ys))

pub starts_len : (xs ys : List Entry) → StartsWith ys xs → length xs ≤ length ys
starts_len xs ys s = rw s.is (omega (arith, length-append xs s.rest))

pub starts_trans : (xs ys zs : List Entry) → StartsWith ys xs → StartsWith zs ys → StartsWith zs xs
starts_trans xs ys zs a b = record { rest = a.rest ++ b.rest; is = simp (b.is, a.is, append_assoc) }

pub goes_none : (land : Land) (capacity : ℕ) (past : List Answered) (low : ℕ) (entries : List Entry) → Goes land capacity past low entries []
goes_none land capacity past low entries = record {
  told = All-nil (IsPast low);
  within = All-nil (λ (a : Answered). a.at ≤ length entries);
  seen = λ i j d a b. absurd (omega arith);
  right = tt;
}

-- over a longer list
pub goes_later : (land : Land) (capacity : ℕ) (past : List Answered) (low : ℕ) (xs ys : List Entry) (part : List Answered) → StartsWith ys xs → All (λ (a : Answered). a.at ≤ length xs) past →
    Goes land capacity past low xs part → Goes land capacity past low ys part
goes_later land capacity past low xs ys part starts before goes =
    let grew = starts_len xs ys starts in
    record {
      told = goes.told;
      within = λ k d h. let was = goes.within k d h in omega arith;
      seen = goes.seen;
      right = are_right_later land capacity xs ys past part starts before goes.within goes.right;
    }

pub goes_push : (land : Land) (capacity : ℕ) (past : List Answered) (low : ℕ) (xs ys : List Entry) (part : List Answered) (a : Answered) → Goes land capacity past low xs part →
    low ≤ length xs → StartsWith ys xs → All (λ (a : Answered). a.at ≤ length xs) past → a.at ≡ length ys → (is_accepted a.reply ≡ true → length xs < length ys) →
    IsRightAfter land capacity ys (own_of a.line.actor (past ++ part)) a → Goes land capacity past low ys (part ++ a ∷ [])
goes_push land capacity past low xs ys part a goes above starts before at new right =
    let grew = starts_len xs ys starts in
    let later = goes_later land capacity past low xs ys part starts before goes in
    let here : IsPast low a = record { least = omega arith; own = λ took. let more = new took in omega arith } in
    record {
      told = All-push (IsPast low) part a later.told here;
      within = All-push (λ (a : Answered). a.at ≤ length ys) part a later.within (omega arith);
      seen = all_pairs_push SeesOwn part a later.seen (λ k d h same.
          let was = goes.within k d h in
          record { least = omega arith; own = λ took. let more = new took in omega arith });
      right = right_append land capacity ys past part (a ∷ []) later.right (right, tt);
    }
