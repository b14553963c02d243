-- As many entries as accepted replies: each entry is one of theirs.
use Rattle.std.proofs.Common.{◌≡◌, ℕ, ◌+◌, ◌-◌, ◌<◌, ◌≤◌, ◌≢◌, Bool, true, false, List, [], ◌∷◌, length, get_or, map, filter, eqb, ap, refl, Some, arith, eqb-true, slice_get, All, AllPairs, Contains}
use Rattle.std.proofs.lemmas.Grind.{common_steps}
use Rattle.std.specs.List.{IsDistinct, list_any}
use Rattle.std.proofs.lemmas.List.{length-map, get_or-map}
use Rattle.std.proofs.lemmas.List.Elements.{All-filter, filter_passes, All-contains, All-contains_itself}
use Rattle.std.proofs.lemmas.List.Kept.{AllPairs-filter}
use Rattle.std.proofs.lemmas.Map.Made.{IsDistinct-from_AllPairs}
use Rattle.std.proofs.lemmas.Bool.Decides.{Decides-eqb}
use Rattle.traffic_core.specs.declared.entry.Entry.{Entry}
use Rattle.traffic_core.specs.declared.entry.What.{What}
use Rattle.traffic_core.specs.Lands.{Land}
use Rattle.script_service.specs.Answering.{Answered, is_accepted, accepted}
use Rattle.script_service.specs.Fitting.{IsPast, SeesOwn}
use Rattle.script_service.specs.Going.{Goes, Fills}
use Rattle.script_service.proofs.RightReplies.{OwnsEntry, have_entries}
use Rattle.script_service.proofs.DistinctPlaces.{given}

abbrev takes : Answered → Bool
takes a = is_accepted a.reply

-- a reply that has an entry above `low`
record Takes (journal : List Entry) (low : ℕ) (a : Answered) : Type 0 where
  took : is_accepted a.reply ≡ true
  entry : OwnsEntry journal a
  above : low < a.at
  within : a.at ≤ length journal

all_take : (land : Land) (capacity : ℕ) (past : List Answered) (low : ℕ) (journal : List Entry) (part : List Answered) → Goes land capacity past low journal part → All (Takes journal low) (filter takes part)
all_take land capacity past low journal part goes =
    let entries = All-filter takes (λ (a : Answered). is_accepted a.reply ≡ true → OwnsEntry journal a) part (have_entries land capacity journal past part goes.right) in
    let told = All-filter takes (IsPast low) part goes.told in
    let within = All-filter takes (λ (a : Answered). a.at ≤ length journal) part goes.within in
    λ k d h.
    let took : is_accepted (get_or (filter takes part) k d).reply ≡ true = filter_passes takes part k d h in
    record { took = took; entry = entries k d h took; above = (told k d h).own took; within = within k d h }

abbrev mine : Answered → What → Entry
mine a change = record { actor = a.line.actor; number = a.line.number; what = change }

-- two replies of one place are one
differ : (journal : List Entry) (low : ℕ) (a b : Answered) → Takes journal low a → Takes journal low b → SeesOwn a b → a.at - (low + 1) ≡ b.at - (low + 1) → ⊥
differ journal low a b at bt sees same =
    let above = at.above in
    let above' = bt.above in
    let one : a.at ≡ b.at = omega arith in
    let here = at.entry.1.1 in
    let there : slice_get journal (a.at - 1) ≡ Some (mine b bt.entry.0) = rw one bt.entry.1.1 in
    let entries : mine a at.entry.0 ≡ mine b bt.entry.0 = cc in
    let actors : a.line.actor ≡ b.line.actor = ap (λ (e : Entry). e.actor) entries in
    let less = (sees actors).own bt.took in
    omega arith

pairs_map : {X Y : Type 0} (f : X → Y) (xs : List X) → AllPairs (λ x y. f x ≢ f y) xs → AllPairs (λ x y. x ≢ y) (map f xs)
pairs_map f [] pairs = λ i j d below within. absurd (omega arith)
pairs_map f (x ∷ xs) pairs = λ i j d below within.
    let inside : j < length (x ∷ xs) = omega (arith, length-map (x ∷ xs) f) in
    rw (get_or-map f (x ∷ xs) i x d (omega arith), get_or-map f (x ∷ xs) j x d inside) (pairs i j x below inside)

any_by : (q : ℕ) (f : Answered → ℕ) (x : Answered) (xs : List Answered) (b : Bool) → eqb q (f x) ≡ b → list_any (eqb q) (f x ∷ map f xs) ≡ true →
    (list_any (eqb q) (map f xs) ≡ true → (a : Answered) × Contains xs a × (q ≡ f a)) → (a : Answered) × Contains (x ∷ xs) a × (q ≡ f a)
any_by q f x xs true is some more = (x, (0, omega arith, refl), eqb-true q (f x) is)
any_by q f x xs false is some more =
    let a = more (grind (arith, common_steps)) in
    (a.0, (a.1.0 + 1, omega (arith, a.1.1), grind (arith, common_steps, a.1.2)), a.2)

any_place : (q : ℕ) (f : Answered → ℕ) (xs : List Answered) → list_any (eqb q) (map f xs) ≡ true → (a : Answered) × Contains xs a × (q ≡ f a)
any_place q f [] some = absurd cc
any_place q f (x ∷ xs) some = any_by q f x xs (eqb q (f x)) refl some (any_place q f xs)

contains_filter : (p : Answered → Bool) (xs : List Answered) (a : Answered) → Contains (filter p xs) a → Contains xs a
contains_filter p xs a has = All-contains (Contains xs) (filter p xs) a (All-filter p (Contains xs) xs (All-contains_itself xs)) has

pub fills_counted : (land : Land) (capacity : ℕ) (past : List Answered) (low : ℕ) (journal : List Entry) (part : List Answered) → Goes land capacity past low journal part → length journal ≡ low + accepted part →
    Fills part low (length journal)
fills_counted land capacity past low journal part goes count =
    let took : List Answered = filter takes part in
    let place : Answered → ℕ = λ a. a.at - (low + 1) in
    let all = all_take land capacity past low journal part goes in
    let seen = AllPairs-filter SeesOwn takes part goes.seen in
    let pairs : AllPairs (λ (x y : Answered). place x ≢ place y) took =
    λ i j d below within. differ journal low (get_or took i d) (get_or took j d) (all i d (omega arith)) (all j d within) (seen i j d below within) in
    let distinct : IsDistinct eqb (map place took) = IsDistinct-from_AllPairs Decides-eqb (map place took) (pairs_map place took pairs) in
    let below : (q : ℕ) → list_any (eqb q) (map place took) ≡ true → q < accepted part =
    λ q some. let a = any_place q place took some in let t = All-contains (Takes journal low) took a.0 all a.1 in let s = a.2 in let b = t.above in let w = t.within in omega arith in
    record {
      count = count;
      each = λ k above within.
          let some = given (map place took) (accepted part) distinct below (length-map took place) (k - (low + 1)) (omega arith) in
          let a = any_place (k - (low + 1)) place took some in
          let t = All-contains (Takes journal low) took a.0 all a.1 in
          let s = a.2 in
          let b = t.above in
          (a.0, contains_filter takes part a.0 a.1, t.took, omega arith);
    }
