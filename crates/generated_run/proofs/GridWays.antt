-- Ways of the grid: each is used, and each of its nodes is a tower, since it stands in a row and in a column.
use Rattle.std.proofs.Common.{◌≡◌, ◌∙◌, ℕ, zero, suc, ◌+◌, ◌-◌, ◌*◌, ◌%◌, ◌<◌, ◌≤◌, ℤ, pos, Bool, true, false, cond, List, [], ◌∷◌, ◌++◌, map, Some, inl, inr, ap, sym, subst, refl, arith}
use Rattle.std.specs.Prelude.{◌||◌, ◌==◌, nat_lt, codes}
use Rattle.std.specs.List.{count_by, dedup_from, flat_map, range_with_len}
use Rattle.std.specs.Ordering.{int_eq}
use Rattle.std.proofs.lemmas.Bool.{cases_lt, lt-ltb, le-ltb, le-leb}
use Rattle.std.proofs.lemmas.List.Sums.{sum_by-append, sum_by-cons}
use Rattle.std.proofs.lemmas.List.FromFn.{length-map-range_with_len}
use Rattle.encoded_values.specs.Values.{TwoValues}
use Rattle.gh_base.specs.declared.map.OsmTag.{OsmTag}
use Rattle.gh_base.specs.declared.map.OsmWay.{OsmWay}
use Rattle.tag_rules.specs.Values.{values_by}
use Rattle.map_import.specs.Roads.{UsedWay, is_tower, merged, times, used_of, used_ways}
use Rattle.map_import.proofs.Merges.{is_used}
use Rattle.map_import.proofs.Numbers.{id_is_itself}
use Rattle.generated_run.specs.Draws.{draw}
use Rattle.generated_run.specs.Maps.{class_of, id_at, ref_at, refs_of, way_at}
use Rattle.generated_run.proofs.GridNodes.{differ, pos_differ}

-- neighbours differ, so none are merged
kept_from : (f : ℕ → ℤ) → ((k : ℕ) → int_eq (f (k + 1)) (f k) ≡ false) → (a k : ℕ) → dedup_from int_eq (f a) (map f (range_with_len (a + 1) k)) ≡ f a ∷ map f (range_with_len (a + 1) k)
kept_from f apart a zero = refl
kept_from f apart a (suc k) = rw (apart a) (ap (λ (l : List ℤ). f a ∷ l) (kept_from f apart (a + 1) k))

all_kept : (f : ℕ → ℤ) → ((k : ℕ) → int_eq (f (k + 1)) (f k) ≡ false) → (k : ℕ) → merged (map f (range_with_len 0 k)) ≡ map f (range_with_len 0 k)
all_kept f apart zero = refl
all_kept f apart (suc k) = kept_from f apart 0 k

row_apart : (size row column : ℕ) → int_eq (id_at size row (column + 1)) (id_at size row column) ≡ false
row_apart size row column = differ _ _ (λ e. pos_differ (row * size + column + 1) (row * size + (column + 1) + 1) (omega arith) (sym e))

column_apart : (size row column : ℕ) → 0 < size → int_eq (id_at size (row + 1) column) (id_at size row column) ≡ false
column_apart size row column some = differ _ _ (λ e. pos_differ (row * size + column + 1) ((row + 1) * size + column + 1) (omega arith) (sym e))

ref_by : (size n k : ℕ) (b : Bool) → ℤ
ref_by size n k b = cond b (id_at size n k) (id_at size k (n - size))

refs_apart_by : (size n k : ℕ) → 0 < size → (b : Bool) → int_eq (cond b (id_at size n (k + 1)) (id_at size (k + 1) (n - size))) (cond b (id_at size n k) (id_at size k (n - size))) ≡ false
refs_apart_by size n k some true = row_apart size n k
refs_apart_by size n k some false = column_apart size k (n - size) some

refs_apart : (size n : ℕ) → 0 < size → (k : ℕ) → int_eq (ref_at size n (k + 1)) (ref_at size n k) ≡ false
refs_apart size n some k = refs_apart_by size n k some (nat_lt n size)

tags_by : List ℕ → List OsmTag
tags_by class = record { key = codes "highway"; value = class } ∷ []

-- a way of each class may be used
class_used_by : (a b c : Bool) → (v : TwoValues) × (values_by (record { key = codes "highway"; value = cond a (codes "primary") (cond b (codes "secondary") (cond c (codes "tertiary") (codes "residential"))) } ∷ []) ≡ Some v)
class_used_by true b c = (_, refl)
class_used_by false true c = (_, refl)
class_used_by false false true = (_, refl)
class_used_by false false false = (_, refl)

class_used : (draw : ℕ) → (v : TwoValues) × (values_by (record { key = codes "highway"; value = class_of draw } ∷ []) ≡ Some v)
class_used draw = class_used_by (draw == 0) (draw == 1) (draw == 2)

pub used_at : ℕ → ℕ → UsedWay
used_at size n = record { id = pos (n + 1); refs = refs_of size n; values = (class_used (draw size n % 4)).0 }

pub used_refs : (size n : ℕ) → (used_at size n).refs ≡ refs_of size n
unfolding used_at
used_refs size n = refl

way_used : (size n : ℕ) → 2 ≤ size → used_of (way_at size n) ≡ Some (used_at size n)
unfolding used_at
way_used size n two =
    sym (is_used (way_at size n) (pos (n + 1)) (refs_of size n) (class_used (draw size n % 4)).0 refl
    (sym (all_kept (ref_at size n) (refs_apart size n (omega arith)) size)) (omega (arith, length-map-range_with_len (ref_at size n) 0 size)) (class_used (draw size n % 4)).1)

some_more : (way : OsmWay) (used : UsedWay) (ways : List OsmWay) → used_of way ≡ Some used → used_ways (way ∷ ways) ≡ used ∷ used_ways ways
some_more way used ways is = rw is refl

ways_from : (size a k : ℕ) → 2 ≤ size → used_ways (map (way_at size) (range_with_len a k)) ≡ map (used_at size) (range_with_len a k)
ways_from size a zero two = refl
ways_from size a (suc k) two = some_more (way_at size a) (used_at size a) (map (way_at size) (range_with_len (a + 1) k)) (way_used size a two) ∙ ap (λ (l : List UsedWay). used_at size a ∷ l) (ways_from size (a + 1) k two)

-- all ways are used
pub ways_used : (size count : ℕ) → 2 ≤ size → used_ways (map (way_at size) (range_with_len 0 count)) ≡ map (used_at size) (range_with_len 0 count)
ways_used size count two = ways_from size 0 count two

count-append : (p : ℤ → Bool) (xs ys : List ℤ) → count_by p (xs ++ ys) ≡ count_by p xs + count_by p ys
count-append p xs ys = sum_by-append (λ (x : ℤ). cond (p x) 1 0) xs ys

counts-cons : (p : ℤ → Bool) (x : ℤ) (xs : List ℤ) → count_by p (x ∷ xs) ≡ cond (p x) 1 0 + count_by p xs
counts-cons p x xs = sum_by-cons (λ (y : ℤ). cond (p y) 1 0) x xs

counts_head : (p : ℤ → Bool) (x : ℤ) (xs : List ℤ) → p x ≡ true → count_by p (x ∷ xs) ≡ 1 + count_by p xs
counts_head p x xs is = counts-cons p x xs ∙ ap (λ b. cond b 1 0 + count_by p xs) is

counts_at : (p : ℤ → Bool) (f : ℕ → ℤ) (a k i : ℕ) → a ≤ i → i < a + k → p (f i) ≡ true → 1 ≤ count_by p (map f (range_with_len a k))
counts_at p f a zero i low below is = absurd (omega arith)
counts_at p f a (suc k) i low below is = elim (cases_lt a i) [
  | inl lt ↦ let more = counts_at p f (a + 1) k i (omega arith) (omega arith) is in omega (arith, more, counts-cons p (f a) (map f (range_with_len (a + 1) k)))
  | inr le ↦ let same : i ≡ a = omega arith in omega (arith, counts_head p (f a) (map f (range_with_len (a + 1) k)) (ap (λ n. p (f n)) (sym same) ∙ is))
]

counts_one : (p : ℤ → Bool) (f : ℕ → List ℤ) (a k i : ℕ) → a ≤ i → i < a + k → 1 ≤ count_by p (f i) → 1 ≤ count_by p (flat_map f (range_with_len a k))
counts_one p f a zero i low below is = absurd (omega arith)
counts_one p f a (suc k) i low below is = elim (cases_lt a i) [
  | inl lt ↦ let more = counts_one p f (a + 1) k i (omega arith) (omega arith) is in omega (arith, more, count-append p (f a) (flat_map f (range_with_len (a + 1) k)))
  | inr le ↦
      let same : i ≡ a = omega arith in
      let here : 1 ≤ count_by p (f a) = subst (λ n. 1 ≤ count_by p (f n)) same is in
      omega (arith, here, count-append p (f a) (flat_map f (range_with_len (a + 1) k)))
]

counts_two : (p : ℤ → Bool) (f : ℕ → List ℤ) (a k i j : ℕ) → a ≤ i → i < j → j < a + k → 1 ≤ count_by p (f i) → 1 ≤ count_by p (f j) → 2 ≤ count_by p (flat_map f (range_with_len a k))
counts_two p f a zero i j low between below first second = absurd (omega arith)
counts_two p f a (suc k) i j low between below first second = elim (cases_lt a i) [
  | inl lt ↦ let more = counts_two p f (a + 1) k i j (omega arith) between (omega arith) first second in omega (arith, more, count-append p (f a) (flat_map f (range_with_len (a + 1) k)))
  | inr le ↦
      let same : i ≡ a = omega arith in
      let here : 1 ≤ count_by p (f a) = subst (λ n. 1 ≤ count_by p (f n)) same first in
      let more = counts_one p f (a + 1) k j (omega arith) (omega arith) second in
      omega (arith, here, more, count-append p (f a) (flat_map f (range_with_len (a + 1) k)))
]

ref_in_row : (size row column : ℕ) → row < size → ref_at size row column ≡ id_at size row column
ref_in_row size row column below = rw (lt-ltb row size below) refl

ref_in_column : (size row column : ℕ) → ref_at size (size + column) row ≡ id_at size row column
ref_in_column size row column = rw (le-ltb (size + column) size (omega arith)) (ap (λ c. id_at size row c) (omega arith))

refs_flat : (size : ℕ) (xs : List ℕ) → flat_map (λ (way : UsedWay). way.refs) (map (used_at size) xs) ≡ flat_map (refs_of size) xs
refs_flat size [] = refl
refs_flat size (x ∷ xs) = ap (λ (l : List ℤ). l ++ flat_map (λ (way : UsedWay). way.refs) (map (used_at size) xs)) (used_refs size x) ∙ ap (λ (l : List ℤ). refs_of size x ++ l) (refs_flat size xs)

-- the node of a row and a column stands in both
stands_twice : (size row column : ℕ) → row < size → column < size → 2 ≤ times (map (used_at size) (range_with_len 0 (2 * size))) (id_at size row column)
stands_twice size row column r c =
    let id : ℤ = id_at size row column in
    let itself = id_is_itself id in
    let in_row = counts_at (int_eq id) (ref_at size row) 0 size column (omega arith) (omega arith) (ap (int_eq id) (ref_in_row size row column r) ∙ itself) in
    let in_column = counts_at (int_eq id) (ref_at size (size + column)) 0 size row (omega arith) (omega arith) (ap (int_eq id) (ref_in_column size row column) ∙ itself) in
    subst (λ (l : List ℤ). 2 ≤ count_by (int_eq id) l) (sym (refs_flat size (range_with_len 0 (2 * size))))
    (counts_two (int_eq id) (refs_of size) 0 (2 * size) row (size + column) (omega arith) (omega arith) (omega arith) in_row in_column)

or_true : (a b : Bool) → b ≡ true → (a || b) ≡ true
or_true true b is = refl
or_true false b is = is

pub node_is_tower : (size row column : ℕ) → row < size → column < size → is_tower (map (used_at size) (range_with_len 0 (2 * size))) (id_at size row column) ≡ true
unfolding is_tower
node_is_tower size row column r c = or_true _ _ (le-leb 2 _ (stands_twice size row column r c))
