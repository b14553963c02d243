-- What holds of all of a list, and of all pairs.
use Rattle.std.proofs.Common.{◌≡◌, ℕ, zero, suc, ◌+◌, List, [], ◌∷◌, ◌++◌, length, get_or, subst, All, AllPairs, Contains, Some, take, drop, take-append-drop, ap, ◌∙◌, arith, length-append, slice_get, sym}
use Rattle.std.specs.List.{flat_map}
use Rattle.std.proofs.lemmas.List.{get_or_append_left, get_or-append-add, drop_more}
use Rattle.std.proofs.lemmas.List.Elements.{All-append, All-cons, All-head, All-tail, All-nil}
use Rattle.std.proofs.lemmas.List.Kept.{AllPairs-cons}

pub all_left : {X : Type 0} (P : X → Type 0) (xs ys : List X) → All P (xs ++ ys) → All P xs
all_left P xs ys all = λ k d h. subst P (get_or_append_left xs ys d k h) (all k d (omega (arith, length-append xs ys)))

pub all_right : {X : Type 0} (P : X → Type 0) (xs ys : List X) → All P (xs ++ ys) → All P ys
all_right P xs ys all = λ k d h. subst P (get_or-append-add xs ys k d) (all (length xs + k) d (omega (arith, length-append xs ys)))

-- of all of the joined lists, so of all of each
pub all_joined : {X : Type 0} (P : X → Type 0) (xss : List (List X)) → All P (flat_map (λ (xs : List X). xs) xss) → All (All P) xss
all_joined P [] all = All-nil (All P)
all_joined {X} P (xs ∷ xss) all =
    let more : List X = flat_map (λ (xs : List X). xs) xss in
    All-cons (All P) xs xss (all_left P xs more all) (all_joined P xss (all_right P xs more all))

pub pairs_append : {X : Type 0} (R : X → X → Type 0) (xs ys : List X) → AllPairs R xs → AllPairs R ys → All (λ x. All (R x) ys) xs → AllPairs R (xs ++ ys)
pairs_append R [] ys one two cross = two
pairs_append R (x ∷ xs) ys one two cross =
    let rest : AllPairs R xs = λ i j d a b. one (suc i) (suc j) d (omega arith) (omega arith) in
    let behind : All (R x) xs = λ k d h. one zero (suc k) d (omega arith) (omega arith) in
    let cross_rest : All (λ x. All (R x) ys) xs = λ k d h. cross (suc k) d (omega arith) in
    AllPairs-cons R x (xs ++ ys) (All-append (R x) xs ys behind (cross zero x (omega arith))) (pairs_append R xs ys rest two cross_rest)

pub slice_get_append : {X : Type 0} (xs ys : List X) (k : ℕ) (x : X) → slice_get xs k ≡ Some x → slice_get (xs ++ ys) k ≡ Some x
slice_get_append [] ys k x is = absurd cc
slice_get_append (y ∷ xs) ys zero x is = is
slice_get_append (y ∷ xs) ys (suc k) x is = slice_get_append xs ys k x is

-- of all of each list, so of all of the joined
pub joined_all : {X : Type 0} (P : X → Type 0) (xss : List (List X)) → All (All P) xss → All P (flat_map (λ (xs : List X). xs) xss)
joined_all P [] all = All-nil P
joined_all {X} P (xs ∷ xss) all = All-append P xs (flat_map (λ (xs : List X). xs) xss) (All-head (All P) xs xss all) (joined_all P xss (All-tail (All P) xs xss all))

first_of_pairs : {X : Type 0} (R : X → X → Type 0) (x : X) (xs : List X) → AllPairs R (x ∷ xs) → All (R x) xs
first_of_pairs R x xs pairs k d h = pairs zero (suc k) d (omega arith) (omega arith)

rest_of_pairs : {X : Type 0} (R : X → X → Type 0) (x : X) (xs : List X) → AllPairs R (x ∷ xs) → AllPairs R xs
rest_of_pairs R x xs pairs i j d below within = pairs (suc i) (suc j) d (omega arith) (omega arith)

pub pairs_before : {X : Type 0} (R : X → X → Type 0) (xs zs : List X) (y : X) → AllPairs R (xs ++ y ∷ zs) → All (λ x. R x y) xs
pairs_before R [] zs y pairs = All-nil (λ x. R x y)
pairs_before R (x ∷ xs) zs y pairs =
    let here = All-head (R x) y zs (all_right (R x) xs (y ∷ zs) (first_of_pairs R x (xs ++ y ∷ zs) pairs)) in
    All-cons (λ x. R x y) x xs here (pairs_before R xs zs y (rest_of_pairs R x (xs ++ y ∷ zs) pairs))

pub pairs_joined : {X : Type 0} (R : X → X → Type 0) (xss : List (List X)) → AllPairs (λ xs ys. All (λ x. All (R x) ys) xs) xss → All (AllPairs R) xss → AllPairs R (flat_map (λ (xs : List X). xs) xss)
pairs_joined R [] across within = λ i j d below inside. absurd (omega arith)
pairs_joined {X} R (xs ∷ xss) across within =
    let Cross : List X → List X → Type 0 = λ xs ys. All (λ x. All (R x) ys) xs in
    let first : All (Cross xs) xss = first_of_pairs Cross xs xss across in
    let cross : All (λ x. All (R x) (flat_map (λ (xs : List X). xs) xss)) xs = λ k d h. joined_all (R (get_or xs k d)) xss (λ m e l. first m e l k d h) in
    pairs_append R xs (flat_map (λ (xs : List X). xs) xss) (All-head (AllPairs R) xs xss within) (pairs_joined R xss (rest_of_pairs Cross xs xss across) (All-tail (AllPairs R) xs xss within)) cross

pub record IsCut {X : Type 0} (xs : List X) (y : X) : Type 0 where
  pub front : List X
  pub back : List X
  pub is : xs ≡ front ++ y ∷ back

pub cut_at : {X : Type 0} (xs : List X) (y : X) → Contains xs y → IsCut xs y
cut_at xs y has = record {
  front = take has.0 xs;
  back = drop (has.0 + 1) xs;
  is = sym (take-append-drop has.0 xs) ∙ ap (λ l. take has.0 xs ++ l) (drop_more xs has.0 y has.1 ∙ ap (λ x. x ∷ drop (has.0 + 1) xs) has.2);
}
