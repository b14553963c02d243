-- Texts are read in one way, so bytes are stored for one preparation.
use Rattle.std.proofs.Common.{◌≡◌, ℕ, ◌<◌, ◌^◌, All, List, [], ◌∷◌, ◌++◌, length, suc, refl, sym, subst, ap, ◌∙◌, append_assoc, arith}
use Rattle.byteorder.specs.Endian.{big_from, big_bytes}
use Rattle.byteorder.specs.Numbers.{big_number-reads_back, length-bytes_high_first}
use Rattle.base_graph.specs.Graphs.{IsGraph}
use Rattle.landmark_prep.specs.Preparations.{Preparation, IsPrepOf}
use Rattle.landmark_prep.proofs.Unique.{one_preparation}
use Rattle.traffic_core.specs.Lands.{Land}
use Rattle.prep_store.specs.Stores.{magic, words, HasHead, HasLimits, roads_at, IsStored}
use Rattle.prep_store.proofs.Shown.{stored_true}

-- fronts of the same length
pub append_same : (a b r s : List ℕ) → length a ≡ length b → a ++ r ≡ b ++ s → (a ≡ b) × (r ≡ s)
append_same [] [] r s l e = (refl, e)
append_same [] (y ∷ b) r s l e = absurd (omega arith)
append_same (x ∷ a) [] r s l e = absurd (omega arith)
append_same (x ∷ a) (y ∷ b) r s l e =
    let here : x ≡ y = cc in
    let rest = append_same a b r s (omega arith) (cc) in
    (let front = rest.0 in cc, rest.1)

-- numbers in so many bytes
pub number_same : (n x y : ℕ) (r s : List ℕ) → x < 256 ^ n → y < 256 ^ n → big_bytes n x ++ r ≡ big_bytes n y ++ s → (x ≡ y) × (r ≡ s)
number_same n x y r s fits fits_too e = (
  sym (big_number-reads_back n x r fits) ∙ (ap (big_from 0 n) e ∙ big_number-reads_back n y s fits_too),
  (append_same (big_bytes n x) (big_bytes n y) r s (length-bytes_high_first n x ∙ sym (length-bytes_high_first n y)) e).1,
)

pub words_same : (xs ys r s : List ℕ) → length xs ≡ length ys → All (λ x. x < 2 ^ 32) xs → All (λ x. x < 2 ^ 32) ys → words xs ++ r ≡ words ys ++ s → (xs ≡ ys) × (r ≡ s)
words_same [] [] r s l p q e = (refl, e)
words_same [] (y ∷ ys) r s l p q e = absurd (omega arith)
words_same (x ∷ xs) [] r s l p q e = absurd (omega arith)
words_same (x ∷ xs) (y ∷ ys) r s l p q e =
    let split : big_bytes 4 x ++ (words xs ++ r) ≡ big_bytes 4 y ++ (words ys ++ s) = sym (append_assoc (big_bytes 4 x) (words xs) r) ∙ (e ∙ append_assoc (big_bytes 4 y) (words ys) s) in
    let first = number_same 4 x y (words xs ++ r) (words ys ++ s) (p 0 0 (omega arith)) (q 0 0 (omega arith)) split in
    let rest = words_same xs ys r s (omega arith) (λ k d h. p (suc k) d (omega arith)) (λ k d h. q (suc k) d (omega arith)) first.1 in
    (ap (λ (z : ℕ). z ∷ xs) first.0 ∙ ap (λ (zs : List ℕ). y ∷ zs) rest.0, rest.1)

-- one head
pub head_same : (land : Land) (bytes : List ℕ) (p n q m : ℕ) (r s : List ℕ) → HasHead land bytes p n r → HasHead land bytes q m s → (p ≡ q) × (n ≡ m) × (r ≡ s)
head_same land bytes p n q m r s a b =
    let towers = big_bytes 4 (length land.graph.places) in
    let edges = big_bytes 4 (length land.graph.edges) in
    let e : magic ++ (big_bytes 4 p ++ (towers ++ (edges ++ (big_bytes 4 n ++ r)))) ≡ magic ++ (big_bytes 4 q ++ (towers ++ (edges ++ (big_bytes 4 m ++ s)))) = sym a.bytes_are ∙ b.bytes_are in
    let one = append_same magic magic (big_bytes 4 p ++ (towers ++ (edges ++ (big_bytes 4 n ++ r)))) (big_bytes 4 q ++ (towers ++ (edges ++ (big_bytes 4 m ++ s)))) refl e in
    let two = number_same 4 p q (towers ++ (edges ++ (big_bytes 4 n ++ r))) (towers ++ (edges ++ (big_bytes 4 m ++ s))) a.word b.word one.1 in
    let three = append_same towers towers (edges ++ (big_bytes 4 n ++ r)) (edges ++ (big_bytes 4 m ++ s)) refl two.1 in
    let four = append_same edges edges (big_bytes 4 n ++ r) (big_bytes 4 m ++ s) refl three.1 in
    let small : n < 256 ^ 4 = omega (arith, a.few) in
    let small_too : m < 256 ^ 4 = omega (arith, b.few) in
    let five = number_same 4 n m r s small small_too four.1 in
    (two.0, five.0, five.1)

-- one list of limits
pub limits_same : (land : Land) (bytes : List ℕ) (p n q m : ℕ) (one two r s : List ℕ) → HasLimits land bytes p n one r → HasLimits land bytes q m two s → (p ≡ q) × (n ≡ m) × (one ≡ two) × (r ≡ s)
limits_same land bytes p n q m one two r s a b =
    let head = head_same land bytes p n q m (words one ++ r) (words two ++ s) a.head b.head in
    let limits = words_same one two r s (a.long ∙ sym b.long) a.each b.each head.2 in
    (head.0, head.1, limits.0, limits.1)

pub one_stored : (land : Land) (one other : Preparation) (bytes : List ℕ) → IsGraph land.graph → IsStored land one bytes → IsStored land other bytes → one ≡ other
one_stored land one other bytes graph a b =
    let same = limits_same land bytes one.profile (length one.landmarks) other.profile (length other.landmarks) one.snapshot other.snapshot _ _ a.1.landmarks.limits b.1.landmarks.limits in
    let p = (stored_true land one bytes graph a).is_prep in
    let q = (stored_true land other bytes graph b).is_prep in
    let here : IsPrepOf (roads_at land one.profile one.snapshot) (length one.landmarks) other =
    subst (λ (n : ℕ). IsPrepOf (roads_at land one.profile one.snapshot) n other) (sym same.1)
    (subst (λ (s : List ℕ). IsPrepOf (roads_at land one.profile s) (length other.landmarks) other) (sym same.2)
    (subst (λ (k : ℕ). IsPrepOf (roads_at land k other.snapshot) (length other.landmarks) other) (sym same.0) q)) in
    one_preparation (roads_at land one.profile one.snapshot) (length one.landmarks) one other p here same.0 same.2
