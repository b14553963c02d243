-- The bytes of the number that bytes are.
use Rattle.std.proofs.Common.{◌≡◌, ℕ, zero, suc, ◌+◌, ◌-◌, ◌≤◌, List, [], ◌∷◌, ◌++◌, length, take, drop, sym, ap, ◌∙◌, arith}
use Rattle.std.proofs.Math.Seq.{take-append-add}
use Rattle.std.proofs.lemmas.List.{length-take-le, length-drop, take_all, take-append-drop, take-append-le}
use Rattle.std.proofs.lemmas.Nat.{be_bytes_2, be_bytes_4, be_bytes_8}
use Rattle.std.specs.Int.{w32, w64, from_be_bytes}
use borrow.Rule.Slice.PartMut.{mid_of, put_mid, post_of, same_len_mid}
use Rattle.byteorder.specs.Endian.{big_number, big_bytes}
use Rattle.byteorder.specs.Numbers.{big_from-take}
use Rattle.prep_store.specs.Steps.{IsEachByte}
use Rattle.prep_store.specs.Readings.{Place, Takes}
use Rattle.prep_store.proofs.Telling.{taken_as}

-- so many bytes are those of the number that they are
abbrev pub AreOfNumber : ℕ → Type 0
AreOfNumber n = (xs : List ℕ) → length xs ≡ n → IsEachByte xs → big_bytes n (big_number n xs) ≡ xs

pub of_two : AreOfNumber 2
of_two xs long small = be_bytes_2 xs (big_number 2 xs) long small (omega arith)

pub of_four : AreOfNumber 4
of_four xs long small = be_bytes_4 xs (big_number 4 xs) long small (omega arith)

small_take : (n : ℕ) (xs : List ℕ) → IsEachByte xs → IsEachByte (take n xs)
small_take zero xs small k = omega arith
small_take (suc n) [] small k = omega arith
small_take (suc n) (x ∷ xs) small zero = small 0
small_take (suc n) (x ∷ xs) small (suc k) = small_take n xs (λ i. small (suc i)) k

small_drop : (n : ℕ) (xs : List ℕ) → IsEachByte xs → IsEachByte (drop n xs)
small_drop zero xs small k = small k
small_drop (suc n) [] small k = omega arith
small_drop (suc n) (x ∷ xs) small k = small_drop n xs (λ i. small (suc i)) k

-- a number was taken
pub four_taken : {a b : Place} (xs : List ℕ) (x : ℕ) → x ≡ from_be_bytes w32 xs → length xs ≡ 4 → IsEachByte xs → Takes a b xs → Takes a b (big_bytes 4 x)
four_taken xs x is long small taken = taken_as (sym (be_bytes_4 xs x long small is)) taken

pub eight_taken : {a b : Place} (xs : List ℕ) (x : ℕ) → x ≡ from_be_bytes w64 xs → length xs ≡ 8 → IsEachByte xs → Takes a b xs → Takes a b (big_bytes 8 x)
eight_taken xs x is long small taken = taken_as (sym (be_bytes_8 xs x long small is)) taken

-- two were
pub two_taken : {a b : Place} (n m : ℕ) (xs : List ℕ) (x y : ℕ) → AreOfNumber n → AreOfNumber m → x ≡ big_number n xs → y ≡ big_number m (take m (drop n xs)) → length xs ≡ n + m → IsEachByte xs → Takes a b xs → Takes a b (big_bytes n x ++ big_bytes m y)
two_taken n m xs x y of of' is is' long small taken =
    let front : big_bytes n x ≡ take n xs = ap (big_bytes n) (is ∙ sym (big_from-take 0 n n xs (omega arith))) ∙ of (take n xs) (length-take-le n xs (omega arith)) (small_take n xs small) in
    let left : length (drop n xs) ≡ m = length-drop n xs ∙ omega arith in
    let all : take m (drop n xs) ≡ drop n xs = take_all m (drop n xs) (omega arith) in
    let back : big_bytes m y ≡ drop n xs = ap (big_bytes m) (is' ∙ ap (big_number m) all) ∙ of' (drop n xs) left (small_drop n xs small) in
    taken_as (sym (ap (λ (ys : List ℕ). ys ++ big_bytes m y) front ∙ (ap (λ (ys : List ℕ). take n xs ++ ys) back ∙ take-append-drop n xs))) taken

-- a part of a buffer that was written behind a front
pub written_behind : (done count k : ℕ) (buf part : List ℕ) → done ≤ length buf → count ≤ length part → take (done + count) (put_mid done k buf part) ≡ take done buf ++ take count part
written_behind done count k buf part d c =
    let long : length (take done buf) ≡ done = length-take-le done buf d in
    ap (λ (n : ℕ). take (n + count) (put_mid done k buf part)) (sym long)
    ∙ (take-append-add (take done buf) (part ++ post_of done k buf) count ∙ ap (λ (ys : List ℕ). take done buf ++ ys) (take-append-le count part (post_of done k buf) c))

-- the buffer stays as long
pub part_kept : (done : ℕ) (buf part : List ℕ) → done ≤ length buf → length part ≡ length (mid_of done (length buf - done) buf) → (length part ≡ length buf - done) × (length (put_mid done (length buf - done) buf part) ≡ length buf)
part_kept done buf part d e =
    let left : length (drop done buf) ≡ length buf - done = length-drop done buf in
    let mid : length (mid_of done (length buf - done) buf) ≡ length buf - done = length-take-le (length buf - done) (drop done buf) (omega arith) in
    (e ∙ mid, same_len_mid done (length buf - done) buf part e)
