-- Numbers in four bytes each, and faults among them.
use Rattle.std.specs.Prelude.{slice_get}
use Rattle.std.proofs.Common.{◌≡◌, ℕ, ◌+◌, ◌*◌, ◌<◌, ◌≤◌, ◌^◌, Some, List, [], ◌∷◌, ◌++◌, length, take, refl, sym, ap, ◌∙◌, inl, inr, append_assoc, arith}
use Rattle.std.proofs.lemmas.List.{length-append, append-nil, take_more, get_or-take, length-take}
use Rattle.std.proofs.lemmas.Option.{slice_get_within, slice_get-get_or, get_or_from_slice_get}
use Rattle.std.proofs.Math.Seq.{take-append_seam}
use Rattle.byteorder.specs.Endian.{big_bytes}
use Rattle.prep_store.specs.declared.fault.PrepFault.{PrepFault}
use Rattle.prep_store.specs.declared.fault.PrepFault.TheVariants as faults
use Rattle.prep_store.specs.Stores.{magic, words}
use Rattle.prep_store.specs.FirstFaults.{IsCut, IsNoStore, FailsByRule}
use Rattle.prep_store.specs.Readings.{Place, Takes, Fails}
use Rattle.prep_store.proofs.Telling.{taken_then, fails_behind, fails_at}

pub no_store : (buf after bytes : List ℕ) → length buf ≡ 8 → (buf ≡ magic → ⊥) → bytes ≡ buf ++ after → IsNoStore bytes faults.Magic
no_store buf after bytes long other e = record {
  whole = omega (arith, long, ap (λ (xs : List ℕ). length xs) e, length-append buf after);
  other = λ rest is.
      let front : buf ≡ take 8 bytes = sym (ap (take 8) e ∙ (ap (λ (n : ℕ). take n (buf ++ after)) (sym long) ∙ take-append_seam buf after)) in
      other (front ∙ (ap (take 8) is ∙ take-append_seam magic rest));
  is = refl;
}

pub words_push : (xs : List ℕ) (x : ℕ) → words (xs ++ x ∷ []) ≡ words xs ++ big_bytes 4 x
words_push [] x = append-nil (big_bytes 4 x)
words_push (y ∷ xs) x = ap (λ (bs : List ℕ). big_bytes 4 y ++ bs) (words_push xs x) ∙ sym (append_assoc (big_bytes 4 y) (words xs) (big_bytes 4 x))

pub length-words : (xs : List ℕ) → length (words xs) ≡ 4 * length xs
length-words [] = refl
length-words (x ∷ xs) = let rest = length-words xs in omega (arith, rest)

-- a number that is cut among others
pub word_cut : {a b c : Place} {fault : PrepFault} (size : ℕ) (xs : List ℕ) → Takes a b (words xs) → 4 * length xs + 4 ≤ size → Fails (IsCut 4) b c fault → Fails (IsCut size) a c fault
word_cut size xs taken fits cut = fails_behind taken cut (λ total rest after e f. record {
  short = omega (arith, f.short, fits, length-words xs, ap (λ (bs : List ℕ). length bs) e, length-append (words xs) after);
  is = f.is;
})

-- a landmark that is cut, and one that is another, behind those that are right
module _ (Rule : ℕ → ℕ → Type 0) (count : ℕ) (right : List ℕ) (fewer : length right < count) (by_rule : (place node : ℕ) → slice_get right place ≡ Some node → Rule place node) where
  pub landmark_cut : {a b c : Place} {fault : PrepFault} → Takes a b (words right) → Fails (IsCut 4) b c fault → Fails (FailsByRule Rule count) a c fault
  landmark_cut taken cut = fails_behind taken cut (λ total rest after e f. record { right = right; after = after; bytes = e; fewer = fewer; by_rule = by_rule; fails = inl f })

  pub landmark_other : {a b c : Place} (place node : ℕ) → length right ≡ place → Takes a b (words right) → Takes b c (big_bytes 4 node) → node < 2 ^ 32 → (Rule place node → ⊥) → Fails (FailsByRule Rule count) a c (faults.Landmarks place)
  landmark_other place node long taken has word other = fails_at (faults.Landmarks place) (taken_then taken has) refl (λ total rest after e. record {
    right = right;
    after = big_bytes 4 node ++ after;
    bytes = e ∙ append_assoc (words right) (big_bytes 4 node) after;
    fewer = fewer;
    by_rule = by_rule;
    fails = inr (node, word, λ r. other (rw (← long) r), (after, refl, ap faults.Landmarks (sym long)));
  })

-- one more of a list
pub take_next : (xs : List ℕ) (k n : ℕ) → slice_get xs k ≡ Some n → (take (k + 1) xs ≡ take k xs ++ n ∷ []) × (k < length xs)
take_next xs k n e =
    let within = slice_get_within xs k n e in
    (take_more xs k 0 within ∙ ap (λ (m : ℕ). take k xs ++ m ∷ []) (get_or_from_slice_get xs k n 0 e), within)

pub get_of_take : (xs : List ℕ) (k i n : ℕ) → slice_get (take k xs) i ≡ Some n → slice_get xs i ≡ Some n
get_of_take xs k i n e =
    let within = slice_get_within (take k xs) i n e in
    let i_less : (i < k) × (i < length xs) = (omega (arith, length-take k xs), omega (arith, length-take k xs)) in
    slice_get-get_or xs i 0 i_less.1 ∙ ap Some (sym (get_or-take k xs i 0 i_less.0) ∙ get_or_from_slice_get (take k xs) i n 0 e)

-- the same rule by other words
pub rule_as : (Rule Other : ℕ → ℕ → Type 0) → ((place node : ℕ) → Rule place node → Other place node) → ((place node : ℕ) → Other place node → Rule place node) → {count total : ℕ} {rest : List ℕ} {fault : PrepFault} →
    FailsByRule Rule count total rest fault → FailsByRule Other count total rest fault
rule_as Rule Other to from f = record {
  right = f.right;
  after = f.after;
  bytes = f.bytes;
  fewer = f.fewer;
  by_rule = λ place node e. to place node (f.by_rule place node e);
  fails = elim f.fails [
    | inl cut ↦ inl cut
    | inr other ↦ inr (other.0, other.1, λ o. other.2 (from (length f.right) other.0 o), other.3)
  ];
}
