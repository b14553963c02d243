-- A landmark has one listing, and texts are given one behind another.
use Rattle.std.specs.Prelude.{slice_get}
use Rattle.std.proofs.Common.{◌≡◌, ◌<◌, ◌≤◌, ◌⊎◌, ℕ, Option, Some, List, [], ◌∷◌, ◌++◌, length, drop, ◌+◌, refl, sym, subst, ap, ◌∙◌, append_assoc, append-nil, inl, inr, arith}
use Rattle.std.proofs.lemmas.List.{drop_more, drop_all}
use Rattle.std.proofs.lemmas.Option.{slice_get_within, get_or_from_slice_get}
use Rattle.std.specs.Io.KnownBytes.{Appends}
use Rattle.std.proofs.KnownBytes.{Appends-trans}
use Rattle.gh_base.specs.Networks.{Network}
use Rattle.gh_base.specs.Causes.{AppendsFront}
use Rattle.plain_map.proofs.Sent.{sends_all, second_failed, front_wide}
use Rattle.landmark_prep.specs.Packing.{Labels}
use Rattle.landmark_prep.specs.Bounds.{labels_at}
use Rattle.prep_store.specs.declared.item.Item.{Item}
use Rattle.prep_store.specs.Stores.{Lists, list_text, lists_text}
use Rattle.prep_store.specs.Ordering.{IsListText, IsBoth, IsPairText, AreTexts, IsGiven, IsCutOff, AreGivenSoFar}
use Rattle.prep_store.specs.Writing.{IsNext, AreNext, IsListing, AreAllListings}
use Rattle.prep_store.proofs.Candidates.{item_one}

-- there is one next item
next_one : (network : Network) (grain : ℕ) (labels : ℕ → Option ℕ) (listed : List Item) (a b : Item) → IsNext network grain labels listed a → IsNext network grain labels listed b → a ≡ b
next_one network grain labels listed a b n m =
    let o = both a.label a.node.0 b.label b.node.0 (n.least b m.candidate) (m.least a n.candidate) in
    item_one a b o.0 o.1
  where
    both : (l k m j : ℕ) → (l < m) ⊎ ((l ≡ m) × (k ≤ j)) → (m < l) ⊎ ((m ≡ l) × (j ≤ k)) → (k ≡ j) × (l ≡ m)
    both l k m j (inl a) (inl b) = absurd (omega arith)
    both l k m j (inl a) (inr b) = absurd (omega (arith, b.0))
    both l k m j (inr a) (inl b) = absurd (omega (arith, a.0))
    both l k m j (inr a) (inr b) = (omega (arith, a.1, b.1), a.0)

next_all_one : (network : Network) (grain : ℕ) (labels : ℕ → Option ℕ) (listed xs ys : List Item) → AreNext network grain labels listed xs → AreNext network grain labels listed ys → xs ≡ ys
next_all_one network grain labels listed [] [] n m = refl
next_all_one network grain labels listed [] (y ∷ ys) n m = absurd (n y m.0.candidate)
next_all_one network grain labels listed (x ∷ xs) [] n m = absurd (m x n.0.candidate)
next_all_one network grain labels listed (x ∷ xs) (y ∷ ys) n m =
    let e = next_one network grain labels listed x y n.0 m.0 in
    let rest = next_all_one network grain labels (listed ++ y ∷ []) xs ys (subst (λ (i : Item). AreNext network grain labels (listed ++ i ∷ []) xs) e n.1) m.1 in
    cc

pub listing_one : (network : Network) (grain landmark : ℕ) (labels : ℕ → Option ℕ) (xs ys : List Item) → IsListing network grain landmark labels xs → IsListing network grain landmark labels ys → xs ≡ ys
listing_one network grain landmark labels [] ys n m = absurd n
listing_one network grain landmark labels (x ∷ xs) [] n m = absurd m
listing_one network grain landmark labels (x ∷ xs) (y ∷ ys) n m =
    let e = item_one x y (n.0 ∙ sym m.0) (n.1 ∙ sym m.1) in
    let rest = next_all_one network grain labels (y ∷ []) xs ys (subst (λ (i : Item). AreNext network grain labels (i ∷ []) xs) e n.2) m.2 in
    cc

-- a kind of text of which there is one
abbrev pub IsOne : (List ℕ → Type 0) → Type 0
IsOne IsSo = (a b : List ℕ) → IsSo a → IsSo b → a ≡ b

pub same_one : (text : List ℕ) → IsOne (λ t. t ≡ text)
same_one text a b x y = x ∙ sym y

pub list_one : (network : Network) (grain landmark : ℕ) (labels : ℕ → Option ℕ) → IsOne (IsListText network grain landmark labels)
list_one network grain landmark labels a b x y = x.2 ∙ (ap list_text (listing_one network grain landmark labels x.0 y.0 x.1 y.1) ∙ sym y.2)

both_one : (First Second : List ℕ → Type 0) → IsOne First → IsOne Second → IsOne (IsBoth First Second)
both_one First Second f s a b x y = x.4 ∙ (ap (λ (t : List ℕ). t ++ x.1) (f x.0 y.0 x.2 y.2) ∙ (ap (λ (t : List ℕ). y.0 ++ t) (s x.1 y.1 x.3 y.3) ∙ sym y.4))

-- one text behind another is given, and where one of them fails a front of both is
pub both_given : {First Second : List ℕ → Type 0} {old mid new : Option (List ℕ)} → IsGiven First old mid → IsGiven Second mid new → IsGiven (IsBoth First Second) old new
both_given {First} {Second} {old} {mid} {new} a b = record { text = a.text ++ b.text; so = (a.text, b.text, a.so, b.so, refl); given = Appends-trans old mid new a.text b.text a.given b.given }

pub first_cut : {First Second : List ℕ → Type 0} {old new : Option (List ℕ)} → IsCutOff First old new → IsCutOff (IsBoth First Second) old new
first_cut {First} {Second} {old} {new} c = record { front = λ text s. subst (AppendsFront old new) (sym s.4) (front_wide old new s.0 s.1 (c.front s.0 s.2)) }

pub second_cut : {First Second : List ℕ → Type 0} {old mid new : Option (List ℕ)} → IsOne First → IsGiven First old mid → IsCutOff Second mid new → IsCutOff (IsBoth First Second) old new
second_cut {First} {Second} {old} {mid} {new} one a c = record {
  front = λ text s.
      second_failed old mid new a.text [] s.1 text (sends_all old mid a.text a.given) (c.front s.1 s.3) (ap (λ (t : List ℕ). t ++ s.1) (one a.text s.0 a.so s.2) ∙ sym s.4);
}

module _ (network back : Network) (grain : ℕ) (landmarks : List ℕ) (table : List Labels) where
  abbrev pub AreSoFar : ℕ → List ℕ → Type 0
  AreSoFar place front = AreGivenSoFar network back grain landmarks table (drop place landmarks) (drop place table) front

  abbrev pub IsPairAt : ℕ → ℕ → List ℕ → Type 0
  IsPairAt place landmark = IsPairText network back grain landmark (labels_at table place)

  -- before the first
  pub given_none : AreGivenSoFar network back grain landmarks table landmarks table []
  given_none = record { more = λ rest a. a; only = λ text a. ([], text, refl, a, refl) }

  left : (place : ℕ) (landmark : ℕ) (front : List ℕ) → slice_get landmarks place ≡ Some landmark → length table ≡ length landmarks → AreSoFar place front →
      AreGivenSoFar network back grain landmarks table (landmark ∷ drop (place + 1) landmarks) (labels_at table place ∷ drop (place + 1) table) front
  left place landmark front at long s =
      let within = slice_get_within landmarks place landmark at in
      let here : drop place landmarks ≡ landmark ∷ drop (place + 1) landmarks = drop_more landmarks place 0 within ∙ ap (λ (n : ℕ). n ∷ drop (place + 1) landmarks) (get_or_from_slice_get landmarks place landmark 0 at) in
      subst (λ (ls : List Labels). AreGivenSoFar network back grain landmarks table (landmark ∷ drop (place + 1) landmarks) ls front) (drop_more table place (record { from = []; to = [] }) (omega (arith, within, long)))
      (subst (λ (ns : List ℕ). AreGivenSoFar network back grain landmarks table ns (drop place table) front) here s)

  -- after one more
  pub given_next : (place landmark : ℕ) (front pair : List ℕ) → slice_get landmarks place ≡ Some landmark → length table ≡ length landmarks → AreSoFar place front → IsPairAt place landmark pair → AreSoFar (place + 1) (front ++ pair)
  given_next place landmark front pair at long s p = let t = left place landmark front at long s in record {
    more = λ rest a. subst (AreTexts network back grain landmarks table) (sym (append_assoc front pair rest)) (t.more (pair ++ rest) (pair, rest, p, a, refl));
    only = λ text a.
        let r = t.only text a in
        let q = r.3 in
        let one = both_one _ _ (list_one network grain landmark _) (list_one back grain landmark _) in
        (front ++ pair, q.1, refl, q.3, r.4 ∙ (ap (λ (x : List ℕ). x ++ r.1) r.2 ∙ (ap (λ (x : List ℕ). front ++ x) (q.4 ∙ ap (λ (x : List ℕ). x ++ q.1) (one q.0 pair q.2 p)) ∙ sym (append_assoc front pair q.1))));
  }

  -- the lists of one fail: what was given is a front of all
  pub pair_cut : (place landmark : ℕ) (front : List ℕ) {old mid new : Option (List ℕ)} → slice_get landmarks place ≡ Some landmark → length table ≡ length landmarks → AreSoFar place front → Appends old mid front → IsCutOff (IsPairAt place landmark) mid new →
      IsCutOff (AreTexts network back grain landmarks table) old new
  pair_cut place landmark front {old} {mid} {new} at long s given c =
      let both : IsCutOff (IsBoth (λ t. t ≡ front) (IsBoth (IsPairAt place landmark) (AreTexts network back grain (drop (place + 1) landmarks) (drop (place + 1) table)))) old new =
      second_cut (same_one front) (record { text = front; so = refl; given = given }) (first_cut c) in
      record { front = λ text a. both.front text ((left place landmark front at long s).only text a) }

  -- after the last
  pub all_given : (place : ℕ) (front : List ℕ) → length landmarks ≤ place → length table ≡ length landmarks → AreSoFar place front → AreTexts network back grain landmarks table front
  all_given place front h long s =
      let t = subst (λ (ls : List Labels). AreGivenSoFar network back grain landmarks table [] ls front) (drop_all place table (omega arith))
      (subst (λ (ns : List ℕ). AreGivenSoFar network back grain landmarks table ns (drop place table) front) (drop_all place landmarks h) s) in
      subst (AreTexts network back grain landmarks table) (append-nil front) (t.more [] refl)

-- the texts of lists, and the lists of a text
pub texts_of : (network back : Network) (grain : ℕ) (landmarks : List ℕ) (table : List Labels) (lists : List Lists) → AreAllListings network back grain landmarks table lists → AreTexts network back grain landmarks table (lists_text lists)
texts_of network back grain [] [] [] a = refl
texts_of network back grain [] [] (l ∷ lists) a = absurd a
texts_of network back grain [] (t ∷ table) lists a = absurd a
texts_of network back grain (n ∷ landmarks) [] lists a = absurd a
texts_of network back grain (n ∷ landmarks) (t ∷ table) [] a = absurd a
texts_of network back grain (n ∷ landmarks) (t ∷ table) (l ∷ lists) a = (
  list_text l.from ++ list_text l.to,
  lists_text lists,
  (list_text l.from, list_text l.to, (l.from, a.0.from, refl), (l.to, a.0.to, refl), refl),
  texts_of network back grain landmarks table lists a.1,
  sym (append_assoc (list_text l.from) (list_text l.to) (lists_text lists)),
)

pub lists_of : (network back : Network) (grain : ℕ) (landmarks : List ℕ) (table : List Labels) (text : List ℕ) → AreTexts network back grain landmarks table text →
    (lists : List Lists) × AreAllListings network back grain landmarks table lists × (text ≡ lists_text lists)
lists_of network back grain [] [] text a = ([], tt, a)
lists_of network back grain [] (t ∷ table) text a = absurd a
lists_of network back grain (n ∷ landmarks) [] text a = absurd a
lists_of network back grain (n ∷ landmarks) (t ∷ table) text a =
    let rest = lists_of network back grain landmarks table a.1 a.3 in
    let p = a.2 in
    let l : Lists = record { from = p.2.0; to = p.3.0 } in
    let pair : a.0 ≡ list_text l.from ++ list_text l.to = p.4 ∙ (ap (λ (x : List ℕ). x ++ p.1) p.2.2 ∙ ap (λ (x : List ℕ). list_text l.from ++ x) p.3.2) in (
      l ∷ rest.0,
      (record { from = p.2.1; to = p.3.1 }, rest.1),
      a.4 ∙ (ap (λ (x : List ℕ). x ++ a.1) pair ∙ (ap (λ (x : List ℕ). (list_text l.from ++ list_text l.to) ++ x) rest.2 ∙ append_assoc (list_text l.from) (list_text l.to) (lists_text rest.0))),
    )
