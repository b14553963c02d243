-- Bytes that are stored for a preparation have no fault before their lists.
use Rattle.std.specs.Prelude.{slice_get}
use Rattle.std.proofs.Common.{◌≡◌, ℕ, ◌*◌, ◌<◌, ◌^◌, Some, List, [], ◌∷◌, ◌++◌, length, suc, refl, sym, subst, ap, ◌∙◌, inl, inr, append_assoc, arith}
use Rattle.std.proofs.lemmas.List.{length-append}
use Rattle.byteorder.specs.Endian.{big_bytes}
use Rattle.base_graph.specs.Graphs.{IsGraph}
use Rattle.gh_base.specs.Networks.{Network}
use Rattle.landmark_prep.specs.Preparations.{IsPlacing}
use Rattle.landmark_prep.proofs.Unique.{one_placing}
use Rattle.traffic_core.specs.Lands.{Land}
use Rattle.prep_store.specs.declared.fault.PrepFault.{PrepFault}
use Rattle.prep_store.specs.Stores.{magic, words, HasHead, HasLimits, HasLandmarks, roads_at}
use Rattle.prep_store.specs.FirstFaults.{FailsInHead, FailsBehindMagic, FailsBehindProfile, FailsInCount, FailsAtLimits, FailsAtLandmarks, FailsAtGrain, FailsByRule, IsRuleAt}
use Rattle.prep_store.proofs.Faulting.{length-words}
use Rattle.store_laws.proofs.Parsing.{append_same, number_same, head_same, limits_same}

module _ (land : Land) (graph : IsGraph land.graph) (bytes : List ℕ) (p n : ℕ) (r : List ℕ) (h : HasHead land bytes p n r) (total : ℕ) (fault : PrepFault) where
  abbrev towers : List ℕ
  towers = big_bytes 4 (length land.graph.places)

  abbrev edges : List ℕ
  edges = big_bytes 4 (length land.graph.edges)

  in_count : FailsInCount total (big_bytes 4 n ++ r) fault → ⊥
  in_count (inl cut) = absurd (omega (arith, cut.short))
  in_count (inr bad) =
      let few : n < 256 ^ 4 = omega (arith, h.few) in
      let same = number_same 4 n bad.count r bad.after few bad.word bad.bytes in
      elim bad.bad [
        | inl z ↦ absurd (omega (arith, z, same.0, h.some))
        | inr o ↦ absurd (omega (arith, o, same.0, h.few))
      ]

  behind_profile : FailsBehindProfile land total (towers ++ (edges ++ (big_bytes 4 n ++ r))) fault → ⊥
  behind_profile (inl (inl cut)) = absurd (omega (arith, cut.short))
  behind_profile (inl (inr o)) =
      let few : length land.graph.places < 256 ^ 4 = omega (arith, graph.few_places) in
      let few_edges : length land.graph.edges < 256 ^ 4 = omega (arith, graph.few_edges) in
      let one = number_same 4 (length land.graph.places) o.towers (edges ++ (big_bytes 4 n ++ r)) (big_bytes 4 o.edges ++ o.after) few o.word o.bytes in
      let two = number_same 4 (length land.graph.edges) o.edges (big_bytes 4 n ++ r) o.after few_edges o.word_too one.1 in
      o.other (sym one.0) (sym two.0)
  behind_profile (inr f) =
      let same = append_same (towers ++ edges) (towers ++ edges) (big_bytes 4 n ++ r) f.0 refl f.1 in
      in_count (subst (λ (x : List ℕ). FailsInCount total x fault) (sym same.1) f.2)

  behind_magic : FailsBehindMagic land total (big_bytes 4 p ++ (towers ++ (edges ++ (big_bytes 4 n ++ r)))) fault → ⊥
  behind_magic (inl (inl cut)) = absurd (omega (arith, cut.short))
  behind_magic (inl (inr bad)) =
      let same = number_same 4 p bad.profile (towers ++ (edges ++ (big_bytes 4 n ++ r))) bad.after h.word bad.word bad.bytes in
      absurd (omega (arith, same.0, h.there, bad.none))
  behind_magic (inr f) =
      let same = number_same 4 p f.0 (towers ++ (edges ++ (big_bytes 4 n ++ r))) f.3.0 h.word f.2 f.3.1 in
      behind_profile (subst (λ (x : List ℕ). FailsBehindProfile land total x fault) (sym same.1) f.3.2)

  pub no_head_fault : FailsInHead land total bytes fault → ⊥
  no_head_fault (inl (inl cut)) = absurd (omega (arith, cut.short, ap (λ (xs : List ℕ). length xs) h.bytes_are))
  no_head_fault (inl (inr bad)) = bad.other (big_bytes 4 p ++ (towers ++ (edges ++ (big_bytes 4 n ++ r)))) h.bytes_are
  no_head_fault (inr f) =
      let same = append_same magic magic (big_bytes 4 p ++ (towers ++ (edges ++ (big_bytes 4 n ++ r)))) f.0 refl (sym h.bytes_are ∙ f.1) in
      behind_magic (subst (λ (x : List ℕ). FailsBehindMagic land total x fault) (sym same.1) f.2)

pub no_limits_fault : (land : Land) (bytes : List ℕ) (p n : ℕ) (snapshot r : List ℕ) (fault : PrepFault) → HasLimits land bytes p n snapshot r → FailsAtLimits land bytes fault → ⊥
no_limits_fault land bytes p n snapshot r fault has (q, m, rest, head, cut) =
    let same = head_same land bytes p n q m (words snapshot ++ r) rest has.head head in
    absurd (omega (arith, cut.short, ap (λ (xs : List ℕ). length xs) same.2, length-append (words snapshot) r, length-words snapshot, has.long))

-- what stands by a rule is the front of what the rule gives
front_of : (xs ys : List ℕ) → length xs < length ys → ((place node : ℕ) → slice_get xs place ≡ Some node → slice_get ys place ≡ Some node) → (y : ℕ) × (rest : List ℕ) × (ys ≡ xs ++ y ∷ rest)
front_of [] [] l f = absurd (omega arith)
front_of [] (y ∷ ys) l f = (y, ys, refl)
front_of (x ∷ xs) [] l f = absurd (omega arith)
front_of (x ∷ xs) (y ∷ ys) l f =
    let here : Some y ≡ Some x = f 0 x refl in
    let same : y ≡ x = cc in
    let rest = front_of xs ys (omega arith) (λ place node e. f (suc place) node e) in
    (rest.0, rest.1, ap (λ (z : ℕ). z ∷ ys) same ∙ ap (λ (zs : List ℕ). x ∷ zs) rest.2)

words_append : (xs ys : List ℕ) → words (xs ++ ys) ≡ words xs ++ words ys
words_append [] ys = refl
words_append (x ∷ xs) ys = ap (λ (bs : List ℕ). big_bytes 4 x ++ bs) (words_append xs ys) ∙ sym (append_assoc (big_bytes 4 x) (words xs) (words ys))

get_behind : (xs ys : List ℕ) (y : ℕ) → slice_get (xs ++ y ∷ ys) (length xs) ≡ Some y
get_behind [] ys y = refl
get_behind (x ∷ xs) ys y = get_behind xs ys y

by_rule : (network : Network) (landmarks : List ℕ) (grain total : ℕ) (r : List ℕ) (fault : PrepFault) → IsPlacing network (length landmarks) landmarks grain → ((place node : ℕ) → slice_get landmarks place ≡ Some node → node < 2 ^ 32) →
    FailsByRule (IsRuleAt network (length landmarks)) (length landmarks) total (words landmarks ++ r) fault → ⊥
by_rule network landmarks grain total r fault placing small f =
    let right = f.right in
    let given : (place node : ℕ) → slice_get right place ≡ Some node → slice_get landmarks place ≡ Some node = λ place node e.
    let rule = f.by_rule place node e in
    subst (λ (xs : List ℕ). slice_get xs place ≡ Some node) (one_placing network (length landmarks) rule.0 landmarks rule.1 grain rule.2 placing).0 rule.3 in
    let split = front_of right landmarks f.fewer given in
    let node = split.0 in
    let there : slice_get landmarks (length right) ≡ Some node = ap (λ (xs : List ℕ). slice_get xs (length right)) split.2 ∙ get_behind right split.1 node in
    let text : words landmarks ++ r ≡ words right ++ (big_bytes 4 node ++ (words split.1 ++ r)) =
    ap (λ (xs : List ℕ). words xs ++ r) split.2 ∙ (ap (λ (bs : List ℕ). bs ++ r) (words_append right (node ∷ split.1))
    ∙ (append_assoc (words right) (big_bytes 4 node ++ words split.1) r ∙ ap (λ (bs : List ℕ). words right ++ bs) (append_assoc (big_bytes 4 node) (words split.1) r))) in
    let same = append_same (words right) (words right) (big_bytes 4 node ++ (words split.1 ++ r)) f.after refl (sym text ∙ f.bytes) in
    elim f.fails [
      | inl cut ↦ absurd (omega (arith, cut.short, ap (λ (xs : List ℕ). length xs) same.1))
      | inr o ↦
          let number = number_same 4 node o.0 (words split.1 ++ r) o.3.0 (small (length right) node there) o.1 (same.1 ∙ o.3.1) in
          o.2 (landmarks, grain, placing, subst (λ (k : ℕ). slice_get landmarks (length right) ≡ Some k) number.0 there)
    ]

-- what is placed at one place
pub same_placing : (land : Land) (bytes : List ℕ) (p q : ℕ) (one two landmarks others : List ℕ) (grain g : ℕ) (r s : List ℕ) → HasLandmarks land bytes p one landmarks grain r → HasLandmarks land bytes q two others g s → (p ≡ q) × (one ≡ two) × (landmarks ≡ others) × (grain ≡ g) × (r ≡ s)
same_placing land bytes p q one two landmarks others grain g r s a b =
    let same = limits_same land bytes p (length landmarks) q (length others) one two (words landmarks ++ r) (words others ++ s) a.limits b.limits in
    let network = roads_at land p one in
    let here : IsPlacing network (length landmarks) others g =
    subst (λ (n : ℕ). IsPlacing network n others g) (sym same.1)
    (subst (λ (xs : List ℕ). IsPlacing (roads_at land p xs) (length others) others g) (sym same.2)
    (subst (λ (k : ℕ). IsPlacing (roads_at land k two) (length others) others g) (sym same.0) b.placing)) in
    let placed = one_placing network (length landmarks) landmarks others grain g a.placing here in
    let rest = append_same (words landmarks) (words others) r s (length-words landmarks ∙ (ap (λ (n : ℕ). 4 * n) same.1 ∙ sym (length-words others))) same.3 in
    (same.0, same.2, placed.0, placed.1, rest.1)

pub no_grain_fault : (land : Land) (bytes : List ℕ) (p : ℕ) (snapshot landmarks : List ℕ) (grain : ℕ) (r : List ℕ) (fault : PrepFault) → HasLandmarks land bytes p snapshot landmarks grain (big_bytes 8 grain ++ r) → FailsAtGrain land bytes fault → ⊥
no_grain_fault land bytes p snapshot landmarks grain r fault has (q, g, two, others, rest, other, f) =
    let same = same_placing land bytes p q snapshot two landmarks others grain g (big_bytes 8 grain ++ r) rest has other in
    let small : grain < 256 ^ 8 = omega (arith, has.placing.grain_is) in
    elim f [
      | inl cut ↦ absurd (omega (arith, cut.short, ap (λ (xs : List ℕ). length xs) same.4))
      | inr o ↦
          let number = number_same 8 grain o.0 r o.3.0 small o.1 (same.4 ∙ o.3.1) in
          o.2 (sym number.0 ∙ same.3)
    ]

pub no_landmarks_fault : (land : Land) (bytes : List ℕ) (p : ℕ) (snapshot landmarks : List ℕ) (grain : ℕ) (r : List ℕ) (fault : PrepFault) → ((place node : ℕ) → slice_get landmarks place ≡ Some node → node < 2 ^ 32) → HasLandmarks land bytes p snapshot landmarks grain r → FailsAtLandmarks land bytes fault → ⊥
no_landmarks_fault land bytes p snapshot landmarks grain r fault small has (q, m, two, rest, limits, f) =
    let same = limits_same land bytes p (length landmarks) q m snapshot two (words landmarks ++ r) rest has.limits limits in
    let network = roads_at land p snapshot in
    let here : FailsByRule (IsRuleAt network (length landmarks)) (length landmarks) (length bytes) (words landmarks ++ r) fault =
    subst (λ (n : ℕ). FailsByRule (IsRuleAt network n) n (length bytes) (words landmarks ++ r) fault) (sym same.1)
    (subst (λ (xs : List ℕ). FailsByRule (IsRuleAt network m) m (length bytes) xs fault) (sym same.3)
    (subst (λ (xs : List ℕ). FailsByRule (IsRuleAt (roads_at land p xs) m) m (length bytes) rest fault) (sym same.2)
    (subst (λ (k : ℕ). FailsByRule (IsRuleAt (roads_at land k two) m) m (length bytes) rest fault) (sym same.0) f))) in
    by_rule network landmarks grain (length bytes) r fault has.placing small here
