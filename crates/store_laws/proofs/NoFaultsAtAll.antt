-- Bytes that are stored for a preparation have no fault.
use Rattle.std.specs.Prelude.{slice_get}
use Rattle.std.specs.List.{AllZip}
use Rattle.std.proofs.Common.{◌≡◌, ℕ, ◌<◌, ◌≤◌, ◌^◌, true, false, Some, List, [], ◌∷◌, ◌++◌, length, slice_index, zero, suc, refl, sym, subst, ap, ◌∙◌, inl, inr, append_assoc, arith}
use Rattle.std.proofs.lemmas.List.{append-nil}
use Rattle.byteorder.specs.Endian.{big_bytes}
use Rattle.base_graph.specs.Graphs.{IsGraph}
use Rattle.gh_base.specs.Networks.{Network, LeadsToNodes}
use Rattle.weighting.specs.declared.weight_view.Side.TheVariants.{Out, Back}
use Rattle.weighting.specs.Profiles.{profile_at}
use Rattle.weighting.specs.RoadFacts.{leads_to_nodes}
use Rattle.landmark_prep.specs.Preparations.{Preparation}
use Rattle.landmark_prep.proofs.Prepared.{landmark_within}
use Rattle.traffic_core.specs.Lands.{Land, rule_alone}
use Rattle.traffic_core.specs.History.{limit_in}
use Rattle.prep_store.specs.declared.fault.PrepFault.{PrepFault}
use Rattle.prep_store.specs.Stores.{words, head_text, list_text, Lists, lists_text, AreEvidence, HasLandmarks, roads_at, back_at, IsStored}
use Rattle.prep_store.specs.FirstFaults.{FailsInList, FailsInPair, FailsInLists, IsFirstFault}
use Rattle.store_laws.proofs.Parsing.{append_same}
use Rattle.store_laws.proofs.NoFaults.{no_head_fault, no_limits_fault, no_landmarks_fault, no_grain_fault, same_placing}
use Rattle.store_laws.proofs.NoListFaults.{list_same, no_list_fault}

lists_apart : (l : Lists) (rest : List Lists) (y : List ℕ) → lists_text (l ∷ rest) ++ y ≡ list_text l.from ++ (list_text l.to ++ (lists_text rest ++ y))
lists_apart l rest y =
    append_assoc (list_text l.from) (list_text l.to ++ lists_text rest) y ∙ ap (λ (bs : List ℕ). list_text l.from ++ bs) (append_assoc (list_text l.to) (lists_text rest) y)

module _ (network back : Network) (grain : ℕ) (leads : LeadsToNodes network) (leads_back : LeadsToNodes back) (as_many : back.nodes ≡ network.nodes) (few : network.nodes ≤ 4294967295) where
  few_back : back.nodes ≤ 4294967295
  few_back = omega (arith, as_many, few)

  pair_same : (landmark : ℕ) → landmark < network.nodes → (a b : Lists) → AreEvidence network back grain landmark a → AreEvidence network back grain landmark b → (x y : List ℕ) →
      list_text a.from ++ (list_text a.to ++ x) ≡ list_text b.from ++ (list_text b.to ++ y) → x ≡ y
  pair_same landmark there a b p q x y e =
      let first = list_same network grain landmark leads there few a.from b.from (list_text a.to ++ x) (list_text b.to ++ y) p.from.order q.from.order e in
      (list_same back grain landmark leads_back (omega (arith, as_many, there)) few_back a.to b.to x y p.to.order q.to.order first.1).1

  no_pair_fault : (landmark : ℕ) → landmark < network.nodes → (l : Lists) → AreEvidence network back grain landmark l → (z : List ℕ) (number total : ℕ) (fault : PrepFault) → FailsInPair network back grain landmark number total (list_text l.from ++ (list_text l.to ++ z)) fault → ⊥
  no_pair_fault landmark there l p z number total fault (inl f) = no_list_fault network grain landmark leads there few (record { landmark = number; back = false }) l.from (list_text l.to ++ z) total fault p.from f
  no_pair_fault landmark there l p z number total fault (inr (items, word, evidence, (after, e, f))) =
      let same = list_same network grain landmark leads there few l.from items (list_text l.to ++ z) after p.from.order evidence.order e in
      no_list_fault back grain landmark leads_back (omega (arith, as_many, there)) few_back (record { landmark = number; back = true }) l.to z total fault p.to
      (subst (λ (xs : List ℕ). FailsInList back grain landmark (record { landmark = number; back = true }) total xs fault) (sym same.1) f)

  abbrev AreZipped : List ℕ → List Lists → Type 0
  AreZipped landmarks lists = AllZip (AreEvidence network back grain) landmarks lists

  peel : (before landmarks : List ℕ) (right lists : List Lists) (landmark : ℕ) (later : List ℕ) → landmarks ≡ before ++ landmark ∷ later → ((k : ℕ) → k < length landmarks → slice_index landmarks k < network.nodes) → AreZipped before right → AreZipped landmarks lists →
      (after y : List ℕ) (number total : ℕ) (fault : PrepFault) → lists_text right ++ after ≡ lists_text lists ++ y → FailsInPair network back grain landmark number total after fault → ⊥
  peel before [] right lists landmark later split within p q after y number total fault e f = absurd (none before split)
    where
      none : (xs : List ℕ) → [] ≡ xs ++ landmark ∷ later → ⊥
      none [] s = absurd (cc)
      none (x ∷ xs) s = absurd (cc)
  peel before (l ∷ landmarks) right [] landmark later split within p q after y number total fault e f = absurd q
  peel [] (l ∷ landmarks) (a ∷ right) (k ∷ lists) landmark later split within p q after y number total fault e f = absurd p
  peel (b ∷ before) (l ∷ landmarks) [] (k ∷ lists) landmark later split within p q after y number total fault e f = absurd p
  peel [] (l ∷ landmarks) [] (k ∷ lists) landmark later split within p q after y number total fault e f =
      let same : l ≡ landmark = cc in
      no_pair_fault l (within 0 (omega arith)) k q.0 (lists_text lists ++ y) number total fault
      (subst (λ (xs : List ℕ). FailsInPair network back grain l number total xs fault) (e ∙ lists_apart k lists y) (subst (λ (m : ℕ). FailsInPair network back grain m number total after fault) (sym same) f))
  peel (b ∷ before) (l ∷ landmarks) (a ∷ right) (k ∷ lists) landmark later split within p q after y number total fault e f =
      let same : l ≡ b = cc in
      let rest : landmarks ≡ before ++ landmark ∷ later = cc in
      let text : list_text a.from ++ (list_text a.to ++ (lists_text right ++ after)) ≡ list_text k.from ++ (list_text k.to ++ (lists_text lists ++ y)) = sym (lists_apart a right after) ∙ (e ∙ lists_apart k lists y) in
      let inner = pair_same l (within 0 (omega arith)) a k (subst (λ (m : ℕ). AreEvidence network back grain m a) (sym same) p.0) q.0 (lists_text right ++ after) (lists_text lists ++ y) text in
      peel before landmarks right lists landmark later rest (λ i h. within (suc i) (omega arith)) p.1 q.1 after y number total fault inner f

  pub no_lists_fault : (landmarks : List ℕ) (lists : List Lists) → ((k : ℕ) → k < length landmarks → slice_index landmarks k < network.nodes) → AreZipped landmarks lists → (total : ℕ) (fault : PrepFault) → FailsInLists network back grain landmarks total (lists_text lists) fault → ⊥
  no_lists_fault landmarks lists within q total fault f =
      peel f.before landmarks f.right lists f.landmark f.later f.landmarks_are within f.evidence q f.after [] (length f.before) total fault (sym f.bytes ∙ sym (append-nil (lists_text lists))) f.fails

  pub lists_same : (landmarks : List ℕ) (xs ys : List Lists) (r s : List ℕ) → ((k : ℕ) → k < length landmarks → slice_index landmarks k < network.nodes) → AreZipped landmarks xs → AreZipped landmarks ys → lists_text xs ++ r ≡ lists_text ys ++ s → r ≡ s
  lists_same [] [] [] r s within p q e = e
  lists_same [] (x ∷ xs) ys r s within p q e = absurd p
  lists_same [] [] (y ∷ ys) r s within p q e = absurd q
  lists_same (l ∷ landmarks) [] ys r s within p q e = absurd p
  lists_same (l ∷ landmarks) (x ∷ xs) [] r s within p q e = absurd q
  lists_same (l ∷ landmarks) (x ∷ xs) (y ∷ ys) r s within p q e =
      let text : list_text x.from ++ (list_text x.to ++ (lists_text xs ++ r)) ≡ list_text y.from ++ (list_text y.to ++ (lists_text ys ++ s)) = sym (lists_apart x xs r) ∙ (e ∙ lists_apart y ys s) in
      lists_same landmarks xs ys r s (λ i h. within (suc i) (omega arith)) p.1 q.1 (pair_same l (within 0 (omega arith)) x y p.0 q.0 (lists_text xs ++ r) (lists_text ys ++ s) text)

-- what a front has, more bytes leave
extend : (land : Land) (front t : List ℕ) (p : ℕ) (snapshot landmarks : List ℕ) (grain : ℕ) (r : List ℕ) → HasLandmarks land front p snapshot landmarks grain r → HasLandmarks land (front ++ t) p snapshot landmarks grain (r ++ t)
extend land front t p snapshot landmarks grain r h =
    let head = h.limits.head in
    let n = length landmarks in
    record {
      limits = record {
        head = record {
          bytes_are = ap (λ (bs : List ℕ). bs ++ t) head.bytes_are ∙ (append_assoc (head_text land p n) (words snapshot ++ (words landmarks ++ r)) t
              ∙ ap (λ (bs : List ℕ). head_text land p n ++ bs) (append_assoc (words snapshot) (words landmarks ++ r) t ∙ ap (λ (bs : List ℕ). words snapshot ++ bs) (append_assoc (words landmarks) r t)));
          there = head.there;
          word = head.word;
          some = head.some;
          few = head.few;
        };
        long = h.limits.long;
        each = h.limits.each;
      };
      placing = h.placing;
    }

get_index : (xs : List ℕ) (k n : ℕ) → slice_get xs k ≡ Some n → (k < length xs) × (slice_index xs k ≡ n)
get_index [] k n e = absurd (cc)
get_index (x ∷ xs) zero n e = (omega arith, cc)
get_index (x ∷ xs) (suc k) n e = let rest = get_index xs k n e in (omega (arith, rest.0), rest.1)

pub no_fault : (land : Land) (prep : Preparation) (bytes : List ℕ) (fault : PrepFault) → IsGraph land.graph → IsStored land prep bytes → IsFirstFault land bytes fault → ⊥
no_fault land prep bytes fault graph (lists, s) =
    let h = s.landmarks in
    let network = roads_at land prep.profile prep.snapshot in
    let back = back_at land prep.profile prep.snapshot in
    let rule = rule_alone (profile_at land.profiles prep.profile) in
    let leads : LeadsToNodes network = leads_to_nodes Out rule (limit_in prep.snapshot) land.graph graph in
    let leads_back : LeadsToNodes back = leads_to_nodes Back rule (limit_in prep.snapshot) land.graph graph in
    let few : network.nodes ≤ 4294967295 = omega (arith, graph.few_places) in
    let within : (k : ℕ) → k < length prep.landmarks → slice_index prep.landmarks k < network.nodes = λ k l. landmark_within network h.placing.start prep.landmarks leads h.placing.start_is.within h.placing.landmarks_are.each k l in
    let small : (place node : ℕ) → slice_get prep.landmarks place ≡ Some node → node < 2 ^ 32 = λ place node e. let at = get_index prep.landmarks place node e in omega (arith, at.1, within place at.0, few) in
    λ f. elim f [
      | inl a ↦ no_head_fault land graph bytes prep.profile (length prep.landmarks) (words prep.snapshot ++ (words prep.landmarks ++ (big_bytes 8 prep.grain ++ lists_text lists))) h.limits.head (length bytes) fault a
      | inr f ↦ elim f [
        | inl a ↦ no_limits_fault land bytes prep.profile (length prep.landmarks) prep.snapshot (words prep.landmarks ++ (big_bytes 8 prep.grain ++ lists_text lists)) fault h.limits a
        | inr f ↦ elim f [
          | inl a ↦ no_landmarks_fault land bytes prep.profile prep.snapshot prep.landmarks prep.grain (big_bytes 8 prep.grain ++ lists_text lists) fault small h a
          | inr f ↦ elim f [
            | inl a ↦ no_grain_fault land bytes prep.profile prep.snapshot prep.landmarks prep.grain (lists_text lists) fault h a
            | inr f ↦ elim f [
              | inl (q, g, two, others, rest, has, a) ↦
                  let same = same_placing land bytes prep.profile q prep.snapshot two prep.landmarks others prep.grain g (big_bytes 8 prep.grain ++ lists_text lists) (big_bytes 8 g ++ rest) h has in
                  let text = append_same (big_bytes 8 prep.grain) (big_bytes 8 g) (lists_text lists) rest refl same.4 in
                  no_lists_fault network back prep.grain leads leads_back refl few prep.landmarks lists within s.evidence (length bytes) fault
                  (subst (λ (xs : List ℕ). FailsInLists network back prep.grain prep.landmarks (length bytes) xs fault) (sym text.1)
                  (subst (λ (k : ℕ). FailsInLists network back k prep.landmarks (length bytes) rest fault) (sym same.3)
                  (subst (λ (xs : List ℕ). FailsInLists network back g xs (length bytes) rest fault) (sym same.2)
                  (subst (λ (xs : List ℕ). FailsInLists (roads_at land prep.profile xs) (back_at land prep.profile xs) g others (length bytes) rest fault) (sym same.1)
                  (subst (λ (k : ℕ). FailsInLists (roads_at land k two) (back_at land k two) g others (length bytes) rest fault) (sym same.0) a)))))
              | inr (other, front, byte, rest, (more, t), e, is) ↦
                  let has = subst (λ (bs : List ℕ). HasLandmarks land bs other.profile other.snapshot other.landmarks other.grain ((big_bytes 8 other.grain ++ lists_text more) ++ byte ∷ rest)) (sym e)
                  (extend land front (byte ∷ rest) other.profile other.snapshot other.landmarks other.grain (big_bytes 8 other.grain ++ lists_text more) t.landmarks) in
                  let same = same_placing land bytes prep.profile other.profile prep.snapshot other.snapshot prep.landmarks other.landmarks prep.grain other.grain (big_bytes 8 prep.grain ++ lists_text lists) ((big_bytes 8 other.grain ++ lists_text more) ++ byte ∷ rest) h has in
                  let text = append_same (big_bytes 8 prep.grain) (big_bytes 8 other.grain) (lists_text lists) (lists_text more ++ byte ∷ rest) refl (same.4 ∙ append_assoc (big_bytes 8 other.grain) (lists_text more) (byte ∷ rest)) in
                  let evidence : AllZip (AreEvidence network back prep.grain) prep.landmarks more =
                  subst (λ (xs : List ℕ). AllZip (AreEvidence network back prep.grain) xs more) (sym same.2)
                  (subst (λ (k : ℕ). AllZip (AreEvidence network back k) other.landmarks more) (sym same.3)
                  (subst (λ (xs : List ℕ). AllZip (AreEvidence (roads_at land prep.profile xs) (back_at land prep.profile xs) other.grain) other.landmarks more) (sym same.1)
                  (subst (λ (k : ℕ). AllZip (AreEvidence (roads_at land k other.snapshot) (back_at land k other.snapshot) other.grain) other.landmarks more) (sym same.0) t.evidence))) in
                  let none = lists_same network back prep.grain leads leads_back refl few prep.landmarks lists more [] (byte ∷ rest) within s.evidence evidence (append-nil (lists_text lists) ∙ text.1) in
                  absurd (cc)
            ]
          ]
        ]
      ]
    ]
