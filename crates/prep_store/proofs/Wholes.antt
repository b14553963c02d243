-- What is read of a whole store, and the faults of its parts.
use Rattle.std.specs.Prelude.{IfSome, IfErr, Result, Ok, Err, true}
use Rattle.std.specs.Result.{IsErrAnd}
use Rattle.std.proofs.Common.{◌≡◌, ◌⊎◌, ℕ, ◌+◌, ◌*◌, ◌<◌, ◌≤◌, ◌^◌, All, Option, Some, None, List, [], ◌∷◌, ◌++◌, map, length, refl, sym, subst, ap, ◌∙◌, inl, inr, append_assoc, arith}
use Rattle.std.proofs.lemmas.List.{length-map, append-nil}
use Rattle.std.specs.Io.KnownBytes.{Consumes, IsAtEnd}
use Rattle.byteorder.specs.Endian.{big_bytes}
use Rattle.gh_base.specs.declared.edges.NodeId.{NodeId}
use Rattle.gh_base.specs.Networks.{Network, LeadsToNodes}
use Rattle.walk_rules.specs.Walks.{AreTurned}
use Rattle.landmark_prep.specs.declared.labels.PackedLabels.{PackedLabels}
use Rattle.landmark_prep.specs.Packing.{unpacked_labels, packed_nodes, AreLong, AreParts}
use Rattle.landmark_prep.specs.Preparations.{Preparation, IsPlacing}
use Rattle.landmark_prep.proofs.Prepared.{chosen_within}
use Rattle.traffic_core.specs.Lands.{Land}
use Rattle.prep_store.specs.declared.fault.PrepFault.{PrepFault}
use Rattle.prep_store.specs.Stores.{words, head_text, Lists, roads_at, back_at, HasLimits, HasLandmarks, AreEvidence, AreOfLists, IsStored}
use Rattle.prep_store.specs.FirstFaults.{is_of_bytes, Behind, FailsInHead, FailsInGrain, FailsInLists, IsFirstFault}
use Rattle.prep_store.specs.Readings.{Place, Takes, Fails}
use Rattle.prep_store.specs.Steps.{IsBehindLimits, text_behind, FailsBehindLimits, IsLeft}
use Rattle.prep_store.proofs.Telling.{consumed_more, taken_then, fails_as, fails_behind}
use Rattle.prep_store.proofs.Tables.{numbers, zip_long}

-- landmarks that are placed are nodes
pub placed_within : (network : Network) (count : ℕ) (nodes : List NodeId) (grain : ℕ) → LeadsToNodes network → IsPlacing network count (numbers nodes) grain → All (λ landmark. landmark.0 < network.nodes) nodes
placed_within network count nodes grain leads p = chosen_within network p.start nodes leads p.start_is.within p.landmarks_are.each

-- what fails behind the landmarks
pub behind_landmarks : {a b c : Place} {fault : PrepFault} (network back : Network) (count : ℕ) (landmarks : List ℕ) (grain : ℕ) → Takes a b (words landmarks) → length landmarks ≡ count → IsPlacing network count landmarks grain →
    Fails (λ total after fault. FailsInGrain grain total after fault ⊎ Behind (big_bytes 8 grain) after (λ more. FailsInLists network back grain landmarks total more fault)) b c fault → Fails (FailsBehindLimits network back count) a c fault
behind_landmarks network back count landmarks grain taken all placing failed =
    fails_behind taken failed (λ total rest after e f. inr (record { landmarks = landmarks; grain = grain; after = after; bytes = e; all = all; placing = placing; fails = f }))

-- a fault of the whole, where so many are all the bytes
abbrev pub IsFirstOf : Land → ℕ → List ℕ → PrepFault → Type 0
IsFirstOf land total bytes fault = total ≡ length bytes → IsFirstFault land bytes fault

pub head_fails : {a b : Place} {fault : PrepFault} (land : Land) → Fails (FailsInHead land) a b fault → Fails (IsFirstOf land) a b fault
head_fails {a} {b} {fault} land failed = fails_as failed (λ total bytes f same. inl (subst (λ (n : ℕ). FailsInHead land n bytes fault) same f))

-- what a `?` hands on of it, from the first byte on
pub first_fault : {T : Type 0} {a b : Place} {fault : PrepFault} (land : Land) (result : Result T PrepFault) → IsErrAnd result (λ e. e ≡ fault) → a.at ≡ 0 → Fails (IsFirstOf land) a b fault →
    IfErr result (λ fault. is_of_bytes fault ≡ true → IfSome a.left (λ bytes. IsFirstFault land bytes fault))
first_fault land (Ok x) e zero f = tt
first_fault {T} {a} {b} {fault} land (Err x) e zero f =
    subst (λ (y : PrepFault). is_of_bytes y ≡ true → IfSome a.left (λ bytes. IsFirstFault land bytes y)) (sym e) (λ of. go a.left (f.told of))
  where
    go : (left : Option (List ℕ)) → IfSome left (λ bytes. IsFirstOf land (a.at + length bytes) bytes fault) → IfSome left (λ bytes. IsFirstFault land bytes fault)
    go None h = tt
    go (Some bytes) h = h (omega arith)

-- head and limits were taken
pub record AreTaken (land : Land) (a b c : Place) (profile count : ℕ) (snapshot : List ℕ) : Type 0 where
  pub head : Takes a b (head_text land profile count)
  pub there : profile < length land.profiles
  pub word : profile < 2 ^ 32
  pub some : 1 ≤ count
  pub few : count ≤ 16
  pub limits : Takes b c (words snapshot)
  pub long : length snapshot ≡ 2 * length land.graph.edges
  pub each : All (λ limit. limit < 2 ^ 32) snapshot

pub are_taken : {a b c : Place} {edges : ℕ} (land : Land) (profile count : ℕ) (snapshot : List ℕ) → edges ≡ length land.graph.edges → Takes a b (head_text land profile count) → profile < length land.profiles → profile < 2 ^ 32 → 1 ≤ count → count ≤ 16 →
    Takes b c (words snapshot) → length snapshot ≡ 2 * edges → All (λ limit. limit < 2 ^ 32) snapshot → AreTaken land a b c profile count snapshot
are_taken land profile count snapshot is head there word some few limits long each =
    record { head = head; there = there; word = word; some = some; few = few; limits = limits; long = long ∙ ap (λ (n : ℕ). 2 * n) is; each = each }

pub parts_fail : {land : Land} {a b c d : Place} {profile count : ℕ} {snapshot : List ℕ} {fault : PrepFault} → AreTaken land a b c profile count snapshot → Fails (FailsBehindLimits (roads_at land profile snapshot) (back_at land profile snapshot) count) c d fault →
    Fails (IsFirstOf land) a d fault
parts_fail {land} {a} {b} {c} {d} {profile} {count} {snapshot} {fault} t failed = fails_behind (taken_then t.head t.limits) failed (λ total bytes rest e f same.
    whole bytes rest e (subst (λ (n : ℕ). FailsBehindLimits (roads_at land profile snapshot) (back_at land profile snapshot) count n rest fault) same f))
  where
    has : (bytes rest : List ℕ) → bytes ≡ (head_text land profile count ++ words snapshot) ++ rest → HasLimits land bytes profile count snapshot rest
    has bytes rest e = record { head = record { bytes_are = e ∙ append_assoc (head_text land profile count) (words snapshot) rest; there = t.there; word = t.word; some = t.some; few = t.few }; long = t.long; each = t.each }

    whole : (bytes rest : List ℕ) → bytes ≡ (head_text land profile count ++ words snapshot) ++ rest → FailsBehindLimits (roads_at land profile snapshot) (back_at land profile snapshot) count (length bytes) rest fault → IsFirstFault land bytes fault
    whole bytes rest e (inl f) = inr (inr (inl (profile, count, snapshot, rest, has bytes rest e, f)))
    whole bytes rest e (inr f) =
        let placed : HasLandmarks land bytes profile snapshot f.landmarks f.grain f.after = record {
          limits = subst (λ (n : ℕ). HasLimits land bytes profile n snapshot (words f.landmarks ++ f.after)) (sym f.all) (subst (λ (r : List ℕ). HasLimits land bytes profile count snapshot r) f.bytes (has bytes rest e));
          placing = subst (λ (n : ℕ). IsPlacing (roads_at land profile snapshot) n f.landmarks f.grain) (sym f.all) f.placing;
        } in
        elim f.fails [
          | inl x ↦ inr (inr (inr (inl (profile, f.grain, snapshot, f.landmarks, f.after, placed, x))))
          | inr x ↦ inr (inr (inr (inr (inl (profile, f.grain, snapshot, f.landmarks, x.0, subst (λ (r : List ℕ). HasLandmarks land bytes profile snapshot f.landmarks f.grain r) x.1 placed, x.2)))))
        ]

module _ (land : Land) (a b c d : Place) (profile count : ℕ) (snapshot : List ℕ) (t : AreTaken land a b c profile count snapshot) (landmarks : List ℕ) (grain : ℕ) (lists : List Lists) (table : List PackedLabels)
    (behind : Takes c d (text_behind landmarks grain lists)) (read : IsBehindLimits (roads_at land profile snapshot) (back_at land profile snapshot) count landmarks grain lists table) where
  abbrev whole : List ℕ
  whole = head_text land profile (length landmarks) ++ (words snapshot ++ text_behind landmarks grain lists)

  abbrev prep : Preparation
  prep = record { profile = profile; snapshot = snapshot; landmarks = landmarks; grain = grain; labels = map (unpacked_labels grain) table }

  pub stored_whole : IsStored land (record { profile = profile; snapshot = snapshot; landmarks = landmarks; grain = grain; labels = map (unpacked_labels grain) table }) whole
  stored_whole = (
    lists,
    record {
      landmarks = record {
        limits = record { head = record { bytes_are = refl; there = t.there; word = t.word; some = omega (arith, read.all, t.some); few = omega (arith, read.all, t.few) }; long = t.long; each = t.each };
        placing = subst (λ (n : ℕ). IsPlacing (roads_at land profile snapshot) n landmarks grain) (sym read.all) read.placing;
      };
      evidence = read.read.evidence;
      labels = read.read.labels;
    },
  )

  taken_whole : Takes a d whole
  taken_whole = taken_then (subst (λ (n : ℕ). Takes a b (head_text land profile n)) (sym read.all) t.head) (taken_then t.limits behind)

  pub stored_all : (left : Option (List ℕ)) → Consumes d.left left [] → IsAtEnd left → IfSome a.left (IsStored land (record { profile = profile; snapshot = snapshot; landmarks = landmarks; grain = grain; labels = map (unpacked_labels grain) table }))
  stored_all left nothing end = go a.left left (consumed_more a.left d.left left whole [] taken_whole.bytes nothing) end
    where
      go : (one two : Option (List ℕ)) → Consumes one two (whole ++ []) → IsAtEnd two → IfSome one (IsStored land prep)
      go None two h end = tt
      go (Some xs) None h end = absurd h
      go (Some xs) (Some ys) h end = subst (λ (bs : List ℕ). IsStored land prep bs) (sym (h ∙ (ap (λ (r : List ℕ). (whole ++ []) ++ r) end ∙ (append-nil (whole ++ []) ∙ append-nil whole)))) stored_whole

  pub end_fails : {e : Place} {fault : PrepFault} → Fails (λ _. IsLeft) d e fault → Fails (IsFirstOf land) a e fault
  end_fails failed = fails_behind taken_whole failed (λ total bytes rest e f same. inr (inr (inr (inr (inr (prep, whole, f.0, f.1, stored_whole, e ∙ ap (λ (r : List ℕ). whole ++ r) f.2, f.3))))))

-- what was read can be a preparation
table_nodes : (nodes : ℕ) (table : List PackedLabels) → 1 ≤ length table → All (AreLong nodes) table → packed_nodes table ≡ nodes
table_nodes nodes [] some all = absurd (omega arith)
table_nodes nodes (x ∷ table) some all = (all 0 x (omega arith)).from

pub are_parts : (network back : Network) (count grain : ℕ) (nodes : List NodeId) (lists : List Lists) (table : List PackedLabels) → IsBehindLimits network back count (numbers nodes) grain lists table → 1 ≤ count → count ≤ 16 → network.nodes ≤ 4294967295 → grain ≤ 2 ^ 46 → AreParts nodes grain table
are_parts network back count grain nodes lists table b some few small coarse =
    let long : length nodes ≡ count = sym (length-map nodes (λ (node : NodeId). node.0)) ∙ b.all in
    let as_many : length table ≡ length nodes =
    sym (length-map table (unpacked_labels grain)) ∙ (zip_long (AreOfLists network.nodes grain) lists (map (unpacked_labels grain) table) b.read.labels
    ∙ (zip_long (AreEvidence network back grain) (numbers nodes) lists b.read.evidence ∙ length-map nodes (λ (node : NodeId). node.0))) in
    let nodes_are : packed_nodes table ≡ network.nodes = table_nodes network.nodes table (omega (arith, as_many, long)) b.read.long in
    record {
      some = omega (arith, long);
      few = omega (arith, long);
      each = as_many;
      long = subst (λ (n : ℕ). All (AreLong n) table) (sym nodes_are) b.read.long;
      nodes = omega (arith, nodes_are);
      fine = omega (arith, b.placing.grain_is);
      coarse = coarse;
    }

-- the networks of two views are one of the roads and the same turned round
pub turned_as : (one other out back : Network) → one ≡ out → other ≡ back → AreTurned out back → AreTurned one other
turned_as one other out back is is' turned =
    subst (λ (n : Network). AreTurned n other) (sym is) (subst (λ (n : Network). AreTurned out n) (sym is') turned)
