-- Rows of labels, two for each landmark.
use Rattle.std.proofs.Common.{◌≡◌, ℕ, ◌%◌, ◌<◌, All, slice_index_or, List, [], ◌∷◌, ◌++◌, length, take, drop, append_assoc, append-nil, Result, Ok, refl, sym, subst, ap, suc, arith}
use Rattle.std.specs.List.{AllZip}
use Rattle.std.proofs.lemmas.List.{take-append-drop}
use Rattle.std.proofs.lemmas.List.Elements.{All-nil, All-cons, All-head, All-tail}
use Rattle.gh_base.specs.declared.edges.NodeId.{NodeId}
use Rattle.gh_base.specs.declared.faults.NoMemory.{NoMemory}
use Rattle.gh_base.specs.Networks.{Network}
use Rattle.landmark_prep.specs.declared.labels.PackedLabels.{PackedLabels}
use Rattle.landmark_prep.specs.declared.spreading.Job.{Job}
use Rattle.landmark_prep.specs.declared.spreading.Way.TheVariants.{From, To}
use Rattle.landmark_prep.specs.Jobs.{jobs_for, rows_of, Gives, AreRowsOf}

-- the labels of one landmark more
pub rows_of-push : (table : List PackedLabels) (labels : PackedLabels) (rest : List (Result (List ℕ) NoMemory)) → rows_of (table ++ labels ∷ []) ++ rest ≡ rows_of table ++ Ok labels.from ∷ Ok labels.to ∷ rest
rows_of-push [] labels rest = refl
rows_of-push (t ∷ table) labels rest = ap (λ (xs : List (Result (List ℕ) NoMemory)). Ok t.from ∷ Ok t.to ∷ xs) (rows_of-push table labels rest)

pub rows_of-even : (table : List PackedLabels) → length (rows_of table) % 2 ≡ 0
rows_of-even [] = refl
rows_of-even (t ∷ table) = omega (arith, rows_of-even table)

pub jobs_for-even : (landmarks : List NodeId) → length (jobs_for landmarks) % 2 ≡ 0
jobs_for-even [] = refl
jobs_for-even (l ∷ landmarks) = omega (arith, jobs_for-even landmarks)

-- each job is at one of the landmarks
pub jobs_within : (nodes : ℕ) (landmarks : List NodeId) → All (λ landmark. landmark.0 < nodes) landmarks → All (λ job. job.landmark.0 < nodes) (jobs_for landmarks)
jobs_within nodes [] a = All-nil (λ (job : Job). job.landmark.0 < nodes)
jobs_within nodes (l ∷ landmarks) a =
    let here = All-head (λ (l : NodeId). l.0 < nodes) l landmarks a in
    let rest = jobs_within nodes landmarks (All-tail (λ (l : NodeId). l.0 < nodes) l landmarks a) in
    All-cons (λ (job : Job). job.landmark.0 < nodes) (record { landmark = l; way = From }) (record { landmark = l; way = To } ∷ jobs_for landmarks) here
    (All-cons (λ (job : Job). job.landmark.0 < nodes) (record { landmark = l; way = To }) (jobs_for landmarks) here rest)

-- what holds at each place holds of the lists
pub zip_of_each : {A B : Type 0} (R : A → B → Type 0) (xs : List A) (ys : List B) → length ys ≡ length xs → ((i : ℕ) (d : B) (e : A) → i < length xs → R (slice_index_or xs i e) (slice_index_or ys i d)) → AllZip R xs ys
zip_of_each R [] [] l h = tt
zip_of_each R [] (y ∷ ys) l h = absurd (omega arith)
zip_of_each R (x ∷ xs) [] l h = absurd (omega arith)
zip_of_each R (x ∷ xs) (y ∷ ys) l h = (h 0 y x (omega arith), zip_of_each R xs ys (omega arith) (λ i d e k. h (suc i) d e (omega arith)))

zip_append : {A B : Type 0} (R : A → B → Type 0) (xs more : List A) (ys others : List B) → AllZip R xs ys → AllZip R more others → AllZip R (xs ++ more) (ys ++ others)
zip_append R [] more [] others a b = b
zip_append R [] more (y ∷ ys) others a b = absurd a
zip_append R (x ∷ xs) more [] others a b = absurd a
zip_append R (x ∷ xs) more (y ∷ ys) others a b = (a.0, zip_append R xs more ys others a.1 b)

-- the front and the rest of a list
zip_parts : {A B : Type 0} (R : A → B → Type 0) (n : ℕ) (xs : List A) (ys others : List B) → AllZip R (take n xs) ys → AllZip R (drop n xs) others → AllZip R xs (ys ++ others)
zip_parts R n xs ys others a b = subst (λ (list : List _). AllZip R list (ys ++ others)) (take-append-drop n xs) (zip_append R (take n xs) (drop n xs) ys others a b)

-- what the jobs so far gave, with what the jobs that are left give: one batch more, and the last of them
module _ {A B : Type 0} (R : A → B → Type 0) (jobs left : List A) (rows : List B) (so : (rest : List B) → AllZip R left rest → AllZip R jobs (rows ++ rest)) where
  pub batch_more : (n : ℕ) (first later : List A) (more next : List B) → first ≡ take n left → later ≡ drop n left → next ≡ rows ++ more → AllZip R first more → (rest : List B) → AllZip R later rest → AllZip R jobs (next ++ rest)
  batch_more n first later more next f l e gave rest z =
      let both = zip_parts R n left more rest (subst (λ (xs : List A). AllZip R xs more) f gave) (subst (λ (xs : List A). AllZip R xs rest) l z) in
      rw (e, append_assoc) (so (more ++ rest) both)

  pub batches_done : length left ≡ 0 → AllZip R jobs rows
  batches_done none = subst (λ (ys : List B). AllZip R jobs ys) (append-nil rows) (so [] (zip_of_each R left [] (sym none) (λ i d e k. absurd (omega arith))))

-- what the jobs gave, two by two, are the labels of each landmark
labels_of_rows : (network : Network) (grain : ℕ) (landmarks : List NodeId) (table : List PackedLabels) → AllZip (Gives network grain) (jobs_for landmarks) (rows_of table) → AllZip (AreRowsOf network grain) landmarks table
labels_of_rows network grain [] [] z = tt
labels_of_rows network grain [] (t ∷ table) z = absurd z
labels_of_rows network grain (m ∷ landmarks) [] z = absurd z
labels_of_rows network grain (m ∷ landmarks) (t ∷ table) z = (record { from = z.0; to = z.1.0 }, labels_of_rows network grain landmarks table z.1.1)

pub labels_from_rows : (network : Network) (grain : ℕ) (landmarks : List NodeId) (table : List PackedLabels) (rows : List (Result (List ℕ) NoMemory)) (jobs : List Job) → rows_of table ≡ rows → jobs ≡ jobs_for landmarks → AllZip (Gives network grain) jobs rows → AllZip (AreRowsOf network grain) landmarks table
labels_from_rows network grain landmarks table rows jobs same j z = labels_of_rows network grain landmarks table (rw (same, ← j) z)
