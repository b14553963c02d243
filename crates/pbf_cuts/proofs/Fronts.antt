-- Each front of a file that is read, blob by blob.
use Rattle.std.proofs.lemmas.Bool.Decides.{nat_tests}
use Rattle.std.proofs.lemmas.List.{length-take-le, take-take, drop-take}
use Rattle.std.proofs.lemmas.Option.{same_Some}
use Rattle.std.specs.Option.{option_and_then}
use Rattle.std.proofs.Common.{◌≡◌, ◌∙◌, ℕ, ◌+◌, ◌-◌, ◌<◌, ◌≤◌, ◌⊎◌, inl, inr, zero, suc, List, [], length, take, drop, Bool, true, false, ltb, Option, Some, None, Result, Ok, Err, refl, ap, subst, arith}
use Rattle.std.specs.Prelude.{IfOk}
use Rattle.byteorder.specs.Endian.{big_number}
use Rattle.byteorder.specs.Numbers.{big_from-take}
use Rattle.gh_base.specs.declared.kinds.PbfKind.{PbfKind}
use Rattle.gh_base.specs.declared.kinds.PbfKind.TheVariants.{Truncated, NoHeader}
use Rattle.gh_base.specs.declared.map.OsmMap.{OsmMap}
use Rattle.pbf_wire.specs.declared.messages.BlobHeader.{BlobHeader}
use Rattle.pbf_wire.specs.Wire.{◌>>=◌}
use Rattle.pbf_wire.specs.Blobs.{header_at, blob_with}
use Rattle.pbf_wire.specs.Files.{blobs_from, reads}
use Rattle.pbf_cuts.specs.Cuts.{blob_end, blobs_end, IsFirstOf, IsToldAt}
use Rattle.pbf_cuts.proofs.Steps.{first_value}
use Rattle.pbf_cuts.proofs.Grows.{same_map, blobs_grow}
use Rattle.pbf_cuts.proofs.Headers.{IsCut, IsHeader, header_is, name_inside, same_header, cut_header, end_told, end_behind}
use Rattle.pbf_cuts.proofs.Blobs.{same_blob}

-- where blobs end

-- one or more blobs from a place on end here
abbrev pub EndsFrom : List ℕ → ℕ → ℕ → Type 0
EndsFrom file at n = (more : ℕ) × (blobs_end (suc more) file at ≡ Some n)

up_by : (file : List ℕ) (at n : ℕ) (after : ℕ → Option ℕ) (o : Option ℕ) → blob_end file at ≡ o → ((next : ℕ) → after next ≡ Some n → next ≤ n) → option_and_then after o ≡ Some n → at < n
up_by file at n after None e up is = cc
up_by file at n after (Some next) e up is =
    let before = end_behind file at next e in
    let behind = up next is in
    omega arith

ends_up : (blobs : ℕ) (file : List ℕ) (at n : ℕ) → blobs_end blobs file at ≡ Some n → at ≤ n
ends_up zero file at n is = let same = same_Some at n is in omega arith
ends_up (suc blobs) file at n is =
    let less = up_by file at n (blobs_end blobs file) (blob_end file at) refl (λ next e. ends_up blobs file next n e) is in
    omega arith

pub ends_behind : (file : List ℕ) (at n : ℕ) → EndsFrom file at n → at < n
ends_behind file at n ends = up_by file at n (blobs_end ends.0 file) (blob_end file at) refl (λ next e. ends_up ends.0 file next n e) ends.1

one_blob : (file : List ℕ) (at n : ℕ) → blob_end file at ≡ Some n → EndsFrom file at n
one_blob file at n e = (0, rw e refl)

blob_more : (file : List ℕ) (at next n : ℕ) → blob_end file at ≡ Some next → EndsFrom file next n → EndsFrom file at n
blob_more file at next n e ends = (suc ends.0, rw e ends.1)

less_by : (file : List ℕ) (at next n blobs : ℕ) → (next ≡ n → ⊥) → blobs_end blobs file next ≡ Some n → EndsFrom file next n
less_by file at next n zero apart is = absurd (apart (same_Some next n is))
less_by file at next n (suc blobs) apart is = (blobs, is)

blob_less : (file : List ℕ) (at next n : ℕ) → blob_end file at ≡ Some next → (next ≡ n → ⊥) → EndsFrom file at n → EndsFrom file next n
blob_less file at next n e apart ends =
    let rest : blobs_end ends.0 file next ≡ Some n = rw e at ends.1 in
    less_by file at next n ends.0 apart rest

too_far : (file : List ℕ) (at next n : ℕ) → blob_end file at ≡ Some next → n < next → EndsFrom file at n → ⊥
too_far file at next n e far ends =
    let rest : blobs_end ends.0 file next ≡ Some n = rw e at ends.1 in
    let up = ends_up ends.0 file next n rest in
    omega arith

-- what is read from a place on: a part of the whole where a blob ends, and otherwise a fault at the end
abbrev Told : List ℕ → List ℕ → ℕ → OsmMap → Result OsmMap (ℕ × PbfKind) → Type 0
Told file front at whole result =
    (EndsFrom file at (length front) × ((part : OsmMap) × (result ≡ Ok part) × IsFirstOf part whole)) ⊎
    ((EndsFrom file at (length front) → ⊥) × (result ≡ Err (length front, Truncated)))

told_before : (file front : List ℕ) (at next : ℕ) (whole : OsmMap) (result : Result OsmMap (ℕ × PbfKind)) → blob_end file at ≡ Some next → next < length front → Told file front next whole result → Told file front at whole result
told_before file front at next whole result e less (inl x) = inl (blob_more file at next (length front) e x.0, x.1)
told_before file front at next whole result e less (inr x) = inr ((λ ends. x.0 (blob_less file at next (length front) e (λ same. absurd (omega arith)) ends)), x.1)

all_read : (most : ℕ) (file : List ℕ) (m : OsmMap) (at : ℕ) → length file ≤ at → blobs_from most file false m at ≡ Ok m
all_read zero file m at done = refl
all_read (suc most) file m at done =
    let test : ltb at (length file) ≡ false = grind (arith, nat_tests) in
    rw test refl

none_read : (most : ℕ) (file : List ℕ) (m : OsmMap) (at : ℕ) → length file ≤ at → blobs_from most file true m at ≡ Err (at, NoHeader)
none_read zero file m at done = refl
none_read (suc most) file m at done =
    let test : ltb at (length file) ≡ false = grind (arith, nat_tests) in
    rw test refl

-- a blob, and those behind it
blob_by : (a b : Bool) (most less : ℕ) (file front : List ℕ) (first : Bool) (m n whole : OsmMap) (at : ℕ) (header : BlobHeader) → IsCut file front → IsHeader file first at header →
    blob_with file m header ≡ Ok n → blobs_from most file false n (header.end + header.datasize) ≡ Ok whole →
    (header.end + header.datasize < length front → Told file front (header.end + header.datasize) whole (blobs_from less front false n (header.end + header.datasize))) →
    ltb (length front) (header.end + header.datasize) ≡ a → ltb (header.end + header.datasize) (length front) ≡ b →
    Told file front at whole (header_at front first at >>= λ h. blob_with front m h >>= λ o. blobs_from less front false o (h.end + h.datasize))
blob_by true b most less file front first m n whole at header cut h adds rest behind e g =
    let next = header.end + header.datasize in
    rw (cut_header file front first at header cut h (grind (arith, nat_tests))) (inr (too_far file at next (length front) (end_told file first at header h) (grind (arith, nat_tests)), refl))
blob_by false true most less file front first m n whole at header cut h adds rest behind e g =
    let next = header.end + header.datasize in
    let inside : next ≤ length front = grind (arith, nat_tests) in
    let inner = name_inside file first at header h in
    let header_is = same_header file front first at header cut h inside in
    let blob_is = same_blob file front m header cut (omega arith) inside in
    rw (header_is, blob_is, adds) (told_before file front at next whole (blobs_from less front false n next) (end_told file first at header h) (grind (arith, nat_tests)) (behind (grind (arith, nat_tests))))
blob_by false false most less file front first m n whole at header cut h adds rest behind e g =
    let next = header.end + header.datasize in
    let inside : next ≤ length front = grind (arith, nat_tests) in
    let same : next ≡ length front = grind (arith, nat_tests) in
    let inner = name_inside file first at header h in
    let header_is = same_header file front first at header cut h inside in
    let blob_is = same_blob file front m header cut (omega arith) inside in
    let grown : IsFirstOf n whole = subst (λ (r : Result OsmMap (ℕ × PbfKind)). IfOk r (IsFirstOf n)) rest (blobs_grow most n n file false next (same_map n)) in
    rw (header_is, blob_is, adds) (inl (one_blob file at (length front) (rw (← same) (end_told file first at header h)), (n, all_read less front n next (omega arith), grown)))

told_from : (most less : ℕ) (file front : List ℕ) (first : Bool) (m whole : OsmMap) (at : ℕ) → IsCut file front → length file ≤ at + most → length front ≤ at + less → at < length front →
    blobs_from most file first m at ≡ Ok whole → Told file front at whole (blobs_from less front first m at)
told_from zero less file front first m whole at cut room fits inside is = let short = cut.short in absurd (omega arith)
told_from (suc most) zero file front first m whole at cut room fits inside is = absurd (omega arith)
told_from (suc most) (suc less) file front first m whole at cut room fits inside is =
    let short = cut.short in
    let in_file : ltb at (length file) ≡ true = grind (arith, nat_tests) in
    let in_front : ltb at (length front) ≡ true = grind (arith, nat_tests) in
    let opened = rw in_file at is in
    let after = λ (header : BlobHeader) (n : OsmMap). blobs_from most file false n (header.end + header.datasize) in
    let a = first_value (header_at file first at) (λ header. blob_with file m header >>= λ n. after header n) whole opened in
    let b = first_value (blob_with file m a.0) (λ n. after a.0 n) whole a.2 in
    let h : IsHeader file first at a.0 = subst (λ (r : Result BlobHeader (ℕ × PbfKind)). IfOk r (IsHeader file first at)) a.1 (header_is file first at) in
    let next = a.0.end + a.0.datasize in
    let on = end_behind file at next (end_told file first at a.0 h) in
    rw in_front (blob_by (ltb (length front) next) (ltb next (length front)) most less file front first m b.0 whole at a.0 cut h b.1 b.2
    (λ inner. told_from most less file front false b.0 whole next cut (omega arith) (omega arith) inner b.2) (refl {a = ltb (length front) next}) (refl {a = ltb next (length front)}))

-- fronts

cut_of : (file : List ℕ) (n : ℕ) → n ≤ length file → IsCut file (take n file)
cut_of file n le =
    let size = length-take-le n file le in
    record {
      short = omega arith;
      same = λ end inside. take-take end n file (omega arith);
      size = λ at inside. size_of file n at (omega arith);
    }
  where
    size_of : (file : List ℕ) (n at : ℕ) → at + 4 ≤ n → big_number 4 (drop at (take n file)) ≡ big_number 4 (drop at file)
    size_of file n at inside =
        let whole : at + (n - at) ≡ n = omega arith in
        let moved : drop at (take n file) ≡ take (n - at) (drop at file) = rw whole at (drop-take at (n - at) file) in
        rw moved (big_from-take 0 4 (n - at) (drop at file) (omega arith))

none_told : (file : List ℕ) (whole : OsmMap) → reads (take 0 file) ≡ Err (0, NoHeader) → IsToldAt file whole 0
none_told file whole is = record {
  read = (λ ok. let no : false ≡ true = rw is at ok in cc, λ ends. let up = ends_behind file 0 0 ends in absurd (omega arith));
  part = rw is tt;
  cut = λ some apart. absurd (omega arith);
  empty = λ e. is;
}

some_told : (file : List ℕ) (whole : OsmMap) (n : ℕ) → length (take n file) ≡ n → 0 < n → Told file (take n file) 0 whole (reads (take n file)) → IsToldAt file whole n
some_told file whole n size some (inl x) =
    let ends : EndsFrom file 0 n = rw size at x.0 in
    record {
      read = (λ ok. ends, λ e. rw x.1.1 refl);
      part = rw x.1.1 x.1.2;
      cut = λ s apart. absurd (apart ends);
      empty = λ e. absurd (omega arith);
    }
some_told file whole n size some (inr x) =
    let apart : EndsFrom file 0 n → ⊥ = rw size at x.0 in
    let fault : reads (take n file) ≡ Err (n, Truncated) = x.1 ∙ ap (λ (k : ℕ). Err (k, Truncated)) size in
    record {
      read = (λ ok. let no : false ≡ true = rw fault at ok in cc, λ e. absurd (apart e));
      part = rw fault tt;
      cut = λ s e. fault;
      empty = λ e. absurd (omega arith);
    }

none_at : (file : List ℕ) → reads (take 0 file) ≡ Err (0, NoHeader)
unfolding reads
none_at file =
    let size = length-take-le 0 file (omega arith) in
    none_read (length (take 0 file)) (take 0 file) (record { nodes = []; ways = [] }) 0 (omega arith)

some_at : (file : List ℕ) (whole : OsmMap) (n : ℕ) → reads file ≡ Ok whole → n ≤ length file → 0 < n → Told file (take n file) 0 whole (reads (take n file))
unfolding reads
some_at file whole n is le some =
    let size = length-take-le n file le in
    told_from (length file) (length (take n file)) file (take n file) true (record { nodes = []; ways = [] }) whole 0 (cut_of file n le) (omega arith) (omega arith) (omega arith) is

pub fronts_told : (file : List ℕ) (whole : OsmMap) → reads file ≡ Ok whole → (n : ℕ) → n ≤ length file → IsToldAt file whole n
fronts_told file whole is zero le = none_told file whole (none_at file)
fronts_told file whole is (suc n) le = some_told file whole (suc n) (length-take-le (suc n) file le) (omega arith) (some_at file whole (suc n) is le (omega arith))
