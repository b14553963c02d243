-- A BlobHeader in a front of a file.
use Rattle.std.proofs.lemmas.Bool.Decides.{nat_tests}
use Rattle.std.proofs.lemmas.List.{length-take}
use Rattle.std.proofs.lemmas.Option.{same_Some}
use Rattle.std.proofs.Common.{◌≡◌, ℕ, ◌+◌, ◌<◌, ◌≤◌, List, length, take, drop, codes, Bool, true, false, not, ◌&&◌, ltb, leb, Option, Some, None, Result, Ok, Err, refl, sym, ap, subst, arith}
use Rattle.std.specs.Option.{option_map}
use Rattle.std.specs.Prelude.{IfOk, IfSome, if◌then◌else◌}
use Rattle.byteorder.specs.Endian.{big_number}
use Rattle.gh_base.specs.declared.kinds.PbfKind.{PbfKind}
use Rattle.gh_base.specs.declared.kinds.PbfKind.TheVariants.{Truncated, HeaderTooLong, Missing, BlobTooLong, NoHeader}
use Rattle.pbf_wire.specs.declared.fields.Piece.{Piece}
use Rattle.pbf_wire.specs.declared.fields.Run.{Run}
use Rattle.pbf_wire.specs.declared.messages.BlobHeader.{BlobHeader}
use Rattle.pbf_wire.specs.Wire.{◌>>=◌}
use Rattle.pbf_wire.specs.Faults.{◌>>◌, refuse, or_fault, is_run}
use Rattle.pbf_wire.specs.Runs.{run_of}
use Rattle.pbf_wire.specs.Pieces.{scalar_of, pieces_of, last_piece}
use Rattle.pbf_wire.specs.Blobs.{header_length, is_named, header_at}
use Rattle.pbf_cuts.specs.Cuts.{blob_end}
use Rattle.pbf_cuts.proofs.Steps.{after_fact, after_test, after_run, after_value}
use Rattle.pbf_cuts.proofs.Inside.{IsPieceInside, fields_inside, pieces_inside, last_inside}

-- a front of a file is as long as it is, and has the file's bytes
pub record IsCut (file front : List ℕ) : Type 0 where
  pub short : length front ≤ length file
  pub same : (end : ℕ) → end ≤ length front → take end front ≡ take end file
  pub size : (at : ℕ) → at + 4 ≤ length front → big_number 4 (drop at front) ≡ big_number 4 (drop at file)

-- what the four bytes at a place say
abbrev pub size_at : List ℕ → ℕ → ℕ
size_at file at = big_number 4 (drop at file)

abbrev pub run_at : List ℕ → ℕ → Run
run_at file at = run_of (take (at + 4 + size_at file at) file) (at + 4)

-- a BlobHeader without a fault
pub record IsHeader (file : List ℕ) (first : Bool) (at : ℕ) (header : BlobHeader) : Type 0 where
  pub short : leb 65536 (size_at file at) ≡ false
  pub end_is : header.end ≡ at + 4 + size_at file at
  pub run : (run_at file at).bad ≡ None
  pub name : last_piece None (pieces_of 1 (run_at file at).fields) ≡ Some header.name
  pub datasize : scalar_of 3 None (run_at file at).fields ≡ Some header.datasize
  pub small : ltb 33555456 header.datasize ≡ false
  pub named : (first && not (is_named (codes "OSMHeader") file header.name)) ≡ false
  pub whole : header.end + header.datasize ≤ length file

length_is : (file : List ℕ) (at : ℕ) → IfOk (header_length file at) (λ size. (size ≡ size_at file at) × (leb 65536 size ≡ false))
unfolding header_length
length_is file at =
    let size = size_at file at in
    let Q : ℕ → Type 0 = λ n. (n ≡ size) × (leb 65536 n ≡ false) in
    after_test (ltb (length file) (at + 4)) (length file) Truncated (refuse (leb 65536 size) at HeaderTooLong >> Ok size) Q (λ inside.
    after_test (leb 65536 size) at HeaderTooLong (Ok size) Q (λ short. (refl, short)))

pub header_is : (file : List ℕ) (first : Bool) (at : ℕ) → IfOk (header_at file first at) (IsHeader file first at)
unfolding header_at
header_is file first at =
    let P = IsHeader file first at in
    let run : ℕ → Run = λ size. run_of (take (at + 4 + size) file) (at + 4) in
    let made : ℕ → Piece → ℕ → Result BlobHeader (ℕ × PbfKind) = λ size name datasize. Ok (record { name = name; datasize = datasize; end = at + 4 + size }) in
    let with_whole = λ (size : ℕ) (name : Piece) (datasize : ℕ). refuse (ltb (length file) (at + 4 + size + datasize)) (length file) Truncated >> made size name datasize in
    let with_first = λ (size : ℕ) (name : Piece) (datasize : ℕ). refuse (first && not (is_named (codes "OSMHeader") file name)) at NoHeader >> with_whole size name datasize in
    let with_small = λ (size : ℕ) (name : Piece) (datasize : ℕ). refuse (ltb 33555456 datasize) (at + 4) BlobTooLong >> with_first size name datasize in
    let with_datasize = λ (size : ℕ) (name : Piece). or_fault (scalar_of 3 None (run size).fields) (at + 4) Missing >>= λ datasize. with_small size name datasize in
    let with_name = λ (size : ℕ). or_fault (last_piece None (pieces_of 1 (run size).fields)) (at + 4) Missing >>= λ name. with_datasize size name in
    let with_run = λ (size : ℕ). is_run (run size).bad >> with_name size in
    let with_size = λ (size : ℕ). refuse (ltb (length file) (at + 4 + size)) (length file) Truncated >> with_run size in
    after_fact (header_length file at) with_size (λ n. (n ≡ size_at file at) × (leb 65536 n ≡ false)) P (length_is file at) (λ n is.
    let size = size_at file at in
    subst (λ (k : ℕ). IfOk (with_size k) P) (sym is.0) (
    after_test (ltb (length file) (at + 4 + size)) (length file) Truncated (with_run size) P (λ reach.
    after_run (run size).bad (with_name size) P (λ fine.
    after_value (last_piece None (pieces_of 1 (run size).fields)) (at + 4) Missing (λ name. with_datasize size name) P (λ name named.
    after_value (scalar_of 3 None (run size).fields) (at + 4) Missing (λ datasize. with_small size name datasize) P (λ datasize sized.
    after_test (ltb 33555456 datasize) (at + 4) BlobTooLong (with_first size name datasize) P (λ small.
    after_test (first && not (is_named (codes "OSMHeader") file name)) at NoHeader (with_whole size name datasize) P (λ right.
    after_test (ltb (length file) (at + 4 + size + datasize)) (length file) Truncated (made size name datasize) P (λ whole.
    record {
      short = rw (← is.0) is.1;
      end_is = refl;
      run = fine;
      name = named;
      datasize = sized;
      small = small;
      named = right;
      whole = grind (arith, nat_tests);
    })))))))))

-- where the BlobHeader stands whole in a front
length_there : (file front : List ℕ) (at : ℕ) → IsCut file front → leb 65536 (size_at file at) ≡ false → at + 4 ≤ length front → header_length front at ≡ Ok (size_at file at)
unfolding header_length
length_there file front at cut short inside =
    let there : ltb (length front) (at + 4) ≡ false = grind (arith, nat_tests) in
    let size = cut.size at inside in
    rw (there, size, short) refl

-- the type of a blob stands in the file as it stands in a front
pub named_there : (name file front : List ℕ) (piece : Piece) → IsCut file front → piece.end ≤ length front → is_named name front piece ≡ is_named name file piece
named_there name file front piece cut inside = rw (cut.same piece.end inside) refl

pub name_inside : (file : List ℕ) (first : Bool) (at : ℕ) (header : BlobHeader) → IsHeader file first at header → header.name.end ≤ header.end
name_inside file first at header h =
    let bytes = take (at + 4 + size_at file at) file in
    let run = run_at file at in
    let all = pieces_inside bytes 1 run.fields (fields_inside bytes (at + 4)) in
    let there : header.name.end ≤ length bytes = subst (λ (found : Option Piece). IfSome found (IsPieceInside bytes)) h.name (last_inside bytes None (pieces_of 1 run.fields) tt all) in
    let most = length-take (at + 4 + size_at file at) file in
    let e = h.end_is in
    omega arith

-- the last test, at a header whose end is told otherwise
by_end : (t : Bool) (n : ℕ) (header : BlobHeader) (end : ℕ) → header.end ≡ end →
    (refuse t n Truncated >> Ok (record { name = header.name; datasize = header.datasize; end = end })) ≡ (if t then Err (n, Truncated) else Ok header)
by_end true n header end e = refl
by_end false n header end e =
    let made : ℕ → Result BlobHeader (ℕ × PbfKind) = λ k. Ok (record { name = header.name; datasize = header.datasize; end = k }) in
    ap made (sym e)

-- where the BlobHeader stands whole in a front, only the length of its Blob is left to be tested
header_there : (file front : List ℕ) (first : Bool) (at : ℕ) (header : BlobHeader) (t : Bool) → IsCut file front → IsHeader file first at header → header.end ≤ length front → ltb (length front) (header.end + header.datasize) ≡ t →
    header_at front first at ≡ (if t then Err (length front, Truncated) else Ok header)
unfolding header_at
header_there file front first at header t cut h inside e =
    let end_is = h.end_is in
    let four : at + 4 ≤ length front = omega arith in
    let size = length_there file front at cut h.short four in
    let reach : ltb (length front) (at + 4 + size_at file at) ≡ false = grind (arith, nat_tests) in
    let bytes = cut.same (at + 4 + size_at file at) (omega arith) in
    let inner = name_inside file first at header h in
    let right : (first && not (is_named (codes "OSMHeader") front header.name)) ≡ false = rw (named_there (codes "OSMHeader") file front header.name cut (omega arith)) h.named in
    let whole : ltb (length front) (at + 4 + size_at file at + header.datasize) ≡ t = rw end_is at e in
    rw (size, reach, bytes, h.run, h.name, h.datasize, h.small, right, whole) (by_end t (length front) header (at + 4 + size_at file at) end_is)

-- a blob that stands whole in a front has the same header there
pub same_header : (file front : List ℕ) (first : Bool) (at : ℕ) (header : BlobHeader) → IsCut file front → IsHeader file first at header → header.end + header.datasize ≤ length front → header_at front first at ≡ Ok header
same_header file front first at header cut h inside = header_there file front first at header false cut h (omega arith) (grind (arith, nat_tests))

cut_length : (front : List ℕ) (at : ℕ) → ltb (length front) (at + 4) ≡ true → header_length front at ≡ Err (length front, Truncated)
unfolding header_length
cut_length front at e = rw e refl

cut_by : (file front : List ℕ) (first : Bool) (at : ℕ) (header : BlobHeader) (a b : Bool) → IsCut file front → IsHeader file first at header → length front < header.end + header.datasize →
    ltb (length front) (at + 4) ≡ a → ltb (length front) header.end ≡ b → header_at front first at ≡ Err (length front, Truncated)
unfolding header_at
cut_by file front first at header true b cut h inside e g = rw (cut_length front at e) refl
cut_by file front first at header false true cut h inside e g =
    let size = length_there file front at cut h.short (grind (arith, nat_tests)) in
    let reach : ltb (length front) (at + 4 + size_at file at) ≡ true = rw h.end_is at g in
    rw (size, reach) refl
cut_by file front first at header false false cut h inside e g = header_there file front first at header true cut h (grind (arith, nat_tests)) (grind (arith, nat_tests))

-- a blob that a front ends inside of is cut short there
pub cut_header : (file front : List ℕ) (first : Bool) (at : ℕ) (header : BlobHeader) → IsCut file front → IsHeader file first at header → length front < header.end + header.datasize → header_at front first at ≡ Err (length front, Truncated)
cut_header file front first at header cut h inside = cut_by file front first at header (ltb (length front) (at + 4)) (ltb (length front) header.end) cut h inside refl refl

-- the blob ends where its lengths say
pub end_told : (file : List ℕ) (first : Bool) (at : ℕ) (header : BlobHeader) → IsHeader file first at header → blob_end file at ≡ Some (header.end + header.datasize)
unfolding blob_end
end_told file first at header h = rw (h.datasize, h.end_is) refl

-- it begins before it ends
pub end_behind : (file : List ℕ) (at end : ℕ) → blob_end file at ≡ Some end → at < end
unfolding blob_end
end_behind file at end e = end_by (at + 4 + size_at file at) at end (scalar_of 3 None (run_at file at).fields) (omega arith) e
  where
    end_by : (from at end : ℕ) (datasize : Option ℕ) → at < from → option_map (λ n. from + n) datasize ≡ Some end → at < end
    end_by from at end None up e = cc
    end_by from at end (Some n) up e = let is = same_Some (from + n) end e in omega arith
