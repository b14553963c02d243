-- A message is read as its fields, which tile its bytes.
use Rattle.std.proofs.Common.{◌≡◌, ◌∙◌, ℕ, zero, suc, ◌+◌, ◌<◌, ◌≤◌, List, [], ◌∷◌, ◌++◌, length, None, Ok, true, false, ltb, refl, sym, subst, arith, append_assoc, append-nil, length-append}
use Rattle.std.proofs.lemmas.Bool.Decides.{nat_tests}
use Rattle.std.specs.List.{AllByRecursion}
use Rattle.pbf_wire.specs.declared.wire.Field.{Field}
use Rattle.pbf_wire.specs.declared.fields.Spot.{Spot}
use Rattle.pbf_wire.specs.Wire.{field_of}
use Rattle.pbf_wire.specs.Runs.{run_from, run_of}
use Rattle.pbf_file_laws.specs.Messages.{Entry, IsEntry, varint_text, value_text, entry_text, message_text}
use Rattle.pbf_file_laws.specs.Reading.{IsFieldAt, IsRead, AreFields, MessagesAreRead}
use Rattle.pbf_file_laws.proofs.Varints.{varint_some}
use Rattle.pbf_file_laws.proofs.Fields.{field_there}

pub entry_some : (entry : Entry) → IsEntry entry → 0 < length (entry_text entry)
entry_some entry good =
    let key = varint_some entry.key good.key in
    let size : length (varint_text entry.key ++ value_text entry.value) ≡ length (varint_text entry.key) + length (value_text entry.value) = length-append (varint_text entry.key) (value_text entry.value) in
    omega arith

run_none : (most at : ℕ) (bytes : List ℕ) → length bytes ≤ at → run_from most bytes at ≡ record { fields = []; bad = None }
run_none zero at bytes end = refl
run_none (suc most) at bytes end =
    let test : ltb at (length bytes) ≡ false = grind (arith, nat_tests) in
    rw test refl

run_more : (most at next : ℕ) (bytes : List ℕ) (field : Field) (spots : List Spot) → at < length bytes → field_of bytes at ≡ Ok field → field.next ≡ next → run_from most bytes next ≡ record { fields = spots; bad = None } →
    run_from (suc most) bytes at ≡ record { fields = record { key = at; field = field } ∷ spots; bad = None }
run_more most at next bytes field spots inside here there behind =
    let test : ltb at (length bytes) ≡ true = grind (arith, nat_tests) in
    rw (test, here, there, behind) refl

-- a run of at most so many
record IsShortRun (most : ℕ) (bytes : List ℕ) (at : ℕ) (entries : List Entry) : Type 0 where
  spots : List Spot
  read : run_from most bytes at ≡ record { fields = spots; bad = None }
  are : AreFields bytes spots entries

run_all : (entries : List Entry) (most at : ℕ) (bytes front : List ℕ) → AllByRecursion IsEntry entries → bytes ≡ front ++ message_text entries → at ≡ length front → length (message_text entries) ≤ most → IsShortRun most bytes at entries
run_all [] most at bytes front good e p room =
    record { spots = []; read = run_none most at bytes (rw (e, p, append-nil front) (omega arith)); are = tt }
run_all (entry ∷ entries) zero at bytes front good e p room =
    let one = entry_some entry good.0 in
    let size : length (entry_text entry ++ message_text entries) ≡ length (entry_text entry) + length (message_text entries) = length-append (entry_text entry) (message_text entries) in
    absurd (omega arith)
run_all (entry ∷ entries) (suc most) at bytes front good e p room =
    let text = entry_text entry in
    let tail = message_text entries in
    let one = entry_some entry good.0 in
    let size : length (text ++ tail) ≡ length text + length tail = length-append text tail in
    let whole : length bytes ≡ length front + length (text ++ tail) = rw e (length-append front (text ++ tail)) in
    let found : IsRead (front ++ (text ++ tail)) (length front) entry = field_there front tail entry good.0 in
    let here : field_of bytes at ≡ Ok found.field = rw (e, p) found.read in
    let next : found.field.next ≡ at + length text = found.next ∙ sym (rw p refl) in
    let longer : at + length text ≡ length (front ++ text) = rw p (sym (length-append front text)) in
    let behind = run_all entries most (at + length text) bytes (front ++ text) good.1 (e ∙ sym (append_assoc front text tail)) longer (omega arith) in
    record {
      spots = record { key = at; field = found.field } ∷ behind.spots;
      read = run_more most at (at + length text) bytes found.field behind.spots (omega arith) here next behind.read;
      are = (subst (λ (b : List ℕ). IsFieldAt b found.field entry) (sym e) found.is, behind.are);
    }

pub message_read : MessagesAreRead
unfolding run_of
message_read bytes content at entries stands written =
    let e : bytes ≡ stands.before ++ message_text entries = rw (sym written.text) stands.whole in
    let size : length bytes ≡ length stands.before + length (message_text entries) = rw e (length-append stands.before (message_text entries)) in
    let run = run_all entries (length bytes) at bytes stands.before written.are e stands.place (omega arith) in
    record { spots = run.spots; read = run.read; are = run.are }
