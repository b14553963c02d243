-- A text that is given piece by piece.
use Rattle.std.proofs.Common.{◌≡◌, ◌∙◌, ℕ, ◌+◌, ◌-◌, ◌<◌, ◌≤◌, min, zero, suc, List, [], ◌∷◌, ◌++◌, Option, Result, Ok, Err, OnErr, length, take, drop, map, codes, refl, ap, length-drop, arith}
use Rattle.std.specs.Io.KnownBytes.{Appends}
use Rattle.std.proofs.KnownBytes.{Appends-nil, Appends-trans}
use Rattle.std.proofs.lemmas.List.{take-append-le, take_min, drop_min}
use Rattle.std.proofs.Math.Seq.{take-append-add}
use Rattle.gh_base.specs.Causes.{AppendsFront}
use Rattle.pbf_wire.specs.Writing.{cut, blocks_text, entry_text}

-- a front of a text is one of a longer text, and behind a text one of both
pub front_wide : (old now : Option (List ℕ)) (text more : List ℕ) → AppendsFront old now text → AppendsFront old now (text ++ more)
front_wide old now text more given = (min given.0 (length text), rw (take-append-le (min given.0 (length text)) text more (omega arith), take_min given.0 text) given.1)

pub front_behind : (old now next : Option (List ℕ)) (text more : List ℕ) → Appends old now text → AppendsFront now next more → AppendsFront old next (text ++ more)
front_behind old now next text more given behind = (length text + behind.0, rw (take-append-add text more behind.0) (Appends-trans old now next text (take behind.0 more) given behind.1))

pub on_err : {T E P : Type 0} (r : Result T E) → P → OnErr r P
on_err (Ok x) p = tt
on_err (Err e) p = p

-- of the parts of a list these are left: what is given of them is given of the whole
pub record IsSending {X : Type 0} (old now : Option (List ℕ)) (whole : List ℕ) (count : List X → ℕ) (block : List X → List ℕ) (rest : List X) : Type 0 where
  pub most : ℕ
  pub room : length rest ≤ most
  pub ok : (next : Option (List ℕ)) → Appends now next (blocks_text (map block (cut count most rest))) → Appends old next whole
  pub err : (next : Option (List ℕ)) → AppendsFront now next (blocks_text (map block (cut count most rest))) → AppendsFront old next whole

pub sending_start : {X : Type 0} (old : Option (List ℕ)) (count : List X → ℕ) (block : List X → List ℕ) (rest : List X) → IsSending old old (blocks_text (map block (cut count (length rest) rest))) count block rest
sending_start old count block rest = record { most = length rest; room = omega arith; ok = λ next given. given; err = λ next given. given }

-- the next part, and those behind it
next_part : {X : Type 0} (most : ℕ) (count : List X → ℕ) (block : List X → List ℕ) (rest part more : List X) (text : List ℕ) → length rest ≤ most → 0 < length rest → part ≡ take (count rest) rest → more ≡ drop (count rest) rest → text ≡ block part →
    blocks_text (map block (cut count most rest)) ≡ entry_text (codes "OSMData") text ++ blocks_text (map block (cut count (most - 1) more))
next_part most count block [] part more text room some e f same = absurd (omega arith)
next_part zero count block (x ∷ xs) part more text room some e f same = absurd (omega arith)
next_part (suc most) count block (x ∷ xs) part more text room some e f same = let left : suc most - 1 ≡ most = omega arith in rw (left, same, e, f) refl

pub sending_more : {X : Type 0} (old now next : Option (List ℕ)) (whole : List ℕ) (count : List X → ℕ) (block : List X → List ℕ) (rest part more : List X) (text : List ℕ) → IsSending old now whole count block rest → 0 < length rest → 0 < count rest → part ≡ take (count rest) rest → more ≡ drop (count rest) rest → text ≡ block part → Appends now next (entry_text (codes "OSMData") text) → IsSending old next whole count block more
sending_more old now next whole count block rest part more text sending some counts e f same given =
    let split = next_part sending.most count block rest part more text sending.room some e f same in
    record {
      most = sending.most - 1;
      room = rw f (omega (arith, length-drop (count rest) rest, sending.room));
      ok = λ last behind. sending.ok last (rw split (Appends-trans now next last _ _ given behind));
      err = λ last behind. sending.err last (rw split (front_behind now next last _ _ given behind));
    }

-- or a front of it
pub sending_part : {X : Type 0} (old now next : Option (List ℕ)) (whole : List ℕ) (count : List X → ℕ) (block : List X → List ℕ) (rest part : List X) (text : List ℕ) → IsSending old now whole count block rest → 0 < length rest → part ≡ take (count rest) rest → text ≡ block part → AppendsFront now next (entry_text (codes "OSMData") text) → AppendsFront old next whole
sending_part old now next whole count block rest part text sending some e same given = sending.err next (rw (next_part sending.most count block rest part (drop (count rest) rest) text sending.room some e refl same) (front_wide now next _ _ given))

pub sending_front : {X : Type 0} (old now : Option (List ℕ)) (whole : List ℕ) (count : List X → ℕ) (block : List X → List ℕ) (rest : List X) → IsSending old now whole count block rest → AppendsFront old now whole
sending_front old now whole count block rest sending = sending.err now (0, Appends-nil now)

none_left : {X : Type 0} (most : ℕ) (count : List X → ℕ) (block : List X → List ℕ) → blocks_text (map block (cut count most [])) ≡ []
none_left zero count block = refl
none_left (suc most) count block = refl

pub sending_end : {X : Type 0} (old now : Option (List ℕ)) (whole : List ℕ) (count : List X → ℕ) (block : List X → List ℕ) (rest : List X) → IsSending old now whole count block rest → rest ≡ [] → Appends old now whole
sending_end old now whole count block rest sending e = sending.ok now (rw (ap (λ r. blocks_text (map block (cut count sending.most r))) e ∙ none_left sending.most count block) (Appends-nil now))

-- a short list is taken whole
pub take_few : {X : Type 0} (xs : List X) (most n : ℕ) → n ≡ min most (length xs) → take n xs ≡ take most xs
take_few xs most n e = ap (λ k. take k xs) e ∙ take_min most xs

pub drop_few : {X : Type 0} (xs : List X) (most n : ℕ) → n ≡ min most (length xs) → drop n xs ≡ drop most xs
drop_few xs most n e = ap (λ k. drop k xs) e ∙ drop_min most xs
