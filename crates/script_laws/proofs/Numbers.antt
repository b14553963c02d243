-- Written numbers are read again: edges, speeds, places, counts.
use Rattle.std.proofs.Common.{◌≡◌, ◌≢◌, ◌∙◌, ℕ, zero, suc, ℤ, pos, negsuc, neg_ℤ, ◌≤ℤ◌, ◌+◌, ◌-◌, ◌*◌, ◌/◌, ◌%◌, ◌^◌, ◌<◌, ◌≤◌, List, [], ◌∷◌, ◌++◌, length, length-append, take, drop, Option, Some, None, Bool, true, false, ◌&&◌, eqb, ltb, leb, nat_abs, refl, ap, sym, arith, append-nil}
use Rattle.std.specs.Prelude.{position, decimal}
use Rattle.std.specs.Fmt.{signed_decimal}
use Rattle.std.proofs.Math.Seq.{take-append_seam, drop-append_seam}
use Rattle.std.proofs.lemmas.Bool.{ne_eqb}
use Rattle.std.proofs.lemmas.Bool.Decides.{nat_tests}
use Rattle.std.proofs.lemmas.Fmt.{length-decimal-le}
use Rattle.std.proofs.lemmas.Int.{ints}
use Rattle.std.proofs.lemmas.List.{take_at}
use Rattle.gh_base.specs.Decimals.{digits_from, natural_of, split_at_dot, decimal_of, is_minus}
use Rattle.gh_base.specs.Maps.{IsShort}
use Rattle.gh_base.specs.Parts.{parts_of}
use Rattle.gh_base.specs.Places.{IsWithin}
use Rattle.gh_base.specs.declared.query.Place.{Place}
use Rattle.gh_base.specs.declared.query.Place.TheVariants.{Id, At}
use Rattle.plain_map.specs.Printing.{coordinate_text, degrees_text, dotted, places_text}
use Rattle.plain_map.proofs.Splits.{Each, each_append, each_more, Without, cut_at, cut_end}
use Rattle.plain_map.proofs.PrintedNumbers.{IsDigit, Spells, decimal_spells, natural_spelled, id_again}
use Rattle.plain_map.proofs.PrintedPlaces.{SpellsPlaces, places_spelled, dot_at, dot_none, decimal_again}
use Rattle.plain_map.proofs.PrintedBytes.{IsOfNumber, id_bytes, coordinate_bytes}
use Rattle.script_text.specs.Fields.{behind, coordinate_of, place_of, edge_of, speed_of, count_of, direction_of}
use Rattle.script_laws.specs.Writing.{place_word, edge_word, speed_word, IsSayablePlace, IsSayableLimit}
use Rattle.script_laws.proofs.Words.{IsGraphic}

pub natural_again : (most n : ℕ) → 0 < most → n < 10 ^ most → n < 2 ^ 64 → natural_of most (decimal n) ≡ Some n
natural_again most n some few small = natural_spelled most n (decimal n) (decimal_spells n small) (length-decimal-le most n some few small)

-- ---- what bytes they have

graphic_digit : (b : ℕ) → IsDigit b → IsGraphic b
graphic_digit b h = record { above = omega (arith, h.low); ascii = omega (arith, h.high) }

graphic_number : (b : ℕ) → IsOfNumber b → IsGraphic b
graphic_number b h = record { above = omega (arith, h.low); ascii = omega (arith, h.high) }

pub decimal_graphic : (n : ℕ) → n < 2 ^ 64 → Each IsGraphic (decimal n)
decimal_graphic n h = each_more IsDigit IsGraphic graphic_digit (decimal n) (decimal_spells n h).each

pub letter : (b : ℕ) → 32 < b → b < 128 → IsGraphic b
letter b h k = record { above = h; ascii = k }

pub edge_graphic : (edge : ℕ) (reverse : Bool) → edge < 10 ^ 9 → Each IsGraphic (edge_word edge reverse)
edge_graphic edge false h = each_append IsGraphic (decimal edge) (43 ∷ []) (decimal_graphic edge (omega arith)) (letter 43 (omega arith) (omega arith), tt)
edge_graphic edge true h = each_append IsGraphic (decimal edge) (45 ∷ []) (decimal_graphic edge (omega arith)) (letter 45 (omega arith) (omega arith), tt)

dotted_graphic : (ds : List ℕ) → Each IsDigit ds → Each IsGraphic (dotted ds)
dotted_graphic [] h = tt
dotted_graphic (b ∷ ds) h = (letter 46 (omega arith) (omega arith), each_more IsDigit IsGraphic graphic_digit (b ∷ ds) h)

pub speed_graphic : (speed : ℕ) → speed < 2 ^ 32 → Each IsGraphic (speed_word speed)
speed_graphic speed h =
    each_append IsGraphic (decimal (speed / 1000)) (dotted (places_text 3 (speed % 1000))) (decimal_graphic (speed / 1000) (omega arith)) (dotted_graphic (places_text 3 (speed % 1000)) (places_spelled 3 (speed % 1000) (omega arith)).each)

within : (most : ℕ) (z : ℤ) → neg_ℤ (pos most) ≤ℤ z → z ≤ℤ pos most → nat_abs z ≤ most
within most (pos n) low high = omega (arith, ints)
within most (negsuc n) low high = omega (arith, ints)

pub place_graphic : (place : Place) → IsSayablePlace place → Each IsGraphic (place_word place)
place_graphic (Id id) h = (letter 110 (omega arith) (omega arith), each_more IsOfNumber IsGraphic graphic_number (signed_decimal id) (id_bytes id h))
place_graphic (At point) h =
    let lat : nat_abs point.lat ≤ 900000000 = within 900000000 point.lat h.south h.north in
    let lon : nat_abs point.lon ≤ 1800000000 = within 1800000000 point.lon h.west h.east in
    each_append IsGraphic (coordinate_text point.lat) (44 ∷ coordinate_text point.lon) (each_more IsOfNumber IsGraphic graphic_number (coordinate_text point.lat) (coordinate_bytes point.lat (omega arith)))
    (letter 44 (omega arith) (omega arith), each_more IsOfNumber IsGraphic graphic_number (coordinate_text point.lon) (coordinate_bytes point.lon (omega arith)))

-- ---- an edge

pub front_of : (ds : List ℕ) (b : ℕ) → (take (length (ds ++ b ∷ []) - 1) (ds ++ b ∷ []) ≡ ds) × (drop (length (ds ++ b ∷ []) - 1) (ds ++ b ∷ []) ≡ b ∷ [])
front_of ds b =
    let e : length (ds ++ b ∷ []) - 1 ≡ length ds = omega (arith, length-append ds (b ∷ [])) in
    rw e (take-append_seam ds (b ∷ []), drop-append_seam ds (b ∷ []))

pub edge_again : (edge : ℕ) (reverse : Bool) → edge < 10 ^ 9 → edge_of (edge_word edge reverse) ≡ Some (edge, reverse)
unfolding edge_of
edge_again edge false h = let f = front_of (decimal edge) 43 in rw (f.1, f.0, natural_again 9 edge (omega arith) h (omega arith)) refl
edge_again edge true h = let f = front_of (decimal edge) 45 in rw (f.1, f.0, natural_again 9 edge (omega arith) h (omega arith)) refl

-- ---- a speed

no_dot : (ds : List ℕ) → Each IsDigit ds → Without 46 ds
no_dot ds h = each_more IsDigit _ (λ b k. ne_eqb b 46 (λ e. omega (arith, k.low))) ds h

not_below : (n : ℕ) → ltb n n ≡ false
not_below n = grind (arith, nat_tests)

position_none : (xs : List ℕ) → Without 46 xs → position (λ b. eqb b 46) xs ≡ None
position_none xs h = rw (dot_none xs h, not_below (length xs)) refl

position_dot : (xs ys : List ℕ) → Without 46 xs → position (λ b. eqb b 46) (xs ++ 46 ∷ ys) ≡ Some (length xs)
position_dot xs ys h =
    let longer : length xs < length (xs ++ 46 ∷ ys) = omega (arith, length-append xs (46 ∷ ys)) in
    let test : ltb (length xs) (length (xs ++ 46 ∷ ys)) ≡ true = grind (arith, nat_tests) in
    rw (dot_at xs ys h, test) refl

drop_past : (xs ys : List ℕ) → drop (length xs + 1) (xs ++ 46 ∷ ys) ≡ ys
drop_past [] ys = refl
drop_past (x ∷ xs) ys = let e : suc (length xs) + 1 ≡ suc (length xs + 1) = omega arith in rw e (drop_past xs ys)

none_left : (value : ℕ) → digits_from 0 [] ≡ Some (0 * 10 ^ length {A = ℕ} [] + value) → value ≡ 0
none_left value e = let k : 0 ≡ 0 * 1 + value = cc in omega (arith, k)

with_places : (q r : ℕ) (xs places : List ℕ) → Spells q xs → length xs ≤ 9 → SpellsPlaces 3 r places → split_at_dot 3 (xs ++ dotted places) (position (λ b. eqb b 46) (xs ++ dotted places)) ≡ Some (q * 10 ^ 3 + r)
unfolding split_at_dot
with_places q r xs [] s few p =
    let zero_value : p.value ≡ 0 = none_left p.value (p.reads 0) in
    let none : r ≡ 0 = omega (arith, p.scaled, zero_value) in
    rw (append-nil xs, position_none xs (no_dot xs s.each), natural_spelled 9 q xs s few) (ap Some (omega arith))
with_places q r xs (b ∷ bs) s few p =
    let value : digits_from 0 (b ∷ bs) ≡ Some p.value = p.reads 0 ∙ ap Some (omega arith) in
    let spelled : Spells p.value (b ∷ bs) = record { value = value; each = p.each; some = omega arith } in
    rw (position_dot xs (b ∷ bs) (no_dot xs s.each), take_at xs (46 ∷ b ∷ bs) (length xs) refl, drop_past xs (b ∷ bs), natural_spelled 9 q xs s few, natural_spelled 3 p.value (b ∷ bs) spelled p.few)
    (ap (λ x. Some (q * 10 ^ 3 + x)) p.scaled)

no_minus_front : (xs ys : List ℕ) → Each IsDigit xs → 0 < length xs → is_minus (xs ++ ys) ≡ false
no_minus_front [] ys h some = absurd (omega arith)
no_minus_front (b ∷ xs) ys h some = ne_eqb b 45 (λ e. omega (arith, h.0.low))

speed_decimal : (speed : ℕ) → speed < 2 ^ 32 → decimal_of 3 (speed_word speed) ≡ Some (pos speed)
unfolding decimal_of
speed_decimal speed h =
    let whole = decimal_spells (speed / 1000) (omega arith) in
    let places = places_spelled 3 (speed % 1000) (omega arith) in
    let few = length-decimal-le 9 (speed / 1000) (omega arith) (omega arith) (omega arith) in
    rw (no_minus_front (decimal (speed / 1000)) (dotted (places_text 3 (speed % 1000))) whole.each whole.some, with_places (speed / 1000) (speed % 1000) (decimal (speed / 1000)) (places_text 3 (speed % 1000)) whole few places)
    (ap (λ n. Some (pos n)) (omega arith))

pub speed_again : (speed : ℕ) → speed < 2 ^ 32 → speed_of (speed_word speed) ≡ Some speed
unfolding speed_of
speed_again speed h = let fits : leb speed 4294967295 ≡ true = grind (arith, nat_tests) in rw (speed_decimal speed h, fits) refl

-- ---- a place

no_comma : (a : List ℕ) → Each IsOfNumber a → Without 44 a
no_comma a h = each_more IsOfNumber _ (λ b k. ne_eqb b 44 (λ e. omega (arith, k.low))) a h

no_letter : (a rest : List ℕ) → Each IsOfNumber a → 0 < length a → behind 110 (a ++ rest) ≡ None
no_letter [] rest h some = absurd (omega arith)
no_letter (b ∷ a) rest h some = let e : eqb b 110 ≡ false = ne_eqb b 110 (λ e. omega (arith, h.0.high)) in rw e refl

some_digits : (z : ℤ) → nat_abs z < 10 ^ 16 → 0 < length (coordinate_text z)
some_digits (pos n) h = let s = (decimal_spells (n / 10000000) (omega arith)).some in omega (arith, length-append (decimal (n / 10000000)) (dotted (places_text 7 (n % 10000000))), s)
some_digits (negsuc n) h = omega arith

coordinate_again : (most : ℕ) (z : ℤ) → nat_abs z ≤ most → most ≤ 1800000000 → coordinate_of most (coordinate_text z) ≡ Some z
unfolding coordinate_of
coordinate_again most z h le = let test : leb (nat_abs z) most ≡ true = grind (arith, nat_tests) in rw (decimal_again z (omega arith), test) refl

pub place_again : (place : Place) → IsSayablePlace place → place_of (place_word place) ≡ Some place
unfolding place_of
place_again (Id id) h = rw (id_again id h) refl
place_again (At point) h =
    let lat : nat_abs point.lat ≤ 900000000 = within 900000000 point.lat h.south h.north in
    let lon : nat_abs point.lon ≤ 1800000000 = within 1800000000 point.lon h.west h.east in
    let bytes = coordinate_bytes point.lat (omega arith) in
    let parts : parts_of 44 (coordinate_text point.lat ++ 44 ∷ coordinate_text point.lon) ≡ coordinate_text point.lat ∷ coordinate_text point.lon ∷ [] =
    cut_at 44 (coordinate_text point.lat) (coordinate_text point.lon) (no_comma (coordinate_text point.lat) bytes)
    ∙ ap (λ (w : List (List ℕ)). coordinate_text point.lat ∷ w) (cut_end 44 (coordinate_text point.lon) (no_comma (coordinate_text point.lon) (coordinate_bytes point.lon (omega arith)))) in
    rw (no_letter (coordinate_text point.lat) (44 ∷ coordinate_text point.lon) bytes (some_digits point.lat (omega arith)), parts, coordinate_again 900000000 point.lat lat (omega arith), coordinate_again 1800000000 point.lon lon (omega arith)) refl

-- ---- a count

pub count_again : (least most n : ℕ) → least ≤ n → n ≤ most → most < 10 ^ 9 → count_of least most (decimal n) ≡ Some n
unfolding count_of
count_again least most n low high few =
    let l : leb least n ≡ true = grind (arith, nat_tests) in
    let h : leb n most ≡ true = grind (arith, nat_tests) in
    rw (natural_again 9 n (omega arith) (omega arith) (omega arith), l, h) refl
