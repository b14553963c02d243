-- What was printed is read again.
use Rattle.std.proofs.Common.{◌≡◌, ◌∙◌, sym, ap, subst, ℕ, zero, suc, ◌^◌, ◌<◌, ◌≤◌, Bool, true, false, cond, ◌&&◌, ◌||◌, not, eqb, nat_lt, nat_le, IsTrue, T, codes, flat_map, List, [], ◌∷◌, ◌++◌, length, map, Some, Ok, inl, inr, ◌⊎◌, refl, append_assoc, length-append, append-nil, IsUtf8, arith}
use Rattle.std.specs.Str.{chars, is_utf8}
use Rattle.std.proofs.lemmas.Str.{IsUtf8-from_is_utf8}
use Rattle.std.proofs.lemmas.Bool.Decides.{nat_tests}
use Rattle.gh_base.specs.declared.kinds.JsonKind.TheVariants.{End}
use Rattle.exact_json.specs.declared.reader.First.TheVariants as first
use Rattle.exact_json.specs.declared.value.Json.{Json, out-Json, roll-Json, roll-out-Json}
use Rattle.exact_json.specs.declared.value.Member.{Member, out-Member, roll-out-Member}
use Rattle.exact_json.specs.declared.value.Json.TheVariants as j
use Rattle.exact_json.specs.declared.value.Json.TheVariants.{rolls-Null, rolls-Flag, rolls-Number, rolls-Str, rolls-Array, rolls-Object}
use Rattle.exact_json.specs.declared.value.Json.TheOpen.{Json-F}
use Rattle.exact_json.specs.declared.value.Json.TheFolds.{fold-roll-Json, fold-roll-Member}
use Rattle.exact_json.specs.Parsing.{turns, sees, after, front}
use Rattle.exact_json.specs.Tokens.{Reader, is_space, after_space}
use Rattle.exact_json.specs.Decimals.{DecimalValue, IsExact, limit}
use Rattle.exact_json.specs.Values.{has_key, item_turn, member_turn, member, value_at, first_of, numeral, array, items, object, members, reads}
use Rattle.exact_json.specs.Printed.{joined_rest, joined, escaped_char, quoted, decimal_text, printed, printed_member, json_step, member_step}
use Rattle.exact_json.specs.Again.{AreNew, KeysDiffer, EachItem, EachValue, IsFlat, Holds, Fits, all_true, is_exact, sound_step, sound_member, is_sound, is_sound_member}
use Rattle.exact_json.proofs.Depths.{at_number}
use Rattle.exact_json.proofs.TextLaws.{text_again}
use Rattle.exact_json.proofs.NumberLaws.{Ends, Leads, number_again, number_leads}

-- what a caller needs of a printed value: it is read again, and begins with neither white space nor a closing bracket
pub record Again (value : Reader Json) (x : Json) : Type 0 where
  pub reads : (rest : List ℕ) → Ends rest → value (printed x ++ rest) ≡ Ok (x, rest)
  pub tight : (rest : List ℕ) → after_space (printed x ++ rest) ≡ printed x ++ rest
  pub open_not : (rest : List ℕ) → sees 93 (printed x ++ rest) ≡ false
  pub open_left : (rest : List ℕ) → after 93 (printed x ++ rest) ≡ printed x ++ rest

abbrev AllAgain : Reader Json → List Json → Type 0
AllAgain value [] = Unit {0}
AllAgain value (x ∷ xs) = Again value x × AllAgain value xs

-- arrays
abbrev tail : List Json → List ℕ → List ℕ
tail [] rest = 93 ∷ rest
tail (x ∷ xs) rest = 44 ∷ (printed x ++ tail xs rest)

items_again : (value : Reader Json) (xs : List Json) (x : Json) (n : ℕ) (found : List Json) (rest : List ℕ) → Again value x → AllAgain value xs → length xs < n
    → turns End (item_turn value) n found (printed x ++ tail xs rest) ≡ Ok (found ++ x ∷ xs, rest)
items_again value xs x zero found rest here later short = absurd (omega arith)
items_again value [] x (suc n) found rest here later short = rw (here.tight (93 ∷ rest), here.reads (93 ∷ rest) (inr (inl refl))) refl
items_again value (y ∷ ys) x (suc n) found rest here later short =
    rw (here.tight (tail (y ∷ ys) rest), here.reads (tail (y ∷ ys) rest) (inl refl))
    (items_again value ys y n (found ++ x ∷ []) rest later.0 later.1 (omega arith) ∙ ap (λ (all : List Json). Ok (all, rest)) (append_assoc found (x ∷ []) (y ∷ ys)))

-- the tail is what printing puts behind the first item
tail_is : (xs : List Json) (rest : List ℕ) → tail xs rest ≡ joined_rest (map printed xs) ++ 93 ∷ rest
tail_is [] rest = refl
tail_is (x ∷ xs) rest = ap (λ t. 44 ∷ t) (ap (λ t. printed x ++ t) (tail_is xs rest) ∙ sym (append_assoc (printed x) (joined_rest (map printed xs)) (93 ∷ rest)))

printed_null : printed j.Null ≡ codes "null"
printed_null = ap printed (sym rolls-Null) ∙ fold-roll-Json (List ℕ) (List ℕ) json_step member_step Json-F.Null

printed_flag : (b : Bool) → printed (j.Flag b) ≡ cond b (codes "true") (codes "false")
printed_flag b = ap printed (sym (rolls-Flag b)) ∙ fold-roll-Json (List ℕ) (List ℕ) json_step member_step (Json-F.Flag b)

printed_number : (d : DecimalValue) → printed (j.Number d) ≡ decimal_text d
printed_number d = ap printed (sym (rolls-Number d)) ∙ fold-roll-Json (List ℕ) (List ℕ) json_step member_step (Json-F.Number d)

printed_text : (t : List ℕ) → printed (j.Str t) ≡ quoted t
printed_text t = ap printed (sym (rolls-Str t)) ∙ fold-roll-Json (List ℕ) (List ℕ) json_step member_step (Json-F.Str t)

printed_array : (xs : List Json) → printed (j.Array xs) ≡ 91 ∷ (joined (map printed xs) ++ 93 ∷ [])
printed_array xs = ap printed (sym (rolls-Array xs)) ∙ fold-roll-Json (List ℕ) (List ℕ) json_step member_step (Json-F.Array xs)

printed_object : (ms : List Member) → printed (j.Object ms) ≡ 123 ∷ (joined (map printed_member ms) ++ 125 ∷ [])
printed_object ms = ap printed (sym (rolls-Object ms)) ∙ fold-roll-Json (List ℕ) (List ℕ) json_step member_step (Json-F.Object ms)

printed_parts : (m : Member) → printed_member m ≡ quoted (out-Member m).key ++ 58 ∷ printed (out-Member m).value
printed_parts m = ap printed_member (sym (roll-out-Member m)) ∙ fold-roll-Member (List ℕ) (List ℕ) json_step member_step (out-Member m)

null_again : (d : ℕ) → Again (value_at d) j.Null
unfolding value_at
null_again zero = record { reads = λ rest ends. rw printed_null refl; tight = λ rest. rw printed_null refl; open_not = λ rest. rw printed_null refl; open_left = λ rest. rw printed_null refl }
null_again (suc d) = record { reads = λ rest ends. rw printed_null refl; tight = λ rest. rw printed_null refl; open_not = λ rest. rw printed_null refl; open_left = λ rest. rw printed_null refl }

flag_again : (d : ℕ) (b : Bool) → Again (value_at d) (j.Flag b)
unfolding value_at
flag_again zero true = record { reads = λ rest ends. rw (printed_flag true) refl; tight = λ rest. rw (printed_flag true) refl; open_not = λ rest. rw (printed_flag true) refl; open_left = λ rest. rw (printed_flag true) refl }
flag_again zero false = record { reads = λ rest ends. rw (printed_flag false) refl; tight = λ rest. rw (printed_flag false) refl; open_not = λ rest. rw (printed_flag false) refl; open_left = λ rest. rw (printed_flag false) refl }
flag_again (suc d) true = record { reads = λ rest ends. rw (printed_flag true) refl; tight = λ rest. rw (printed_flag true) refl; open_not = λ rest. rw (printed_flag true) refl; open_left = λ rest. rw (printed_flag true) refl }
flag_again (suc d) false = record { reads = λ rest ends. rw (printed_flag false) refl; tight = λ rest. rw (printed_flag false) refl; open_not = λ rest. rw (printed_flag false) refl; open_left = λ rest. rw (printed_flag false) refl }

-- texts
quoted_with : (t rest : List ℕ) → quoted t ++ rest ≡ 34 ∷ (flat_map escaped_char (chars t) ++ 34 ∷ rest)
unfolding quoted
quoted_with t rest = ap (λ s. 34 ∷ s) (append_assoc (flat_map escaped_char (chars t)) (34 ∷ []) rest)

str_text : (t rest : List ℕ) → printed (j.Str t) ++ rest ≡ 34 ∷ (flat_map escaped_char (chars t) ++ 34 ∷ rest)
str_text t rest = rw (printed_text t) (quoted_with t rest)

str_reads : (d : ℕ) (t rest : List ℕ) → IsUtf8 t → value_at d (34 ∷ (flat_map escaped_char (chars t) ++ 34 ∷ rest)) ≡ Ok (j.Str t, rest)
unfolding value_at
str_reads zero t rest valid = rw (text_again t rest valid) refl
str_reads (suc d) t rest valid = rw (text_again t rest valid) refl

str_again : (d : ℕ) (t : List ℕ) → IsUtf8 t → Again (value_at d) (j.Str t)
str_again d t valid = record {
  reads = λ rest ends. rw (str_text t rest) (str_reads d t rest valid);
  tight = λ rest. rw (str_text t rest) refl;
  open_not = λ rest. rw (str_text t rest) refl;
  open_left = λ rest. rw (str_text t rest) refl;
}

-- numbers
record Leading (b : ℕ) : Type 0 where
  begins : first_of (Some b) ≡ first.Number
  space : is_space b ≡ false
  open_not : eqb b 93 ≡ false

leading : (b : ℕ) → (b ≡ 45) ⊎ ((48 ≤ b) × (b ≤ 57)) → Leading b
leading b (inl e) = record { begins = rw e refl; space = rw e refl; open_not = rw e refl }
leading b (inr h) =
    let low = h.0 in
    let high = h.1 in
    let a : eqb b 110 ≡ false = grind (arith, nat_tests) in
    let c : eqb b 116 ≡ false = grind (arith, nat_tests) in
    let d : eqb b 102 ≡ false = grind (arith, nat_tests) in
    let e : eqb b 34 ≡ false = grind (arith, nat_tests) in
    let f : eqb b 91 ≡ false = grind (arith, nat_tests) in
    let g : eqb b 123 ≡ false = grind (arith, nat_tests) in
    let i : eqb b 45 ≡ false = grind (arith, nat_tests) in
    let k : nat_le 48 b ≡ true = grind (arith, nat_tests) in
    let l : nat_le b 57 ≡ true = grind (arith, nat_tests) in
    record {
      begins = rw (a, c, d, e, f, g, i, k, l) refl;
      space = grind (arith, nat_tests);
      open_not = grind (arith, nat_tests);
    }

number_text : (d : DecimalValue) (rest : List ℕ) → IsExact d → Leads (decimal_text d) → (b : ℕ) × (bs : List ℕ) × (printed (j.Number d) ++ rest ≡ b ∷ bs) × Leading b
number_text d rest exact l = (l.0, l.1 ++ rest, ap (λ (t : List ℕ). t ++ rest) (printed_number d ∙ l.2), leading l.0 l.3)

numeral_again : (d : DecimalValue) (rest : List ℕ) → IsExact d → Ends rest → numeral (printed (j.Number d) ++ rest) ≡ Ok (j.Number d, rest)
unfolding numeral
numeral_again d rest exact ends = rw (printed_number d, number_again d rest exact ends) refl

first_number : (t : List ℕ) (b : ℕ) (bs : List ℕ) → t ≡ b ∷ bs → Leading b → first_of (front t) ≡ first.Number
first_number t b bs e l = let f = l.begins in rw e f

tight_number : (t : List ℕ) (b : ℕ) (bs : List ℕ) → t ≡ b ∷ bs → Leading b → (after_space t ≡ t) × (sees 93 t ≡ false) × (after 93 t ≡ t)
tight_number t b bs e l = let s = l.space in let o = l.open_not in rw (e, s, o) (refl, refl, refl)

number_value : (n : ℕ) (d : DecimalValue) → IsExact d → Again (value_at n) (j.Number d)
number_value n d exact = record {
  reads = λ rest ends. let t = number_text d rest exact (number_leads d exact) in at_number n (printed (j.Number d) ++ rest) (first_number (printed (j.Number d) ++ rest) t.0 t.1 t.2 t.3) ∙ numeral_again d rest exact ends;
  tight = λ rest. let t = number_text d rest exact (number_leads d exact) in (tight_number (printed (j.Number d) ++ rest) t.0 t.1 t.2 t.3).0;
  open_not = λ rest. let t = number_text d rest exact (number_leads d exact) in (tight_number (printed (j.Number d) ++ rest) t.0 t.1 t.2 t.3).1;
  open_left = λ rest. let t = number_text d rest exact (number_leads d exact) in (tight_number (printed (j.Number d) ++ rest) t.0 t.1 t.2 t.3).2;
}

-- arrays, whole
empty_again : (d : ℕ) → Again (value_at (suc d)) (j.Array [])
unfolding value_at array
empty_again d = record { reads = λ rest ends. rw (printed_array []) refl; tight = λ rest. rw (printed_array []) refl; open_not = λ rest. rw (printed_array []) refl; open_left = λ rest. rw (printed_array []) refl }

-- the text of an array, with what follows it
array_text : (x : Json) (xs : List Json) (rest : List ℕ) → printed (j.Array (x ∷ xs)) ++ rest ≡ 91 ∷ (printed x ++ tail xs rest)
array_text x xs rest =
    let more = joined_rest (map printed xs) in
    rw (printed_array (x ∷ xs), tail_is xs rest)
    (ap (λ t. 91 ∷ t) (append_assoc (printed x ++ more) (93 ∷ []) rest ∙ append_assoc (printed x) more (93 ∷ rest)))

tail_long : (xs : List Json) (rest : List ℕ) → length xs < length (tail xs rest)
tail_long [] rest = omega arith
tail_long (x ∷ xs) rest = omega (arith, length-append (printed x) (tail xs rest), tail_long xs rest)

array_again : (d : ℕ) (x : Json) (xs : List Json) → Again (value_at d) x → AllAgain (value_at d) xs → Again (value_at (suc d)) (j.Array (x ∷ xs))
unfolding value_at array items
array_again d x xs here later = record {
  reads = λ rest ends.
      let after_x = tail xs rest in
      let long : length xs < length (printed x ++ after_x) = omega (arith, length-append (printed x) after_x, tail_long xs rest) in
      let found = items_again (value_at d) xs x (length (printed x ++ after_x)) [] rest here later long in
      rw (array_text x xs rest, here.tight after_x, here.open_not after_x, here.open_left after_x, found) refl;
  tight = λ rest. rw (printed_array (x ∷ xs)) refl;
  open_not = λ rest. rw (printed_array (x ∷ xs)) refl;
  open_left = λ rest. rw (printed_array (x ∷ xs)) refl;
}

-- members
record MemberAgain (value : Reader Json) (m : Member) : Type 0 where
  named : IsUtf8 (out-Member m).key
  again : Again value (out-Member m).value

abbrev AllMembers : Reader Json → List Member → Type 0
AllMembers value [] = Unit {0}
AllMembers value (m ∷ ms) = MemberAgain value m × AllMembers value ms

member_text : (m : Member) (rest : List ℕ) → printed_member m ++ rest ≡ 34 ∷ (flat_map escaped_char (chars (out-Member m).key) ++ 34 ∷ 58 ∷ (printed (out-Member m).value ++ rest))
member_text m rest =
    let k = (out-Member m).key in
    let v = printed (out-Member m).value in
    rw (printed_parts m, append_assoc (quoted k) (58 ∷ v) rest) (quoted_with k (58 ∷ (v ++ rest)))

one_member : (value : Reader Json) (m : Member) (found : List Member) (rest : List ℕ) → MemberAgain value m → has_key (out-Member m).key found ≡ false → Ends rest
    → member value found (printed_member m ++ rest) ≡ Ok (m, rest)
unfolding member
one_member value m found rest here fresh ends =
    let k = (out-Member m).key in
    let v = (out-Member m).value in
    rw (member_text m rest, text_again k (58 ∷ (printed v ++ rest)) here.named, fresh, here.again.tight rest, here.again.reads rest ends) (ap (λ (x : Member). Ok (x, rest)) (roll-out-Member m))

member_tight : (m : Member) (rest : List ℕ) → after_space (printed_member m ++ rest) ≡ printed_member m ++ rest
member_tight m rest = rw (member_text m rest) refl

abbrev member_tail : List Member → List ℕ → List ℕ
member_tail [] rest = 125 ∷ rest
member_tail (m ∷ ms) rest = 44 ∷ (printed_member m ++ member_tail ms rest)

members_again : (value : Reader Json) (ms : List Member) (m : Member) (n : ℕ) (found : List Member) (rest : List ℕ) → MemberAgain value m → AllMembers value ms → AreNew found (m ∷ ms) → length ms < n
    → turns End (member_turn value) n found (printed_member m ++ member_tail ms rest) ≡ Ok (found ++ m ∷ ms, rest)
members_again value ms m zero found rest here later new short = absurd (omega arith)
members_again value [] m (suc n) found rest here later new short = rw (member_tight m (125 ∷ rest), one_member value m found (125 ∷ rest) here new.0 (inr (inr refl))) refl
members_again value (y ∷ ys) m (suc n) found rest here later new short =
    rw (member_tight m (member_tail (y ∷ ys) rest), one_member value m found (member_tail (y ∷ ys) rest) here new.0 (inl refl))
    (members_again value ys y n (found ++ m ∷ []) rest later.0 later.1 new.1 (omega arith) ∙ ap (λ (all : List Member). Ok (all, rest)) (append_assoc found (m ∷ []) (y ∷ ys)))

member_tail_is : (ms : List Member) (rest : List ℕ) → member_tail ms rest ≡ joined_rest (map printed_member ms) ++ 125 ∷ rest
member_tail_is [] rest = refl
member_tail_is (m ∷ ms) rest = ap (λ t. 44 ∷ t) (ap (λ t. printed_member m ++ t) (member_tail_is ms rest) ∙ sym (append_assoc (printed_member m) (joined_rest (map printed_member ms)) (125 ∷ rest)))

none_again : (d : ℕ) → Again (value_at (suc d)) (j.Object [])
unfolding value_at object
none_again d = record { reads = λ rest ends. rw (printed_object []) refl; tight = λ rest. rw (printed_object []) refl; open_not = λ rest. rw (printed_object []) refl; open_left = λ rest. rw (printed_object []) refl }

object_text : (m : Member) (ms : List Member) (rest : List ℕ) → printed (j.Object (m ∷ ms)) ++ rest ≡ 123 ∷ (printed_member m ++ member_tail ms rest)
object_text m ms rest =
    let more = joined_rest (map printed_member ms) in
    rw (printed_object (m ∷ ms), member_tail_is ms rest)
    (ap (λ t. 123 ∷ t) (append_assoc (printed_member m ++ more) (125 ∷ []) rest ∙ append_assoc (printed_member m) more (125 ∷ rest)))

member_tail_long : (ms : List Member) (rest : List ℕ) → length ms < length (member_tail ms rest)
member_tail_long [] rest = omega arith
member_tail_long (m ∷ ms) rest = omega (arith, length-append (printed_member m) (member_tail ms rest), member_tail_long ms rest)

-- behind the bracket stands a quote
member_open : (m : Member) (rest : List ℕ) → (sees 125 (printed_member m ++ rest) ≡ false) × (after 125 (printed_member m ++ rest) ≡ printed_member m ++ rest)
member_open m rest = rw (member_text m rest) (refl, refl)

object_again : (d : ℕ) (m : Member) (ms : List Member) → MemberAgain (value_at d) m → AllMembers (value_at d) ms → KeysDiffer (m ∷ ms) → Again (value_at (suc d)) (j.Object (m ∷ ms))
unfolding value_at object members
object_again d m ms here later differ = record {
  reads = λ rest ends.
      let after_m = member_tail ms rest in
      let long : length ms < length (printed_member m ++ after_m) = omega (arith, length-append (printed_member m) after_m, member_tail_long ms rest) in
      let found = members_again (value_at d) ms m (length (printed_member m ++ after_m)) [] rest here later differ long in
      let opened = member_open m after_m in
      rw (object_text m ms rest, member_tight m after_m, opened.0, opened.1, found) refl;
  tight = λ rest. rw (printed_object (m ∷ ms)) refl;
  open_not = λ rest. rw (printed_object (m ∷ ms)) refl;
  open_left = λ rest. rw (printed_object (m ∷ ms)) refl;
}

-- what the types say, layer by layer
both : (a b : Bool) → a && b ≡ true → (a ≡ true) × (b ≡ true)
both true b e = (refl, e)
both false b e = absurd (subst T (sym e) tt)

exact_from : (d : DecimalValue) → is_exact d ≡ true → IsExact d
exact_from d e =
    let p = both (nat_lt d.digits limit && nat_le d.places 18) (not d.negative || nat_lt 0 d.digits) e in
    let q = both (nat_lt d.digits limit) (nat_le d.places 18) p.0 in
    (small d.digits q.0, few d.places q.1, signed d.negative d.digits p.1)
  where
    small : (n : ℕ) → nat_lt n limit ≡ true → n < 10 ^ 18
    small n t = grind (arith, nat_tests)

    few : (n : ℕ) → nat_le n 18 ≡ true → n ≤ 18
    few n t = grind (arith, nat_tests)

    signed : (s : Bool) (n : ℕ) → not s || nat_lt 0 n ≡ true → IsTrue s → 0 < n
    signed true n t h = grind (arith, nat_tests)
    signed false n t h = absurd (subst T (sym h) tt)

sound_number : (d : DecimalValue) → is_sound (roll-Json (Json-F.Number d)) ≡ true → IsExact d
sound_number d s = exact_from d (sym (fold-roll-Json Bool Bool sound_step sound_member (Json-F.Number d)) ∙ s)

sound_text : (t : List ℕ) → is_sound (roll-Json (Json-F.Str t)) ≡ true → IsUtf8 t
sound_text t s = IsUtf8-from_is_utf8 t (sym (fold-roll-Json Bool Bool sound_step sound_member (Json-F.Str t)) ∙ s)

sound_array : (xs : List Json) → is_sound (roll-Json (Json-F.Array xs)) ≡ true → all_true (map is_sound xs) ≡ true
sound_array xs s = sym (fold-roll-Json Bool Bool sound_step sound_member (Json-F.Array xs)) ∙ s

sound_object : (ms : List Member) → is_sound (roll-Json (Json-F.Object ms)) ≡ true → all_true (map is_sound_member ms) ≡ true
sound_object ms s = sym (fold-roll-Json Bool Bool sound_step sound_member (Json-F.Object ms)) ∙ s

sound_parts : (m : Member) → is_sound_member m ≡ true → (is_utf8 (out-Member m).key ≡ true) × (is_sound (out-Member m).value ≡ true)
sound_parts m s =
    let parts : is_sound_member m ≡ is_utf8 (out-Member m).key && is_sound (out-Member m).value = ap is_sound_member (sym (roll-out-Member m)) ∙ fold-roll-Member Bool Bool sound_step sound_member (out-Member m) in
    both (is_utf8 (out-Member m).key) (is_sound (out-Member m).value) (sym parts ∙ s)

-- what holds of each value of this depth
abbrev Deep : ℕ → Type 0
Deep d = (v : Json) → Fits d v → is_sound v ≡ true → Again (value_at d) v

each_again : (d : ℕ) (xs : List Json) → Deep d → EachItem (Fits d) xs → all_true (map is_sound xs) ≡ true → AllAgain (value_at d) xs
each_again d [] ih fits sound = tt
each_again d (x ∷ xs) ih fits sound = let s = both (is_sound x) (all_true (map is_sound xs)) sound in (ih x fits.0 s.0, each_again d xs ih fits.1 s.1)

array_of : (d : ℕ) (xs : List Json) → Deep d → EachItem (Fits d) xs → all_true (map is_sound xs) ≡ true → Again (value_at (suc d)) (j.Array xs)
array_of d [] ih fits sound = empty_again d
array_of d (x ∷ xs) ih fits sound = let all = each_again d (x ∷ xs) ih fits sound in array_again d x xs all.0 all.1

each_member : (d : ℕ) (ms : List Member) → Deep d → EachValue (Fits d) ms → all_true (map is_sound_member ms) ≡ true → AllMembers (value_at d) ms
each_member d [] ih fits sound = tt
each_member d (m ∷ ms) ih fits sound =
    let s = both (is_sound_member m) (all_true (map is_sound_member ms)) sound in
    let p = sound_parts m s.0 in
    (record { named = IsUtf8-from_is_utf8 (out-Member m).key p.0; again = ih (out-Member m).value fits.0 p.1 }, each_member d ms ih fits.1 s.1)

object_of : (d : ℕ) (ms : List Member) → Deep d → KeysDiffer ms → EachValue (Fits d) ms → all_true (map is_sound_member ms) ≡ true → Again (value_at (suc d)) (j.Object ms)
object_of d [] ih differ fits sound = none_again d
object_of d (m ∷ ms) ih differ fits sound = let all = each_member d (m ∷ ms) ih fits sound in object_again d m ms all.0 all.1 differ

flat_again : (x : Json-F Json Member) → IsFlat x → is_sound (roll-Json x) ≡ true → Again (value_at 0) (roll-Json x)
flat_again Json-F.Null fits sound = subst (λ (w : Json). Again (value_at 0) w) (sym rolls-Null) (null_again 0)
flat_again (Json-F.Flag b) fits sound = subst (λ (w : Json). Again (value_at 0) w) (sym (rolls-Flag b)) (flag_again 0 b)
flat_again (Json-F.Number d) fits sound = subst (λ (w : Json). Again (value_at 0) w) (sym (rolls-Number d)) (number_value 0 d (sound_number d sound))
flat_again (Json-F.Str t) fits sound = subst (λ (w : Json). Again (value_at 0) w) (sym (rolls-Str t)) (str_again 0 t (sound_text t sound))
flat_again (Json-F.Array xs) fits sound = absurd fits
flat_again (Json-F.Object ms) fits sound = absurd fits

layer_again : (d : ℕ) (x : Json-F Json Member) → Deep d → Holds (Fits d) x → is_sound (roll-Json x) ≡ true → Again (value_at (suc d)) (roll-Json x)
layer_again d Json-F.Null ih fits sound = subst (λ (w : Json). Again (value_at (suc d)) w) (sym rolls-Null) (null_again (suc d))
layer_again d (Json-F.Flag b) ih fits sound = subst (λ (w : Json). Again (value_at (suc d)) w) (sym (rolls-Flag b)) (flag_again (suc d) b)
layer_again d (Json-F.Number n) ih fits sound = subst (λ (w : Json). Again (value_at (suc d)) w) (sym (rolls-Number n)) (number_value (suc d) n (sound_number n sound))
layer_again d (Json-F.Str t) ih fits sound = subst (λ (w : Json). Again (value_at (suc d)) w) (sym (rolls-Str t)) (str_again (suc d) t (sound_text t sound))
layer_again d (Json-F.Array xs) ih fits sound = subst (λ (w : Json). Again (value_at (suc d)) w) (sym (rolls-Array xs)) (array_of d xs ih fits (sound_array xs sound))
layer_again d (Json-F.Object ms) ih fits sound = subst (λ (w : Json). Again (value_at (suc d)) w) (sym (rolls-Object ms)) (object_of d ms ih fits.0 fits.1 (sound_object ms sound))

sound_rolled : (v : Json) → is_sound v ≡ true → is_sound (roll-Json (out-Json v)) ≡ true
sound_rolled v s = ap is_sound (roll-out-Json v) ∙ s

-- by induction on the depth alone
value_again : (d : ℕ) → Deep d
value_again zero v fits sound = subst (λ (w : Json). Again (value_at 0) w) (roll-out-Json v) (flat_again (out-Json v) fits (sound_rolled v sound))
value_again (suc d) v fits sound = subst (λ (w : Json). Again (value_at (suc d)) w) (roll-out-Json v) (layer_again d (out-Json v) (value_again d) fits (sound_rolled v sound))

pub read_again : (v : Json) → is_sound v ≡ true → Fits 64 v → reads (printed v) ≡ Ok v
unfolding reads
read_again v sound fits =
    let again = value_again 64 v fits sound in
    let whole : printed v ++ [] ≡ printed v = append-nil (printed v) in
    let tight : after_space (printed v) ≡ printed v = rw whole at (again.tight []) in
    let found : value_at 64 (printed v) ≡ Ok (v, []) = rw whole at (again.reads [] tt) in
    rw (tight, found) refl
