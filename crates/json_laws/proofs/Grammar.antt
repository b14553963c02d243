-- Each text of a value reads as that value.
use Rattle.std.proofs.Common.{◌≡◌, ◌∙◌, sym, ap, subst, ℕ, zero, suc, ◌<◌, ◌≤◌, Bool, true, false, eqb, leb, codes, flat_map, List, [], ◌∷◌, ◌++◌, length, Ok, inl, inr, ◌⊎◌, refl, append_assoc, length-append, append-nil, IsUtf8, arith}
use Rattle.std.specs.Str.{chars}
use Rattle.std.proofs.lemmas.Bool.Decides.{nat_tests}
use Rattle.gh_base.specs.declared.kinds.JsonKind.TheVariants.{End}
use Rattle.exact_json.specs.Again.{AreNew}
use Rattle.exact_json.specs.Decimals.{DecimalValue}
use Rattle.exact_json.specs.Parsing.{turns, sees, after}
use Rattle.exact_json.specs.Printed.{escaped_char, quoted}
use Rattle.exact_json.specs.Tokens.{Reader, is_space, after_space}
use Rattle.exact_json.specs.Values.{has_key, item_turn, member_turn, member, value_at, numeral, array, items, object, members, reads}
use Rattle.exact_json.specs.declared.value.Json.{Json, out-Json, roll-Json, roll-out-Json}
use Rattle.exact_json.specs.declared.value.Json.TheVariants as j
use Rattle.exact_json.specs.declared.value.Json.TheVariants.{rolls-Null, rolls-Flag, rolls-Number, rolls-Str, rolls-Array, rolls-Object}
use Rattle.exact_json.specs.declared.value.Json.TheOpen.{Json-F}
use Rattle.exact_json.specs.declared.value.Member.{Member, out-Member, roll-out-Member}
use Rattle.exact_json.proofs.TextLaws.{text_again}
use Rattle.json_laws.specs.Spacing.{IsSpace}
use Rattle.json_laws.specs.Grammar.{IsNumeral, IsFlatText, IsBefore, AreItems, IsMember, AreMembers, IsArrayText, IsObjectText, IsLayerText, IsText, TextsAreRead}
use Rattle.json_laws.proofs.Numerals.{Ends, numeral_read, numeral_leads}

-- ---- white space

pub passed : (space text : List ℕ) → IsSpace space → after_space (space ++ text) ≡ after_space text
passed [] text h = refl
passed (b ∷ space) text (inl e, h) = rw e (passed space text h)
passed (b ∷ space) text (inr (inl e), h) = rw e (passed space text h)
passed (b ∷ space) text (inr (inr (inl e)), h) = rw e (passed space text h)
passed (b ∷ space) text (inr (inr (inr e)), h) = rw e (passed space text h)

space_ends : (space text : List ℕ) → IsSpace space → Ends text → Ends (space ++ text)
space_ends [] text h e = e
space_ends (b ∷ space) text (inl k, h) e = inr (inr (inr (inl k)))
space_ends (b ∷ space) text (inr (inl k), h) e = inr (inr (inr (inr (inl k))))
space_ends (b ∷ space) text (inr (inr (inl k)), h) e = inr (inr (inr (inr (inr (inl k)))))
space_ends (b ∷ space) text (inr (inr (inr k)), h) e = inr (inr (inr (inr (inr (inr k)))))

-- what a caller needs of a text of a value: it is read, and begins with neither white space nor a closing bracket
pub record Again (value : Reader Json) (x : Json) (text : List ℕ) : Type 0 where
  pub reads : (rest : List ℕ) → Ends rest → value (text ++ rest) ≡ Ok (x, rest)
  pub tight : (rest : List ℕ) → after_space (text ++ rest) ≡ text ++ rest
  pub open_not : (rest : List ℕ) → sees 93 (text ++ rest) ≡ false
  pub open_left : (rest : List ℕ) → after 93 (text ++ rest) ≡ text ++ rest

-- what these texts are is read by this reader
abbrev AllAgain : Reader Json → (Json → List ℕ → Type 0) → Type 0
AllAgain value Is = (x : Json) (text : List ℕ) → Is x text → Again value x text

-- ---- values without brackets

null_again : (d : ℕ) (text : List ℕ) → text ≡ codes "null" → Again (value_at d) j.Null text
unfolding value_at
null_again zero text e = rw e (record { reads = λ rest ends. refl; tight = λ rest. refl; open_not = λ rest. refl; open_left = λ rest. refl })
null_again (suc d) text e = rw e (record { reads = λ rest ends. refl; tight = λ rest. refl; open_not = λ rest. refl; open_left = λ rest. refl })

flag_again : (d : ℕ) (b : Bool) (text : List ℕ) → IsFlatText (Json-F.Flag b) text → Again (value_at d) (j.Flag b) text
unfolding value_at
flag_again zero true text e = rw e (record { reads = λ rest ends. refl; tight = λ rest. refl; open_not = λ rest. refl; open_left = λ rest. refl })
flag_again zero false text e = rw e (record { reads = λ rest ends. refl; tight = λ rest. refl; open_not = λ rest. refl; open_left = λ rest. refl })
flag_again (suc d) true text e = rw e (record { reads = λ rest ends. refl; tight = λ rest. refl; open_not = λ rest. refl; open_left = λ rest. refl })
flag_again (suc d) false text e = rw e (record { reads = λ rest ends. refl; tight = λ rest. refl; open_not = λ rest. refl; open_left = λ rest. refl })

quoted_with : (s rest : List ℕ) → quoted s ++ rest ≡ 34 ∷ (flat_map escaped_char (chars s) ++ 34 ∷ rest)
unfolding quoted
quoted_with s rest = ap (λ t. 34 ∷ t) (append_assoc (flat_map escaped_char (chars s)) (34 ∷ []) rest)

str_reads : (d : ℕ) (s rest : List ℕ) → IsUtf8 s → value_at d (34 ∷ (flat_map escaped_char (chars s) ++ 34 ∷ rest)) ≡ Ok (j.Str s, rest)
unfolding value_at
str_reads zero s rest valid = rw (text_again s rest valid) refl
str_reads (suc d) s rest valid = rw (text_again s rest valid) refl

str_again : (d : ℕ) (s text : List ℕ) → IsUtf8 s → text ≡ quoted s → Again (value_at d) (j.Str s) text
str_again d s text valid e = record {
  reads = λ rest ends. rw (e, quoted_with s rest) (str_reads d s rest valid);
  tight = λ rest. rw (e, quoted_with s rest) refl;
  open_not = λ rest. rw (e, quoted_with s rest) refl;
  open_left = λ rest. rw (e, quoted_with s rest) refl;
}

-- what begins with this byte is read as a number
record Leading (b : ℕ) : Type 0 where
  begins : (n : ℕ) (bytes : List ℕ) → value_at n (b ∷ bytes) ≡ numeral (b ∷ bytes)
  space : is_space b ≡ false
  open_not : eqb b 93 ≡ false

minus_begins : (n : ℕ) (bytes : List ℕ) → value_at n (45 ∷ bytes) ≡ numeral (45 ∷ bytes)
unfolding value_at
minus_begins zero bytes = refl
minus_begins (suc n) bytes = refl

digit_begins : (b : ℕ) → 48 ≤ b → b ≤ 57 → (n : ℕ) (bytes : List ℕ) → value_at n (b ∷ bytes) ≡ numeral (b ∷ bytes)
unfolding value_at
digit_begins b low high n bytes = by n
  where
    a : eqb b 110 ≡ false
    a = grind (arith, nat_tests)

    c : eqb b 116 ≡ false
    c = grind (arith, nat_tests)

    d : eqb b 102 ≡ false
    d = grind (arith, nat_tests)

    e : eqb b 34 ≡ false
    e = grind (arith, nat_tests)

    f : eqb b 91 ≡ false
    f = grind (arith, nat_tests)

    g : eqb b 123 ≡ false
    g = grind (arith, nat_tests)

    i : eqb b 45 ≡ false
    i = grind (arith, nat_tests)

    k : leb 48 b ≡ true
    k = grind (arith, nat_tests)

    l : leb b 57 ≡ true
    l = grind (arith, nat_tests)

    by : (m : ℕ) → value_at m (b ∷ bytes) ≡ numeral (b ∷ bytes)
    by zero = rw (a, c, d, e, f, g, i, k, l) refl
    by (suc m) = rw (a, c, d, e, f, g, i, k, l) refl

leading : (b : ℕ) → (b ≡ 45) ⊎ ((48 ≤ b) × (b ≤ 57)) → Leading b
leading b (inl e) = record { begins = λ n bytes. rw e (minus_begins n bytes); space = rw e refl; open_not = rw e refl }
leading b (inr h) =
    let low = h.0 in
    let high = h.1 in
    record { begins = digit_begins b low high; space = grind (arith, nat_tests); open_not = grind (arith, nat_tests) }

number_text : (d : DecimalValue) (text rest : List ℕ) → IsNumeral d text → (b : ℕ) × (bytes : List ℕ) × (text ++ rest ≡ b ∷ bytes) × Leading b
number_text d text rest h = let l = numeral_leads d text rest h in (l.0, l.1, l.2, leading l.0 l.3)

numeral_again : (d : DecimalValue) (text rest : List ℕ) → IsNumeral d text → Ends rest → numeral (text ++ rest) ≡ Ok (j.Number d, rest)
unfolding numeral
numeral_again d text rest h ends = rw (numeral_read d text rest h ends) refl

at_number : (n : ℕ) (t : List ℕ) (b : ℕ) (bytes : List ℕ) → t ≡ b ∷ bytes → Leading b → value_at n t ≡ numeral t
at_number n t b bytes e l = rw e (l.begins n bytes)

tight_number : (t : List ℕ) (b : ℕ) (bytes : List ℕ) → t ≡ b ∷ bytes → Leading b → (after_space t ≡ t) × ((sees 93 t ≡ false) × (after 93 t ≡ t))
tight_number t b bytes e l = let s = l.space in let o = l.open_not in rw (e, s, o) (refl, (refl, refl))

number_again : (n : ℕ) (d : DecimalValue) (text : List ℕ) → IsNumeral d text → Again (value_at n) (j.Number d) text
number_again n d text h = record {
  reads = λ rest ends. let t = number_text d text rest h in at_number n (text ++ rest) t.0 t.1 t.2 t.3 ∙ numeral_again d text rest h ends;
  tight = λ rest. let t = number_text d text rest h in (tight_number (text ++ rest) t.0 t.1 t.2 t.3).0;
  open_not = λ rest. let t = number_text d text rest h in (tight_number (text ++ rest) t.0 t.1 t.2 t.3).1.0;
  open_left = λ rest. let t = number_text d text rest h in (tight_number (text ++ rest) t.0 t.1 t.2 t.3).1.1;
}

-- ---- items

before_shape : (Is : List ℕ → Type 0) (tail text rest : List ℕ) (b : IsBefore Is tail text) → text ++ rest ≡ b.inner ++ (b.space ++ (tail ++ rest))
before_shape Is tail text rest b =
    let e = b.text_is in
    rw e (append_assoc b.inner (b.space ++ tail) rest ∙ ap (λ (s : List ℕ). b.inner ++ s) (append_assoc b.space tail rest))

items_long : (Is : Json → List ℕ → Type 0) (x : Json) (xs : List Json) (text : List ℕ) → AreItems Is x xs text → length xs ≤ length text
items_long Is x [] text h = omega arith
items_long Is x (y ∷ ys) text (space, rest, b, more) =
    let e = b.text_is in
    let long = items_long Is y ys rest more.1 in
    rw e (omega (arith, long, length-append b.inner (b.space ++ 44 ∷ (space ++ rest)), length-append b.space (44 ∷ (space ++ rest)), length-append space rest))

module _ (value : Reader Json) (Is : Json → List ℕ → Type 0) (all : AllAgain value Is) where
  items_again : (xs : List Json) (x : Json) (n : ℕ) (found : List Json) (before text rest : List ℕ) → IsSpace before → AreItems Is x xs text → length xs < n
      → turns End (item_turn value) n found (before ++ (text ++ 93 ∷ rest)) ≡ Ok (found ++ x ∷ xs, rest)
  items_again xs x zero found before text rest s h short = absurd (omega arith)
  items_again [] x (suc n) found before text rest s b short =
      let a = all x b.inner b.is in
      let left = 93 ∷ rest in
      let tail = b.space ++ left in
      rw (before_shape (Is x) [] text left b, passed before (b.inner ++ tail) s, a.tight tail, a.reads tail (space_ends b.space left b.is_space (inr (inl refl))), passed b.space left b.is_space) refl
  items_again (y ∷ ys) x (suc n) found before text rest s (space, more, b, h) short =
      let a = all x b.inner b.is in
      let left = 44 ∷ ((space ++ more) ++ 93 ∷ rest) in
      let tail = b.space ++ left in
      let joined = append_assoc space more (93 ∷ rest) in
      rw (before_shape (Is x) (44 ∷ (space ++ more)) text (93 ∷ rest) b, passed before (b.inner ++ tail) s, a.tight tail, a.reads tail (space_ends b.space left b.is_space (inl refl)), passed b.space left b.is_space, joined)
      (items_again ys y n (found ++ x ∷ []) space more rest h.0 h.1 (omega arith) ∙ ap (λ (found_all : List Json). Ok (found_all, rest)) (append_assoc found (x ∷ []) (y ∷ ys)))

  -- the first item's own front
  items_front : (xs : List Json) (x : Json) (text rest : List ℕ) → AreItems Is x xs text → (after_space (text ++ rest) ≡ text ++ rest) × ((sees 93 (text ++ rest) ≡ false) × (after 93 (text ++ rest) ≡ text ++ rest))
  items_front [] x text rest b =
      let a = all x b.inner b.is in
      let tail = b.space ++ ([] ++ rest) in
      rw (before_shape (Is x) [] text rest b) (a.tight tail, (a.open_not tail, a.open_left tail))
  items_front (y ∷ ys) x text rest (space, more, b, h) =
      let a = all x b.inner b.is in
      let tail = b.space ++ ((44 ∷ (space ++ more)) ++ rest) in
      rw (before_shape (Is x) (44 ∷ (space ++ more)) text rest b) (a.tight tail, (a.open_not tail, a.open_left tail))

  array_reads : (xs : List Json) (text rest : List ℕ) → IsArrayText Is xs (91 ∷ text) → array value (text ++ rest) ≡ Ok (j.Array xs, rest)
  unfolding array items
  array_reads [] text rest (space, e, s) =
      let t : text ≡ space ++ 93 ∷ [] = cc in
      rw (t, append_assoc space (93 ∷ []) rest, passed space (93 ∷ rest) s) refl
  array_reads (x ∷ xs) text rest (space, inner, e, h) =
      let t : text ≡ space ++ (inner ++ 93 ∷ []) = cc in
      let shape : (space ++ (inner ++ 93 ∷ [])) ++ rest ≡ space ++ (inner ++ 93 ∷ rest) = append_assoc space (inner ++ 93 ∷ []) rest ∙ ap (λ (s : List ℕ). space ++ s) (append_assoc inner (93 ∷ []) rest) in
      let front_is = items_front xs x inner (93 ∷ rest) h.1 in
      let long : length xs < length (inner ++ 93 ∷ rest) = omega (arith, items_long Is x xs inner h.1, length-append inner (93 ∷ rest)) in
      rw (t, shape, passed space (inner ++ 93 ∷ rest) h.0, front_is.0, front_is.1.0, front_is.1.1, items_again xs x (length (inner ++ 93 ∷ rest)) [] [] inner rest tt h.1 long) refl

  -- ---- members

  member_shape : (m : Member) (text rest : List ℕ) (b : IsMember Is m text) →
      text ++ rest ≡ 34 ∷ (flat_map escaped_char (chars (out-Member m).key) ++ 34 ∷ (b.before ++ 58 ∷ (b.behind ++ (b.value ++ rest))))
  member_shape m text rest b =
      let k = (out-Member m).key in
      let e = b.text_is in
      rw (e, append_assoc (quoted k) (b.before ++ 58 ∷ (b.behind ++ b.value)) rest, append_assoc b.before (58 ∷ (b.behind ++ b.value)) rest, append_assoc b.behind b.value rest)
      (quoted_with k (b.before ++ 58 ∷ (b.behind ++ (b.value ++ rest))))

  one_member : (m : Member) (found : List Member) (text rest : List ℕ) → IsMember Is m text → has_key (out-Member m).key found ≡ false → Ends rest → member value found (text ++ rest) ≡ Ok (m, rest)
  unfolding member
  one_member m found text rest b fresh ends =
      let k = (out-Member m).key in
      let a = all (out-Member m).value b.value b.is_value in
      rw (
        member_shape m text rest b,
        text_again k (b.before ++ 58 ∷ (b.behind ++ (b.value ++ rest))) b.is_key,
        fresh,
        passed b.before (58 ∷ (b.behind ++ (b.value ++ rest))) b.is_before,
        passed b.behind (b.value ++ rest) b.is_behind,
        a.tight rest,
        a.reads rest ends,
      ) (ap (λ (x : Member). Ok (x, rest)) (roll-out-Member m))

  member_front : (m : Member) (text rest : List ℕ) → IsMember Is m text → (after_space (text ++ rest) ≡ text ++ rest) × ((sees 125 (text ++ rest) ≡ false) × (after 125 (text ++ rest) ≡ text ++ rest))
  member_front m text rest b = rw (member_shape m text rest b) (refl, (refl, refl))

  members_long : (m : Member) (ms : List Member) (text : List ℕ) → AreMembers Is m ms text → length ms ≤ length text
  members_long m [] text h = omega arith
  members_long m (n ∷ ms) text (space, rest, b, more) =
      let e = b.text_is in
      let long = members_long n ms rest more.1 in
      rw e (omega (arith, long, length-append b.inner (b.space ++ 44 ∷ (space ++ rest)), length-append b.space (44 ∷ (space ++ rest)), length-append space rest))

  members_again : (ms : List Member) (m : Member) (n : ℕ) (found : List Member) (before text rest : List ℕ) → IsSpace before → AreMembers Is m ms text → AreNew found (m ∷ ms) → length ms < n
      → turns End (member_turn value) n found (before ++ (text ++ 125 ∷ rest)) ≡ Ok (found ++ m ∷ ms, rest)
  members_again ms m zero found before text rest s h new short = absurd (omega arith)
  members_again [] m (suc n) found before text rest s b new short =
      let left = 125 ∷ rest in
      let tail = b.space ++ left in
      rw (before_shape (IsMember Is m) [] text left b, passed before (b.inner ++ tail) s, (member_front m b.inner tail b.is).0, one_member m found b.inner tail b.is new.0 (space_ends b.space left b.is_space (inr (inr (inl refl)))), passed b.space left b.is_space) refl
  members_again (y ∷ ys) m (suc n) found before text rest s (space, more, b, h) new short =
      let left = 44 ∷ ((space ++ more) ++ 125 ∷ rest) in
      let tail = b.space ++ left in
      let joined = append_assoc space more (125 ∷ rest) in
      rw (before_shape (IsMember Is m) (44 ∷ (space ++ more)) text (125 ∷ rest) b, passed before (b.inner ++ tail) s, (member_front m b.inner tail b.is).0, one_member m found b.inner tail b.is new.0 (space_ends b.space left b.is_space (inl refl)), passed b.space left b.is_space, joined)
      (members_again ys y n (found ++ m ∷ []) space more rest h.0 h.1 new.1 (omega arith) ∙ ap (λ (found_all : List Member). Ok (found_all, rest)) (append_assoc found (m ∷ []) (y ∷ ys)))

  members_front : (ms : List Member) (m : Member) (text rest : List ℕ) → AreMembers Is m ms text → (after_space (text ++ rest) ≡ text ++ rest) × ((sees 125 (text ++ rest) ≡ false) × (after 125 (text ++ rest) ≡ text ++ rest))
  members_front [] m text rest b = rw (before_shape (IsMember Is m) [] text rest b) (member_front m b.inner (b.space ++ ([] ++ rest)) b.is)
  members_front (y ∷ ys) m text rest (space, more, b, h) = rw (before_shape (IsMember Is m) (44 ∷ (space ++ more)) text rest b) (member_front m b.inner (b.space ++ ((44 ∷ (space ++ more)) ++ rest)) b.is)

  object_reads : (ms : List Member) (text rest : List ℕ) → IsObjectText Is ms (123 ∷ text) → object value (text ++ rest) ≡ Ok (j.Object ms, rest)
  unfolding object members
  object_reads [] text rest (space, e, s) =
      let t : text ≡ space ++ 125 ∷ [] = cc in
      rw (t, append_assoc space (125 ∷ []) rest, passed space (125 ∷ rest) s) refl
  object_reads (m ∷ ms) text rest (space, inner, e, h) =
      let t : text ≡ space ++ (inner ++ 125 ∷ []) = cc in
      let shape : (space ++ (inner ++ 125 ∷ [])) ++ rest ≡ space ++ (inner ++ 125 ∷ rest) = append_assoc space (inner ++ 125 ∷ []) rest ∙ ap (λ (s : List ℕ). space ++ s) (append_assoc inner (125 ∷ []) rest) in
      let front_is = members_front ms m inner (125 ∷ rest) h.1.1 in
      let long : length ms < length (inner ++ 125 ∷ rest) = omega (arith, members_long m ms inner h.1.1, length-append inner (125 ∷ rest)) in
      rw (t, shape, passed space (inner ++ 125 ∷ rest) h.0, front_is.0, front_is.1.0, front_is.1.1, members_again ms m (length (inner ++ 125 ∷ rest)) [] [] inner rest tt h.1.1 h.1.0 long) refl

-- ---- whole values

abbrev Tail : ℕ → List ℕ → Type 0
Tail b text = (rest : List ℕ) × (text ≡ b ∷ rest)

array_opens : (Is : Json → List ℕ → Type 0) (xs : List Json) (text : List ℕ) → IsArrayText Is xs text → Tail 91 text
array_opens Is [] text (space, e, s) = (space ++ 93 ∷ [], e)
array_opens Is (x ∷ xs) text (space, inner, e, h) = (space ++ (inner ++ 93 ∷ []), e)

object_opens : (Is : Json → List ℕ → Type 0) (ms : List Member) (text : List ℕ) → IsObjectText Is ms text → Tail 123 text
object_opens Is [] text (space, e, s) = (space ++ 125 ∷ [], e)
object_opens Is (m ∷ ms) text (space, inner, e, h) = (space ++ (inner ++ 125 ∷ []), e)

array_again : (d : ℕ) (Is : Json → List ℕ → Type 0) (xs : List Json) (text : List ℕ) → AllAgain (value_at d) Is → IsArrayText Is xs (91 ∷ text) → Again (value_at (suc d)) (j.Array xs) (91 ∷ text)
unfolding value_at
array_again d Is xs text all h = record { reads = λ rest ends. array_reads (value_at d) Is all xs text rest h; tight = λ rest. refl; open_not = λ rest. refl; open_left = λ rest. refl }

object_again : (d : ℕ) (Is : Json → List ℕ → Type 0) (ms : List Member) (text : List ℕ) → AllAgain (value_at d) Is → IsObjectText Is ms (123 ∷ text) → Again (value_at (suc d)) (j.Object ms) (123 ∷ text)
unfolding value_at
object_again d Is ms text all h = record { reads = λ rest ends. object_reads (value_at d) Is all ms text rest h; tight = λ rest. refl; open_not = λ rest. refl; open_left = λ rest. refl }

array_of : (d : ℕ) (Is : Json → List ℕ → Type 0) (xs : List Json) (text : List ℕ) → AllAgain (value_at d) Is → IsArrayText Is xs text → Again (value_at (suc d)) (j.Array xs) text
array_of d Is xs text all h =
    let o = array_opens Is xs text h in
    subst (λ (t : List ℕ). Again (value_at (suc d)) (j.Array xs) t) (sym o.1) (array_again d Is xs o.0 all (subst (λ (t : List ℕ). IsArrayText Is xs t) o.1 h))

object_of : (d : ℕ) (Is : Json → List ℕ → Type 0) (ms : List Member) (text : List ℕ) → AllAgain (value_at d) Is → IsObjectText Is ms text → Again (value_at (suc d)) (j.Object ms) text
object_of d Is ms text all h =
    let o = object_opens Is ms text h in
    subst (λ (t : List ℕ). Again (value_at (suc d)) (j.Object ms) t) (sym o.1) (object_again d Is ms o.0 all (subst (λ (t : List ℕ). IsObjectText Is ms t) o.1 h))

flat_again : (x : Json-F Json Member) (text : List ℕ) → IsFlatText x text → Again (value_at 0) (roll-Json x) text
flat_again Json-F.Null text h = subst (λ (w : Json). Again (value_at 0) w text) (sym rolls-Null) (null_again 0 text h)
flat_again (Json-F.Flag b) text h = subst (λ (w : Json). Again (value_at 0) w text) (sym (rolls-Flag b)) (flag_again 0 b text h)
flat_again (Json-F.Number d) text h = subst (λ (w : Json). Again (value_at 0) w text) (sym (rolls-Number d)) (number_again 0 d text h)
flat_again (Json-F.Str s) text h = subst (λ (w : Json). Again (value_at 0) w text) (sym (rolls-Str s)) (str_again 0 s text h.0 h.1)
flat_again (Json-F.Array xs) text h = absurd h
flat_again (Json-F.Object ms) text h = absurd h

layer_again : (d : ℕ) (Is : Json → List ℕ → Type 0) (x : Json-F Json Member) (text : List ℕ) → AllAgain (value_at d) Is → IsLayerText Is x text → Again (value_at (suc d)) (roll-Json x) text
layer_again d Is Json-F.Null text all h = subst (λ (w : Json). Again (value_at (suc d)) w text) (sym rolls-Null) (null_again (suc d) text h)
layer_again d Is (Json-F.Flag b) text all h = subst (λ (w : Json). Again (value_at (suc d)) w text) (sym (rolls-Flag b)) (flag_again (suc d) b text h)
layer_again d Is (Json-F.Number n) text all h = subst (λ (w : Json). Again (value_at (suc d)) w text) (sym (rolls-Number n)) (number_again (suc d) n text h)
layer_again d Is (Json-F.Str s) text all h = subst (λ (w : Json). Again (value_at (suc d)) w text) (sym (rolls-Str s)) (str_again (suc d) s text h.0 h.1)
layer_again d Is (Json-F.Array xs) text all h = subst (λ (w : Json). Again (value_at (suc d)) w text) (sym (rolls-Array xs)) (array_of d Is xs text all h)
layer_again d Is (Json-F.Object ms) text all h = subst (λ (w : Json). Again (value_at (suc d)) w text) (sym (rolls-Object ms)) (object_of d Is ms text all h)

-- by induction on the depth alone
value_again : (d : ℕ) → AllAgain (value_at d) (IsText d)
value_again zero v text h = subst (λ (w : Json). Again (value_at 0) w text) (roll-out-Json v) (flat_again (out-Json v) text h)
value_again (suc d) v text h = subst (λ (w : Json). Again (value_at (suc d)) w text) (roll-out-Json v) (layer_again d (IsText d) (out-Json v) text (value_again d) h)

pub texts_read : TextsAreRead
unfolding reads
texts_read v before text behind h s s_too =
    let again = value_again 64 v text h in
    let none : after_space behind ≡ [] = ap after_space (sym (append-nil behind)) ∙ passed behind [] s_too in
    let ends : Ends behind = subst Ends (append-nil behind) (space_ends behind [] s_too tt) in
    rw (passed before (text ++ behind) s, again.tight behind, again.reads behind ends, none) refl
