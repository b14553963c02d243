-- Written actions are read.
use Rattle.std.proofs.Common.{◌≡◌, ◌∙◌, ℕ, ◌<◌, ◌≤◌, ◌⊎◌, inl, inr, List, [], ◌∷◌, ◌++◌, length, take, Bool, true, false, ◌||◌, eqb, Some, None, Ok, codes, Contains, refl, ap, sym, subst, arith}
use Rattle.std.specs.Prelude.{replicate}
use Rattle.std.specs.List.{list_any}
use Rattle.std.proofs.lemmas.Bool.Decides.{nat_tests}
use Rattle.gh_base.specs.declared.kinds.ModelKind.TheVariants.{Number}
use Rattle.model_eval.specs.declared.conditions.NumberName.{NumberName}
use Rattle.model_eval.specs.declared.custom_model.Running.{Running}
use Rattle.model_eval.specs.declared.custom_model.Running.TheVariants.{Speed, Priority}
use Rattle.model_texts.specs.declared.amounts.Verb.{Verb}
use Rattle.model_texts.specs.declared.amounts.Verb.TheVariants.{Multiply, Limit}
use Rattle.model_texts.specs.Tokens.{begins_word, token_len, after_space, spelling, next, ahead, sees, expect, finish}
use Rattle.model_texts.specs.Words.{number_of}
use Rattle.model_texts.specs.Amounts.{places_of, most_of, factor_of}
use Rattle.model_texts.specs.Actions.{name, star, factor, behind_name, scaled, expression, is_expression, scaled_action, plain_action, action_of}
use Rattle.model_laws.specs.Spelling.{is_digit, AllPass, IsSpelled}
use Rattle.model_laws.specs.Numerals.{pointed, IsDecimal}
use Rattle.model_laws.specs.Grammar.{numbers}
use Rattle.model_laws.specs.Acting.{IsOrdered, IsMultiple, ActionsAreRead}
use Rattle.model_laws.proofs.Cuts.{nothing_ahead, spelled_read}
use Rattle.model_laws.proofs.Membership.{AllAre, of_all}
use Rattle.model_laws.proofs.Numerals.{decimal_read, factor_read, within_is}
use Rattle.model_laws.proofs.Streams.{AreRead, taken_long}

-- ---- a decimal

abbrev of_expression : ℕ → Bool
of_expression b = begins_word b || eqb b 42

digits_not : (digits : List ℕ) → AllPass is_digit digits → list_any of_expression digits ≡ false
digits_not [] h = refl
digits_not (d ∷ digits) h =
    let digit : is_digit d ≡ true = h.0 in
    let no : of_expression d ≡ false = grind (arith, nat_tests) in
    rw no (digits_not digits h.1)

none_of : (a b : Bool) → a || b ≡ false → (a ≡ false) × (b ≡ false)
none_of false b e = (refl, e)
none_of true b e = cc

any_append : (p : ℕ → Bool) (a b : List ℕ) → list_any p a ≡ false → list_any p (a ++ b) ≡ list_any p b
any_append p [] b h = refl
any_append p (x ∷ a) b h = let q = none_of (p x) (list_any p a) h in let first : p x ≡ false = q.0 in rw first (any_append p a b q.1)

decimal_not : (places n : ℕ) (text : List ℕ) → IsDecimal places n text → is_expression text ≡ false
decimal_not places n text d = let e = d.text_is in rw (e, any_append of_expression d.whole (pointed d.behind) (digits_not d.whole d.digits.0)) (by d.behind d.digits.1)
  where
    by : (behind : List ℕ) → AllPass is_digit behind → list_any of_expression (pointed behind) ≡ false
    by [] h = refl
    by (b ∷ behind) h = digits_not (b ∷ behind) h

plain_read : (verb : Verb) (running : Running) (n : ℕ) (text : List ℕ) → IsDecimal (places_of verb running) n text → n ≤ most_of verb running → action_of verb running text ≡ Ok (plain_action verb n)
unfolding action_of
plain_read verb running n text d small =
    rw (decimal_not (places_of verb running) n text d, decimal_read (places_of verb running) n text d, within_is (most_of verb running) n small) refl

-- ---- a stored number

numbers_known : AllAre (λ (e : List ℕ × NumberName). number_of e.0 ≡ Some e.1) numbers
numbers_known = (refl, (refl, (refl, (refl, (refl, tt)))))

-- a name has a letter
numbers_letter : (rest : List ℕ) → AllAre (λ (e : List ℕ × NumberName). list_any of_expression (e.0 ++ rest) ≡ true) numbers
numbers_letter rest = (refl, (refl, (refl, (refl, (refl, tt)))))

finished : (rest : List ℕ) → ahead rest ≡ 0 → finish Number rest ≡ Ok (tt, rest)
unfolding finish
finished rest e = rw e refl

starred : (i : List ℕ) → spelling i ≡ codes "*" → star i ≡ Ok (tt, next i)
unfolding star expect sees
starred i e = rw e refl

alone_by : (i token : List ℕ) (x : NumberName) → spelling i ≡ token → number_of token ≡ Some x → ahead (next i) ≡ 0 → expression i ≡ Ok (record { name = x; by = 1000000 }, next i)
unfolding expression scaled behind_name
alone_by i token x e is none = rw (e, is, none, finished (next i) none) refl

behind_by : (i a b c : List ℕ) (x : NumberName) (by : ℕ) → spelling i ≡ a → spelling (next i) ≡ b → spelling (next (next i)) ≡ c → eqb (ahead (next i)) 0 ≡ false →
    number_of a ≡ Some x → b ≡ codes "*" → factor_of c ≡ Some by → ahead (next (next (next i))) ≡ 0 → expression i ≡ Ok (record { name = x; by = by }, next (next (next i)))
unfolding expression scaled behind_name factor
behind_by i a b c x by ea eb ec some is mark f none = rw (ea, is, some, starred (next i) (eb ∙ mark), ec, f, finished (next (next (next i))) none) refl

before_by : (i a b c : List ℕ) (x : NumberName) (by : ℕ) → spelling i ≡ a → spelling (next i) ≡ b → spelling (next (next i)) ≡ c →
    number_of a ≡ None → factor_of a ≡ Some by → b ≡ codes "*" → number_of c ≡ Some x → ahead (next (next (next i))) ≡ 0 → expression i ≡ Ok (record { name = x; by = by }, next (next (next i)))
unfolding expression scaled name
before_by i a b c x by ea eb ec not_name f mark is none = rw (ea, not_name, f, starred (next i) (eb ∙ mark), ec, is, finished (next (next (next i))) none) refl

-- a name's first byte is no digit
digit_no_name : (d : ℕ) (bytes : List ℕ) → is_digit d ≡ true → number_of (d ∷ bytes) ≡ None
digit_no_name d bytes digit =
    let a : eqb d 108 ≡ false = grind (arith, nat_tests) in
    let b : eqb d 109 ≡ false = grind (arith, nat_tests) in
    let c : eqb d 99 ≡ false = grind (arith, nat_tests) in
    let e : eqb d 98 ≡ false = grind (arith, nat_tests) in
    let f : eqb d 102 ≡ false = grind (arith, nat_tests) in
    rw (a, b, c, e, f) refl

decimal_no_name : (places n : ℕ) (text : List ℕ) → IsDecimal places n text → number_of text ≡ None
decimal_no_name places n text d = let e = d.text_is in rw e (by d.whole d.digits.0 d.some)
  where
    by : (whole : List ℕ) → AllPass is_digit whole → 0 < length whole → number_of (whole ++ pointed d.behind) ≡ None
    by [] h some = absurd (omega arith)
    by (b ∷ whole) h some = digit_no_name b (whole ++ pointed d.behind) h.0

-- a token is ahead
ahead_some : (i token : List ℕ) → spelling i ≡ token → 0 < length token → eqb (ahead i) 0 ≡ false
unfolding spelling ahead
ahead_some i token e some =
    let some_too : 0 < length (take (token_len (after_space i)) (after_space i)) = rw e some in
    let t = (taken_long (token_len (after_space i)) (after_space i) some_too).1 in
    grind (arith, nat_tests)

-- ---- letters of a text that is spelled

any_right : (p : ℕ → Bool) (a b : List ℕ) → list_any p b ≡ true → list_any p (a ++ b) ≡ true
any_right p [] b h = h
any_right p (x ∷ a) b h = by (p x) (list_any p (a ++ b)) (any_right p a b h)
  where
    by : (t u : Bool) → u ≡ true → t || u ≡ true
    by true u e = refl
    by false u e = e

abbrev HasLetter : List (List ℕ) → Type 0
HasLetter [] = ⊥
HasLetter (token ∷ tokens) = ((rest : List ℕ) → is_expression (token ++ rest) ≡ true) ⊎ HasLetter tokens

spelled_letter : (tokens : List (List ℕ)) (text : List ℕ) → IsSpelled tokens text → HasLetter tokens → is_expression text ≡ true
spelled_letter [] text s h = absurd h
spelled_letter (token ∷ tokens) text (n, rest, e, both) (inl h) = rw e (any_right of_expression (replicate n 32) (token ++ rest) (h rest))
spelled_letter (token ∷ tokens) text (n, rest, e, both) (inr h) =
    rw e (any_right of_expression (replicate n 32) (token ++ rest) (any_right of_expression token rest (spelled_letter tokens rest both.1 h)))

-- ---- an expression

record Known (x : NumberName) (text : List ℕ) : Type 0 where
  known : number_of text ≡ Some x
  letter : (rest : List ℕ) → is_expression (text ++ rest) ≡ true

number_known : (x : NumberName) (text : List ℕ) → Contains numbers (text, x) → Known x text
number_known x text c = record {
  known = of_all (λ (e : List ℕ × NumberName). number_of e.0 ≡ Some e.1) numbers (text, x) numbers_known c;
  letter = λ rest. of_all (λ (e : List ℕ × NumberName). list_any of_expression (e.0 ++ rest) ≡ true) numbers (text, x) (numbers_letter rest) c;
}

ordered_read : (x : NumberName) (by : ℕ) (text : List ℕ) (tokens : List (List ℕ)) (i rest : List ℕ) → Known x text → IsOrdered by text tokens → AreRead tokens i rest → ahead rest ≡ 0 →
    expression i ≡ Ok (record { name = x; by = by }, rest)
ordered_read x by text tokens i rest k (inl (e, one)) h none =
    let r : AreRead (text ∷ []) i rest = subst (λ (ts : List (List ℕ)). AreRead ts i rest) e h in
    let left : next i ≡ rest = r.1.1 in
    let none_too : ahead (next i) ≡ 0 = ap ahead left ∙ none in
    rw (sym left, one) (alone_by i text x r.0 k.known none_too)
ordered_read x by text tokens i rest k (inr (f, is, inl e)) h none =
    let r : AreRead (text ∷ codes "*" ∷ f ∷ []) i rest = subst (λ (ts : List (List ℕ)). AreRead ts i rest) e h in
    let left : next (next (next i)) ≡ rest = r.1.1.1.1.1.1 in
    let none_too : ahead (next (next (next i))) ≡ 0 = ap ahead left ∙ none in
    rw (sym left) (behind_by i text (codes "*") f x by r.0 r.1.1.0 r.1.1.1.1.0 (ahead_some (next i) (codes "*") r.1.1.0 r.1.1.1.0) k.known refl (factor_read by f is.0 is.1) none_too)
ordered_read x by text tokens i rest k (inr (f, is, inr e)) h none =
    let r : AreRead (f ∷ codes "*" ∷ text ∷ []) i rest = subst (λ (ts : List (List ℕ)). AreRead ts i rest) e h in
    let left : next (next (next i)) ≡ rest = r.1.1.1.1.1.1 in
    let none_too : ahead (next (next (next i))) ≡ 0 = ap ahead left ∙ none in
    rw (sym left) (before_by i f (codes "*") text x by r.0 r.1.1.0 r.1.1.1.1.0 (decimal_no_name 6 by f is.0) (factor_read by f is.0 is.1) refl k.known none_too)

ordered_letter : (x : NumberName) (by : ℕ) (text : List ℕ) (tokens : List (List ℕ)) → Known x text → IsOrdered by text tokens → HasLetter tokens
ordered_letter x by text tokens k (inl (e, one)) = rw e (inl k.letter)
ordered_letter x by text tokens k (inr (f, is, inl e)) = rw e (inl k.letter)
ordered_letter x by text tokens k (inr (f, is, inr e)) = rw e (inr (inl (λ rest. refl)))

multiple_read : (verb : Verb) (running : Running) (x : NumberName) (by : ℕ) (tokens : List (List ℕ)) (text : List ℕ) → IsMultiple x by tokens → IsSpelled tokens text →
    action_of verb running text ≡ Ok (scaled_action verb (record { name = x; by = by }))
unfolding action_of
multiple_read verb running x by tokens text (word, c, o) s =
    let k = number_known x word c in
    let d = spelled_read tokens text s in
    let none = nothing_ahead d.rest d.end in
    rw (spelled_letter tokens text s (ordered_letter x by word tokens k o), ordered_read x by word tokens text d.rest k o d.read none.0) refl

pub actions_read : ActionsAreRead
actions_read = record {
  factor = λ running n text d small. plain_read Multiply running n text d small;
  speed = λ n text d small. plain_read Limit Speed n text d small;
  priority = λ n text d small. plain_read Limit Priority n text d small;
  multiple = λ running name by tokens text m s. multiple_read Multiply running name by tokens text m s;
  limit = λ running name by tokens text m s. multiple_read Limit running name by tokens text m s;
}
