-- Values that write whole models are read as them.
use Rattle.std.proofs.Common.{◌≡◌, ◌≢◌, ◌∙◌, ℕ, suc, ◌+◌, ◌-◌, ◌*◌, ◌/◌, ◌%◌, ◌^◌, ◌≤◌, ◌⊎◌, inl, inr, List, [], ◌∷◌, ◌++◌, length, append-nil, append_assoc, Bool, true, false, ltb, leb, Option, Some, None, Ok, Err, codes, refl, ap, sym, subst, arith}
use Rattle.std.specs.Str.{bytes_eq}
use Rattle.std.proofs.Math.Nat.{mul_assoc, mul-mod_left, mul-div_cancel, eq_of_mul-eq-mul_right}
use Rattle.std.proofs.lemmas.Bool.Decides.{nat_tests}
use Rattle.std.proofs.lemmas.Nat.{pow-add}
use Rattle.std.proofs.lemmas.Slice.Eq.{bytes_eq-Decides}
use Rattle.gh_base.specs.declared.kinds.ModelKind.TheVariants.{NoIf}
use Rattle.gh_base.specs.declared.kinds.Part.TheVariants as part
use Rattle.exact_json.proofs.Limits.{ten_pow}
use Rattle.exact_json.specs.Decimals.{DecimalValue}
use Rattle.exact_json.specs.declared.value.Json.{Json, out-Json, roll-Json, out-roll-Json}
use Rattle.exact_json.specs.declared.value.Json.TheVariants as j
use Rattle.exact_json.specs.declared.value.Json.TheVariants.{rolls-Null, rolls-Number, rolls-Str, rolls-Array, rolls-Object}
use Rattle.exact_json.specs.declared.value.Json.TheOpen.{Json-F}
use Rattle.exact_json.specs.declared.value.Member.{Member, out-Member}
use Rattle.model_eval.specs.declared.conditions.Test.{Test}
use Rattle.model_eval.specs.declared.custom_model.Action.{Action}
use Rattle.model_eval.specs.declared.custom_model.Area.{Area}
use Rattle.model_eval.specs.declared.custom_model.Branch.{Branch}
use Rattle.model_eval.specs.declared.custom_model.Branch.TheVariants.{If, ElseIf, Else}
use Rattle.model_eval.specs.declared.custom_model.Running.{Running}
use Rattle.model_eval.specs.declared.custom_model.Running.TheVariants.{Speed, Priority}
use Rattle.model_eval.specs.declared.custom_model.Statement.{Statement}
use Rattle.model_eval.specs.Models as models
use Rattle.model_texts.specs.declared.amounts.Verb.{Verb}
use Rattle.model_texts.specs.declared.amounts.Verb.TheVariants.{Multiply, Limit}
use Rattle.model_parser.specs.Features.{areas_of, collection_of}
use Rattle.model_parser.specs.ModelText.{are_keys, whole_number, whole_text, influence_of, model_of}
use Rattle.model_parser.specs.Statements.{branch_of, verb_of, part_of, scaled, is_amount, action_by, acting, written, statement_of, statements_from, list_of, statements_of}
use Rattle.model_parser.specs.Values.{object_in, object_of, array_in, array_of, text_in, text_of, number_in, number_of, null_in, is_null, find}
use Rattle.model_laws.specs.Numerals.{IsDecimal}
use Rattle.model_laws.specs.Wholes.{Asks, branch_key, verb_key, IsExactly, IsConstant, Does, IsStatement, MayStand, goes_on, goes_on_behind, at_item, IsOrphaned, AreStatements, IsList, IsInfluence, Lacks, Has, IsPart, AreKeys, OrphansAreRefused, ModelsAreRead}
use Rattle.model_laws.proofs.Numerals.{decimal_read, within_is}

-- ---- a layer of a value

out_at : {A : Type 0} (f : Json-F Json Member → A) (x : Json-F Json Member) (v : Json) → roll-Json x ≡ v → f (out-Json v) ≡ f x
out_at f x v e = ap f (ap out-Json (sym e) ∙ out-roll-Json x)

object_is : (ms : List Member) → object_of (j.Object ms) ≡ Some ms
object_is ms = out_at object_in (Json-F.Object ms) (j.Object ms) (rolls-Object ms)

array_is : (vs : List Json) → array_of (j.Array vs) ≡ Some vs
array_is vs = out_at array_in (Json-F.Array vs) (j.Array vs) (rolls-Array vs)

text_is : (text : List ℕ) → text_of (j.Str text) ≡ Some text
text_is text = out_at text_in (Json-F.Str text) (j.Str text) (rolls-Str text)

number_is : (d : DecimalValue) → (number_of (j.Number d) ≡ Some d) × (text_of (j.Number d) ≡ None)
number_is d = (out_at number_in (Json-F.Number d) (j.Number d) (rolls-Number d), out_at text_in (Json-F.Number d) (j.Number d) (rolls-Number d))

null_is : is_null j.Null ≡ true
null_is = out_at null_in Json-F.Null j.Null rolls-Null

no_null : (text : List ℕ) → is_null (j.Str text) ≡ false
no_null text = out_at null_in (Json-F.Str text) (j.Str text) (rolls-Str text)

-- ---- keys

same_key : (a b : List ℕ) → a ≡ b → bytes_eq a b ≡ true
same_key a b e = (bytes_eq-Decides a b).1 e

other_key : (a b : List ℕ) → a ≢ b → bytes_eq a b ≡ false
other_key a b differ = by (bytes_eq a b) (bytes_eq-Decides a b).0
  where
    by : (r : Bool) → (r ≡ true → a ≡ b) → r ≡ false
    by true f = absurd (differ (f refl))
    by false f = refl

not_found : (key : List ℕ) (ms : List Member) → Lacks key ms → find key ms ≡ None
not_found key [] h = refl
not_found key (m ∷ ms) h = rw (other_key (out-Member m).key key h.0) (not_found key ms h.1)

found_behind : (key : List ℕ) (before : List Member) (m : Member) (behind : List Member) → Lacks key before → (out-Member m).key ≡ key → find key (before ++ m ∷ behind) ≡ Some (out-Member m).value
found_behind key [] m behind h e = rw (same_key (out-Member m).key key e) refl
found_behind key (x ∷ before) m behind h e = rw (other_key (out-Member x).key key h.0) (found_behind key before m behind h.1 e)

-- what is found of a part
abbrev Found : List ℕ → Type 0 → (Json → Type 0) → List Member → Type 0
Found key Without Is ms = ((find key ms ≡ None) × Without) ⊎ ((v : Json) × (find key ms ≡ Some v) × Is v)

part_found : (key : List ℕ) (Without : Type 0) (Is : Json → Type 0) (ms : List Member) → IsPart key Without Is ms → Found key Without Is ms
part_found key Without Is ms (inl h) = inl (not_found key ms h.0, h.1)
part_found key Without Is ms (inr h) =
    inr ((out-Member h.member).value, ap (find key) h.members_are ∙ found_behind key h.before h.member h.behind h.none_before h.is.0, h.is.1)

keys_known : (ms : List Member) → AreKeys ms → are_keys ms ≡ true
keys_known [] h = refl
keys_known (m ∷ ms) (inl e, h) = rw (e, keys_known ms h) refl
keys_known (m ∷ ms) (inr (inl e), h) = rw (e, keys_known ms h) refl
keys_known (m ∷ ms) (inr (inr (inl e)), h) = rw (e, keys_known ms h) refl
keys_known (m ∷ ms) (inr (inr (inr e)), h) = rw (e, keys_known ms h) refl

branch_known : (b : Branch) → branch_of (branch_key b) ≡ Some b
branch_known If = refl
branch_known ElseIf = refl
branch_known Else = refl

verb_known : (v : Verb) → (verb_of (verb_key v) ≡ Some v) × (branch_of (verb_key v) ≡ None)
verb_known Multiply = (refl, refl)
verb_known Limit = (refl, refl)

-- ---- what is done

scaled_same : (places n digits at : ℕ) → at ≤ places → n * 10 ^ at ≡ digits * 10 ^ places → digits * 10 ^ (places - at) ≡ n
scaled_same places n digits at few e =
    let power : 10 ^ places ≡ 10 ^ (places - at) * 10 ^ at = ap (λ (k : ℕ). 10 ^ k) (omega arith) ∙ pow-add 10 (places - at) at in
    let whole : digits * 10 ^ (places - at) * 10 ^ at ≡ n * 10 ^ at = mul_assoc digits (10 ^ (places - at)) (10 ^ at) ∙ ap (λ (k : ℕ). digits * k) (sym power) ∙ sym e in
    eq_of_mul-eq-mul_right (10 ^ at) (ten_pow at) (digits * 10 ^ (places - at)) n whole

scaled_is : (places most n : ℕ) (d : DecimalValue) → IsExactly places n d → n ≤ most → scaled places most d ≡ Some n
scaled_is places most n d h small =
    let sign = h.sign in
    let fit : ltb places d.places ≡ false = let few = h.few in grind (arith, nat_tests) in
    let same = scaled_same places n d.digits d.places h.few h.worth_is in
    let below : ltb most n ≡ false = grind (arith, nat_tests) in
    rw (sign, fit, same, below) refl

-- an amount is read
record Acts (running : Running) (verb : Verb) (a : Action) (v : Json) : Type 0 where
  is : is_amount v ≡ true
  reads : (item : ℕ) → action_by verb running item (text_of v) (number_of v) ≡ Ok a

constant_read : (running : Running) (verb : Verb) (a : Action) (d : DecimalValue) (item : ℕ) → IsConstant running verb a d → action_by verb running item None (Some d) ≡ Ok a
constant_read running Multiply a d item (n, e, h) = rw (scaled_is 6 10000000 n d h.0 h.1, e) refl
constant_read Speed Limit a d item (n, e, h) = rw (scaled_is 3 1000000 n d h.0 h.1, e) refl
constant_read Priority Limit a d item (n, e, h) = rw (scaled_is 6 10000000 n d h.0 h.1, e) refl

does_read : (running : Running) (verb : Verb) (a : Action) (v : Json) → Does running verb a v → Acts running verb a v
does_read running verb a v (inl (text, e, h)) = record {
  is = rw (e, text_is text) refl;
  reads = λ item. rw (e, text_is text, h) refl;
}
does_read running verb a v (inr (d, e, h)) =
    let n = number_is d in
    record {
      is = rw (e, n.0, n.1) refl;
      reads = λ item. rw (e, n.0, n.1) (constant_read running verb a d item h);
    }

-- ---- statements

module _ (running : Running) (areas : List Area) where
  written_by : (item : ℕ) (may : Bool) (b : Branch) (x : Test) (verb : Verb) (a : Action) (asked amount : Json) → MayStand may b → Asks areas b x asked → Acts running verb a amount →
      written running areas item may b asked verb amount ≡ Ok (record { branch = b; test = x; action = a })
  unfolding written acting
  written_by item may If x verb a asked amount stands (text, e, h) acts =
      let is = acts.is in
      let reads = acts.reads item in
      rw (e, text_is text, is, h, reads) refl
  written_by item may ElseIf x verb a asked amount stands (text, e, h) acts =
      let is = acts.is in
      let reads = acts.reads item in
      rw (e, text_is text, is, stands, h, reads) refl
  written_by item may Else x verb a asked amount stands (e, inl n) acts =
      let is = acts.is in
      let reads = acts.reads item in
      rw (n, null_is, is, stands, reads, e) refl
  written_by item may Else x verb a asked amount stands (e, inr n) acts =
      let is = acts.is in
      let reads = acts.reads item in
      rw (n, no_null [], text_is [], is, stands, reads, e) refl

  statement_is : (item : ℕ) (may : Bool) (s : Statement) (v : Json) (h : IsStatement running areas s v) →
      statement_of running areas item may v ≡ written running areas item may s.branch (out-Member h.asked).value h.verb (out-Member h.done).value
  unfolding statement_of
  statement_is item may s v h = by h.either
    where
      by : (v ≡ j.Object (h.asked ∷ h.done ∷ [])) ⊎ (v ≡ j.Object (h.done ∷ h.asked ∷ [])) →
          statement_of running areas item may v ≡ written running areas item may s.branch (out-Member h.asked).value h.verb (out-Member h.done).value
      by (inl e) =
          let a = h.asks.0 in
          let d = h.does.0 in
          let k = verb_known h.verb in
          rw (e, object_is (h.asked ∷ h.done ∷ []), a, d, branch_known s.branch, k.0) refl
      by (inr e) =
          let a = h.asks.0 in
          let d = h.does.0 in
          let k = verb_known h.verb in
          rw (e, object_is (h.done ∷ h.asked ∷ []), a, d, k.1, branch_known s.branch, k.0) refl

  statement_read : (item : ℕ) (may : Bool) (s : Statement) (v : Json) → MayStand may s.branch → IsStatement running areas s v → statement_of running areas item may v ≡ Ok s
  statement_read item may s v stands h =
      statement_is item may s v h
      ∙ written_by item may s.branch s.test h.verb s.action (out-Member h.asked).value (out-Member h.done).value stands h.asks.1 (does_read running h.verb s.action (out-Member h.done).value h.does.1)

  -- an `else_if` or `else` alone
  orphan_by : (item : ℕ) (b : Branch) (x : Test) (verb : Verb) (a : Action) (asked amount : Json) → (b ≢ If) → Asks areas b x asked → Acts running verb a amount →
      written running areas item false b asked verb amount ≡ Err (at_item (part_of running) item, NoIf)
  unfolding written
  orphan_by item If x verb a asked amount no_if asks acts = absurd (no_if refl)
  orphan_by item ElseIf x verb a asked amount no_if (text, e, h) acts = let is = acts.is in rw (e, text_is text, is) refl
  orphan_by item Else x verb a asked amount no_if (e, inl n) acts = let is = acts.is in rw (n, null_is, is) refl
  orphan_by item Else x verb a asked amount no_if (e, inr n) acts = let is = acts.is in rw (n, no_null [], text_is [], is) refl

  orphan_read : (item : ℕ) (s : Statement) (v : Json) → (s.branch ≢ If) → IsStatement running areas s v → statement_of running areas item false v ≡ Err (at_item (part_of running) item, NoIf)
  orphan_read item s v no_if h =
      statement_is item false s v h
      ∙ orphan_by item s.branch s.test h.verb s.action (out-Member h.asked).value (out-Member h.done).value no_if h.asks.1 (does_read running h.verb s.action (out-Member h.done).value h.does.1)

  same_goes : (b : Branch) → goes_on b ≡ models.goes_on b
  same_goes If = refl
  same_goes ElseIf = refl
  same_goes Else = refl

  statements_read : (item : ℕ) (may : Bool) (found ss : List Statement) (vs : List Json) → AreStatements running areas may ss vs → statements_from running areas item may found vs ≡ Ok (found ++ ss)
  statements_read item may found [] [] h = ap (λ (all : List Statement). Ok all) (sym (append-nil found))
  statements_read item may found [] (v ∷ vs) h = absurd h
  statements_read item may found (s ∷ ss) [] h = absurd h
  statements_read item may found (s ∷ ss) (v ∷ vs) h =
      let more = subst (λ (b : Bool). AreStatements running areas b ss vs) (same_goes s.branch) h.1.1 in
      rw (statement_read item may s v h.0 h.1.0)
      (statements_read (item + 1) (models.goes_on s.branch) (found ++ s ∷ []) ss vs more ∙ ap (λ (all : List Statement). Ok all) (append_assoc found (s ∷ []) ss))

  -- an orphan behind statements
  orphans_read : (item : ℕ) (may : Bool) (found ss : List Statement) (front : List Json) (s : Statement) (v : Json) (behind : List Json) → AreStatements running areas may ss front → goes_on_behind may ss ≡ false →
      (s.branch ≢ If) → IsStatement running areas s v → statements_from running areas item may found (front ++ v ∷ behind) ≡ Err (at_item (part_of running) (item + length front), NoIf)
  orphans_read item may found [] [] s v behind h closed no_if is =
      let e : item + 0 ≡ item = omega arith in
      rw (closed, orphan_read item s v no_if is, e) refl
  orphans_read item may found [] (w ∷ front) s v behind h closed no_if is = absurd h
  orphans_read item may found (x ∷ ss) [] s v behind h closed no_if is = absurd h
  orphans_read item may found (x ∷ ss) (w ∷ front) s v behind h closed no_if is =
      let more = subst (λ (b : Bool). AreStatements running areas b ss front) (same_goes x.branch) h.1.1 in
      let closed_too = subst (λ (b : Bool). goes_on_behind b ss ≡ false) (same_goes x.branch) closed in
      let e : item + 1 + length front ≡ item + suc (length front) = omega arith in
      rw (statement_read item may x w h.0 h.1.0, ← e) (orphans_read (item + 1) (models.goes_on x.branch) (found ++ x ∷ []) ss front s v behind more closed_too no_if is)

  orphaned_read : (item : ℕ) (v : Json) → IsOrphaned running areas item v → list_of running areas v ≡ Err (at_item (part_of running) item, NoIf)
  unfolding list_of
  orphaned_read item v o =
      let e = o.array_is in
      let n = o.item_is in
      let few : leb (length (o.front ++ o.value ∷ o.behind)) 100 ≡ true = let short = o.few in grind (arith, nat_tests) in
      rw (e, n, array_is (o.front ++ o.value ∷ o.behind), few) (orphans_read 1 false [] o.before o.front o.orphan o.value o.behind o.are o.closed o.no_if o.is)

  list_read : (ss : List Statement) (v : Json) → IsList running areas ss v → list_of running areas v ≡ Ok ss
  unfolding list_of
  list_read ss v (vs, e, h) =
      let few : leb (length vs) 100 ≡ true = let short = h.1 in grind (arith, nat_tests) in
      rw (e, array_is vs, few) (statements_read 1 false [] ss vs h.0)

  statements_part : (key : List ℕ) (ss : List Statement) (ms : List Member) → IsPart key (ss ≡ []) (IsList running areas ss) ms → statements_of running areas (find key ms) ≡ Ok ss
  statements_part key ss ms p = by (part_found key (ss ≡ []) (IsList running areas ss) ms p)
    where
      by : Found key (ss ≡ []) (IsList running areas ss) ms → statements_of running areas (find key ms) ≡ Ok ss
      by (inl h) = let none = h.0 in rw (none, h.1) refl
      by (inr (v, e, is)) = rw e (list_read ss v is)

-- ---- the influence of distance

whole_is : (n : ℕ) (d : DecimalValue) → d.negative ≡ false → d.digits ≡ n * 10 ^ d.places → n ≤ 100000 → whole_number d ≡ Some n
unfolding whole_number
whole_is n d sign e small =
    let clean : n * 10 ^ d.places % 10 ^ d.places ≡ 0 = mul-mod_left n (10 ^ d.places) in
    let back : n * 10 ^ d.places / 10 ^ d.places ≡ n = mul-div_cancel n (ten_pow d.places) in
    let below : ltb 100000 n ≡ false = grind (arith, nat_tests) in
    rw (sign, e, clean, back, below) refl

text_whole : (n : ℕ) (text : List ℕ) → IsDecimal 0 n text → n ≤ 100000 → whole_text text ≡ Ok n
unfolding whole_text
text_whole n text d small = rw (decimal_read 0 n text d, within_is 100000 n small) refl

influence_read : (n : ℕ) (v : Json) → IsInfluence n v → influence_of (Some v) ≡ Ok (Some n)
influence_read n v (inl (d, e, h), small) = let k = number_is d in rw (e, k.0, k.1, whole_is n d h.0 h.1 small) refl
influence_read n v (inr (text, e, h), small) = rw (e, text_is text, text_whole n text h small) refl

influence_part : (o : Option ℕ) (ms : List Member) → IsPart (codes "distance_influence") (o ≡ None) (λ v. (n : ℕ) × (o ≡ Some n) × IsInfluence n v) ms → influence_of (find (codes "distance_influence") ms) ≡ Ok o
influence_part o ms p = by (part_found (codes "distance_influence") (o ≡ None) (λ v. (n : ℕ) × (o ≡ Some n) × IsInfluence n v) ms p)
  where
    by : Found (codes "distance_influence") (o ≡ None) (λ v. (n : ℕ) × (o ≡ Some n) × IsInfluence n v) ms → influence_of (find (codes "distance_influence") ms) ≡ Ok o
    by (inl h) = let none = h.0 in rw (none, h.1) refl
    by (inr (v, e, (n, same, is))) = rw (e, same) (influence_read n v is)

areas_part : (areas : List Area) (ms : List Member) → IsPart (codes "areas") (areas ≡ []) (λ v. collection_of v ≡ Ok areas) ms → areas_of (find (codes "areas") ms) ≡ Ok areas
areas_part areas ms p = by (part_found (codes "areas") (areas ≡ []) (λ v. collection_of v ≡ Ok areas) ms p)
  where
    by : Found (codes "areas") (areas ≡ []) (λ v. collection_of v ≡ Ok areas) ms → areas_of (find (codes "areas") ms) ≡ Ok areas
    by (inl h) = let none = h.0 in rw (none, h.1) refl
    by (inr (v, e, is)) = rw e is

pub models_read : ModelsAreRead
unfolding model_of
models_read model ms h =
    rw (
      object_is ms,
      keys_known ms h.keys,
      areas_part model.areas ms h.areas,
      statements_part Speed model.areas (codes "speed") model.speed ms h.speed,
      statements_part Priority model.areas (codes "priority") model.priority ms h.priority,
      influence_part model.distance_influence ms h.influence,
    ) refl

-- what is found of a member that is there
has_found : (key : List ℕ) (Is : Json → Type 0) (ms : List Member) (h : Has key Is ms) → find key ms ≡ Some (out-Member h.member).value
has_found key Is ms h = ap (find key) h.members_are ∙ found_behind key h.before h.member h.behind h.none_before h.is.0

speed_orphan : (areas : List Area) (ms : List Member) (item : ℕ) → AreKeys ms → IsPart (codes "areas") (areas ≡ []) (λ v. collection_of v ≡ Ok areas) ms → Has (codes "speed") (IsOrphaned Speed areas item) ms →
    model_of (j.Object ms) ≡ Err (at_item part.Speed item, NoIf)
unfolding model_of
speed_orphan areas ms item keys a h =
    rw (object_is ms, keys_known ms keys, areas_part areas ms a, has_found (codes "speed") (IsOrphaned Speed areas item) ms h, orphaned_read Speed areas item (out-Member h.member).value h.is.1) refl

priority_orphan : (areas : List Area) (speed : List Statement) (ms : List Member) (item : ℕ) → AreKeys ms → IsPart (codes "areas") (areas ≡ []) (λ v. collection_of v ≡ Ok areas) ms →
    IsPart (codes "speed") (speed ≡ []) (IsList Speed areas speed) ms → Has (codes "priority") (IsOrphaned Priority areas item) ms → model_of (j.Object ms) ≡ Err (at_item part.Priority item, NoIf)
unfolding model_of
priority_orphan areas speed ms item keys a s h =
    rw (
      object_is ms,
      keys_known ms keys,
      areas_part areas ms a,
      statements_part Speed areas (codes "speed") speed ms s,
      has_found (codes "priority") (IsOrphaned Priority areas item) ms h,
      orphaned_read Priority areas item (out-Member h.member).value h.is.1,
    ) refl

pub orphans_refused : OrphansAreRefused
orphans_refused = record {
  speed = λ areas ms item keys a h. speed_orphan areas ms item keys a h;
  priority = λ areas speed ms item keys a s h. priority_orphan areas speed ms item keys a s h;
}
