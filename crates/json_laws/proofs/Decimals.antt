-- Decimals are worth what their texts say.
use Rattle.std.proofs.Common.{◌≡◌, ◌∙◌, ℕ, suc, zero, ◌+◌, ◌-◌, ◌*◌, ◌^◌, ◌<◌, ◌≤◌, List, [], ◌∷◌, ◌++◌, length, Bool, true, false, ◌&&◌, cond, Option, Some, None, refl, ap, sym, subst, arith}
use Rattle.std.specs.Prelude.{nat_lt, nat_le}
use Rattle.std.proofs.lemmas.Bool.Decides.{nat_tests}
use Rattle.std.proofs.lemmas.Nat.{pow-add}
use Rattle.std.proofs.Math.Nat.{mul_assoc, mul_comm, le-mul_of_pos_right}
use Rattle.exact_json.specs.Decimals.{DecimalValue, limit, spelled, below, exponent_of, exactly, scaled, decimal_of}
use Rattle.exact_json.proofs.Limits.{ten_pow}
use Rattle.json_laws.specs.Numbering.{IsWorth, DecimalsAreExact}

spelled_append : (n : ℕ) (a b : List ℕ) → spelled n (a ++ b) ≡ spelled (spelled n a) b
spelled_append n [] b = refl
spelled_append n (x ∷ a) b = spelled_append (10 * n + (x - 48)) a b

below_is : (n m : ℕ) → below n ≡ Some m → n ≡ m
unfolding below
below_is n m e = by (nat_lt n limit) e
  where
    by : (t : Bool) → cond t (Some n) None ≡ Some m → n ≡ m
    by true h = cc
    by false h = cc

exponent_is : (digits : List ℕ) (e : ℕ) → exponent_of digits ≡ Some e → spelled 0 digits ≡ e
unfolding exponent_of
exponent_is digits e h = by (nat_le (length digits) 4) h
  where
    by : (t : Bool) → cond t (below (spelled 0 digits)) None ≡ Some e → spelled 0 digits ≡ e
    by true k = below_is (spelled 0 digits) e k
    by false k = cc

pub record IsOf (negative : Bool) (n places : ℕ) (d : DecimalValue) : Type 0 where
  pub sign : d.negative ≡ (negative && nat_lt 0 n)
  pub digits : d.digits ≡ n
  pub places_are : d.places ≡ places

exactly_is : (negative : Bool) (n places : ℕ) (d : DecimalValue) → exactly negative n places ≡ Some d → IsOf negative n places d
exactly_is negative n places d e = by (nat_le places 18) e
  where
    by : (t : Bool) → cond t (Some (record { negative = negative && nat_lt 0 n; digits = n; places = places })) None ≡ Some d → IsOf negative n places d
    by true h = record { sign = cc; digits = cc; places_are = cc }
    by false h = cc

abbrev Right : Bool → ℕ → ℕ → Bool → ℕ → DecimalValue → Type 0
Right negative n places down e d = IsWorth d n places down e × (d.negative ≡ (negative && nat_lt 0 n))

up_within : (negative : Bool) (n places e : ℕ) (d : DecimalValue) → e ≤ places → IsOf negative n (places - e) d → Right negative n places false e d
up_within negative n places e d le h =
    let power : 10 ^ places ≡ 10 ^ e * 10 ^ (places - e) = ap (λ (k : ℕ). 10 ^ k) (omega arith) ∙ pow-add 10 e (places - e) in
    (rw (h.digits, h.places_are, power) (sym (mul_assoc n (10 ^ e) (10 ^ (places - e)))), h.sign)

same_sign : (n p m : ℕ) → 0 < p → n * p ≡ m → nat_lt 0 m ≡ nat_lt 0 n
same_sign zero p m some e = let z : m ≡ 0 = omega (arith, e) in rw z refl
same_sign (suc n) p m some e =
    let times : p ≤ p * suc n = le-mul_of_pos_right {m = suc n} p (omega arith) in
    let more : p ≤ m = subst (λ (k : ℕ). p ≤ k) (mul_comm p (suc n) ∙ e) times in
    let one : nat_lt 0 m ≡ true = grind (arith, nat_tests) in
    let two : nat_lt 0 (suc n) ≡ true = grind (arith, nat_tests) in
    one ∙ sym two

up_past : (negative : Bool) (n places e m : ℕ) (d : DecimalValue) → places < e → n * 10 ^ (e - places) ≡ m → IsOf negative m 0 d → Right negative n places false e d
up_past negative n places e m d lt times h =
    let power : 10 ^ (e - places) * 10 ^ places ≡ 10 ^ e = sym (pow-add 10 (e - places) places) ∙ ap (λ (k : ℕ). 10 ^ k) (omega arith) in
    let worth : m * 10 ^ places ≡ n * 10 ^ e = ap (λ (k : ℕ). k * 10 ^ places) (sym times) ∙ (mul_assoc n (10 ^ (e - places)) (10 ^ places) ∙ ap (λ (k : ℕ). n * k) power) in
    let sign = same_sign n (10 ^ (e - places)) m (ten_pow (e - places)) times in
    (rw (h.digits, h.places_are) (omega (arith, worth)), h.sign ∙ ap (λ (b : Bool). negative && b) sign)

bind : Option ℕ → (ℕ → Option DecimalValue) → Option DecimalValue
bind None f = None
bind (Some x) f = f x

bind_some : (o : Option ℕ) (f : ℕ → Option DecimalValue) (d : DecimalValue) → bind o f ≡ Some d → (x : ℕ) × (o ≡ Some x) × (f x ≡ Some d)
unfolding bind
bind_some None f d e = cc
bind_some (Some x) f d e = (x, refl, e)

scaled_is : (negative : Bool) (n places : ℕ) (down : Bool) (e : ℕ) (d : DecimalValue) → scaled negative n places down e ≡ Some d → Right negative n places down e d
unfolding bind
scaled_is negative n places true e d h = let r = exactly_is negative n (places + e) d h in (rw (r.digits, r.places_are) refl, r.sign)
scaled_is negative n places false e d h = by (nat_le e places) refl h
  where
    by : (t : Bool) → nat_le e places ≡ t → cond t (exactly negative n (places - e)) (bind (below (n * 10 ^ (e - places))) (λ m. exactly negative m 0)) ≡ Some d → Right negative n places false e d
    by true le k = up_within negative n places e d (grind (arith, nat_tests)) (exactly_is negative n (places - e) d k)
    by false le k =
        let lt : places < e = grind (arith, nat_tests) in
        let found = bind_some (below (n * 10 ^ (e - places))) (λ m. exactly negative m 0) d k in
        up_past negative n places e found.0 d lt (below_is (n * 10 ^ (e - places)) found.0 found.1) (exactly_is negative found.0 0 d found.2)

pub decimals_exact : DecimalsAreExact
unfolding decimal_of bind
decimals_exact negative down whole fraction exponent d h =
    let one = bind_some (below (spelled 0 whole)) (λ n. bind (below (spelled n fraction)) (λ m. bind (exponent_of exponent) (λ e. scaled negative m (length fraction) down e))) d h in
    let two = bind_some (below (spelled one.0 fraction)) (λ m. bind (exponent_of exponent) (λ e. scaled negative m (length fraction) down e)) d one.2 in
    let three = bind_some (exponent_of exponent) (λ e. scaled negative two.0 (length fraction) down e) d two.2 in
    let front : spelled 0 whole ≡ one.0 = below_is (spelled 0 whole) one.0 one.1 in
    let digits : two.0 ≡ spelled 0 (whole ++ fraction) = sym (below_is (spelled one.0 fraction) two.0 two.1) ∙ (ap (λ (k : ℕ). spelled k fraction) (sym front) ∙ sym (spelled_append 0 whole fraction)) in
    let up : three.0 ≡ spelled 0 exponent = sym (exponent_is exponent three.0 three.1) in
    subst (λ (k : ℕ). Right negative (spelled 0 (whole ++ fraction)) (length fraction) down k d) up
    (subst (λ (k : ℕ). Right negative k (length fraction) down three.0 d) digits (scaled_is negative two.0 (length fraction) down three.0 d three.2))
