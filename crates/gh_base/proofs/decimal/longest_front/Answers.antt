use Rattle.std.proofs.Common.{◌≡◌, ◌<◌, ℕ, Bool, true, false, subst, arith}
use Rattle.gh_base.proofs.Fronts.{DigitsEnd, sign, ends_without_dot, ends_with_dot}
use Rattle.gh_base.proofs.decimal.longest_front.Goals as goal

pub returns-then-goes_on_at-clause-longest : goal.returns-then-goes_on_at-clause-longest
returns-then-goes_on_at-clause-longest c =
    let P : ℕ → Type 0 = λ s. DigitsEnd c.args.text.now s 9 c.digits_end-dot.result in
    let e = c.digits_end-dot.ensures in
    let whole : DigitsEnd c.args.text.now c.sign_length-start.result 9 c.digits_end-dot.result = record { within = e.within; least = e.least; most = e.most; digits = e.digits; end = e.end } in
    let f = c.digits_end.ensures in
    let goes = c.goes_on_at.ensures.0 c.if-goes_on_at.true in
    let start : c.sign_length-start.result ≡ sign c.args.text.now = c.sign_length-start.ensures.value in
    let some : sign c.args.text.now < c.digits_end-dot.result = omega (arith, goes.0) in
    ends_with_dot c.args.places c.args.text.now c.digits_end-dot.result c.digits_end.result (subst P start whole) some goes.1 goes.2 goes.3 (record { within = f.within; least = f.least; most = f.most; digits = f.digits; end = f.end })

pub returns-else-goes_on_at-clause-longest : goal.returns-else-goes_on_at-clause-longest
returns-else-goes_on_at-clause-longest c =
    let P : ℕ → Type 0 = λ s. DigitsEnd c.args.text.now s 9 c.digits_end-dot.result in
    let e = c.digits_end-dot.ensures in
    let whole : DigitsEnd c.args.text.now c.sign_length-start.result 9 c.digits_end-dot.result = record { within = e.within; least = e.least; most = e.most; digits = e.digits; end = e.end } in
    let start : c.sign_length-start.result ≡ sign c.args.text.now = c.sign_length-start.ensures.value in
    ends_without_dot c.args.places c.args.text.now c.digits_end-dot.result (subst P start whole) (λ w. false_true c.goes_on_at.result c.if-goes_on_at.false (c.goes_on_at.ensures.1 (omega (arith, w.0), w.1, w.2, w.3)))
  where
    false_true : (b : Bool) → b ≡ false → b ≡ true → ⊥
    false_true b f t = cc
