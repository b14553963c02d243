use Rattle.std.proofs.Common.{◌≡◌, arith, false, Some}
use Rattle.gh_base.specs.Decimals.{natural_of}
use Rattle.gh_words.specs.Words.{begins_with_zero}
use Rattle.gh_words.proofs.Spellings.{reads, spelled}
use Rattle.gh_words.proofs.numbers.number_read.Goals as goal
use Rattle.gh_words.proofs.numbers.number_read.Goals.{else-from-n-via-then-from-n+else-n-from, else-from-n-via-else-from-n}

pub returns-then-has_leading_zero-clause-each : goal.returns-then-has_leading_zero-clause-each
returns-then-has_leading_zero-clause-each c = λ n is text.
    let read = (reads c.args.word.now n (omega (arith, is.least, c.requires.some)) (omega (arith, is.most, c.requires.few)) text).0 in
    let zero = c.has_leading_zero.ensures in
    let true_is = c.if-has_leading_zero.true in
    let bytes = c.as_bytes.ensures.value in
    cc

pub returns-in_err-n-clause-each : goal.returns-in_err-n-clause-each
returns-in_err-n-clause-each c = λ n is text.
    let read = (reads c.args.word.now n (omega (arith, is.least, c.requires.some)) (omega (arith, is.most, c.requires.few)) text).1 in
    let none = c.in_err-n.ensures.value in
    let was = c.in_err-n.was in
    let bytes = c.as_bytes-2.ensures.value in
    cc

pub returns-then-n-from-clause-spelled : goal.returns-then-n-from-clause-spelled
returns-then-n-from-clause-spelled c =
    let first = c.as_bytes.ensures.value in
    let second = c.as_bytes-2.ensures.value in
    let found = c.has_leading_zero.ensures in
    let none = c.if-has_leading_zero.false in
    let was = c.in_ok-n.ensures.value in
    let zero : begins_with_zero c.args.word.now ≡ false = cc in
    let natural : natural_of 3 c.args.word.now ≡ Some c.in_ok-n.n = cc in
    spelled c.args.word.now c.in_ok-n.n zero natural (omega (arith, c.if-n-from.true))

pub returns-then-n-from-clause-each : goal.returns-then-n-from-clause-each
returns-then-n-from-clause-each c = λ n is text.
    let bytes = c.as_bytes-2.ensures.value in
    let was = c.in_ok-n.ensures.value in
    let read = (reads c.args.word.now n (omega (arith, is.least, c.requires.some)) (omega (arith, is.most, c.requires.few)) text).1 in
    cc

pub returns-else-from-n-clause-each : goal.returns-else-from-n-clause-each
returns-else-from-n-clause-each c = λ n is text.
    let read = (reads c.args.word.now n (omega (arith, is.least, c.requires.some)) (omega (arith, is.most, c.requires.few)) text).1 in
    let bytes = c.as_bytes-2.ensures.value in
    let was = c.in_ok-n.ensures.value in
    let same : c.in_ok-n.n ≡ n = cc in
    let least = is.least in
    let most = is.most in
    elim c.else-from-n.branch [
      | else-from-n-via-then-from-n+else-n-from w ↦ absurd (omega (arith, same, most, w.if-n-from))
      | else-from-n-via-else-from-n w ↦ absurd (omega (arith, same, least, w.if-from-n))
    ]
