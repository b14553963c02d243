use Rattle.std.proofs.Common.{◌≡◌, Some, subst, map, string_bytes}
use Rattle.clap.specs.Words.{found_of, rows_of}
use Rattle.gh_words.specs.Words.{counted_app, counted_words, counted_in, found_in}
use Rattle.gh_words.specs.Given.{counted_by}
use Rattle.gh_words.specs.declared.request.WordsFault.TheVariants.{Usage}
use Rattle.gh_words.proofs.Answered.{answered}
use Rattle.gh_words.proofs.counted.read_counted_words.Goals as goal

pub returns-clause-at : goal.returns-clause-at
unfolding counted_words
returns-clause-at c =
    let app = counted_app c.args.name.now in
    let found : found_in app (map (λ w. string_bytes w) c.args.words.now) ≡ Some (rows_of (found_of c.in_ok-matches.matches))
    = subst (λ a. found_in a (map (λ w. string_bytes w) c.args.words.now) ≡ Some (rows_of (found_of c.in_ok-matches.matches))) c.in_ok-counted_command.ensures c.in_ok-matches.ensures.found in
    rw c.ok_or.ensures.value (answered counted_by _ counted_in (rows_of (found_of c.in_ok-matches.matches)) c.counted_given.result Usage found c.counted_given.ensures.given)
