use Rattle.std.proofs.Common.{◌≡◌, Some, subst, map, string_bytes}
use Rattle.clap.specs.Words.{found_of, rows_of}
use Rattle.gh_words.specs.Words.{generate_app, generate_asked, generate_in, found_in, asked_by}
use Rattle.gh_words.specs.declared.request.WordsFault.TheVariants.{Usage}
use Rattle.gh_words.proofs.Answered.{answered}
use Rattle.gh_words.proofs.generate.read_generate.Goals as goal

pub returns-clause-request : goal.returns-clause-request
unfolding generate_asked
returns-clause-request c =
    let found : found_in generate_app (map (λ w. string_bytes w) c.args.words.now) ≡ Some (rows_of (found_of c.in_ok-matches.matches))
    = subst (λ a. found_in a (map (λ w. string_bytes w) c.args.words.now) ≡ Some (rows_of (found_of c.in_ok-matches.matches))) c.in_ok-generate_command.ensures c.in_ok-matches.ensures.found in
    rw c.ok_or.ensures.value (answered asked_by _ generate_in (rows_of (found_of c.in_ok-matches.matches)) c.generate_given.result Usage found c.generate_given.ensures.given)
