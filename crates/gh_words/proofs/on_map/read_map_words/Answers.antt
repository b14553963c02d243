use Rattle.std.proofs.Common.{◌≡◌, Some, subst, map, string_bytes}
use Rattle.clap.specs.Words.{found_of, rows_of}
use Rattle.gh_words.specs.Words.{map_app, map_words, map_at_in, found_in}
use Rattle.gh_words.specs.Given.{map_at_by}
use Rattle.gh_words.specs.declared.request.WordsFault.TheVariants.{Usage}
use Rattle.gh_words.proofs.Answered.{answered}
use Rattle.gh_words.proofs.on_map.read_map_words.Goals as goal

pub returns-clause-at : goal.returns-clause-at
unfolding map_words
returns-clause-at c =
    let app = map_app c.args.name.now in
    let found : found_in app (map (λ w. string_bytes w) c.args.words.now) ≡ Some (rows_of (found_of c.in_ok-matches.matches))
    = subst (λ a. found_in a (map (λ w. string_bytes w) c.args.words.now) ≡ Some (rows_of (found_of c.in_ok-matches.matches))) c.in_ok-map_command.ensures c.in_ok-matches.ensures.found in
    rw c.ok_or.ensures.value (answered map_at_by _ map_at_in (rows_of (found_of c.in_ok-matches.matches)) c.map_at_given.result Usage found c.map_at_given.ensures)
