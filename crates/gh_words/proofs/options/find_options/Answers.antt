use Rattle.std.proofs.Common.{◌≡◌, ◌∙◌, ap, sym, map, string_bytes, false, Some}
use Rattle.std.proofs.lemmas.Bool.{and_parts}
use Rattle.std.specs.List.{list_any}
use Rattle.clap.specs.Words.{app_of, found_of, matches_of, rows_of}
use Rattle.gh_words.specs.Words.{is_dashes}
use Rattle.gh_words.specs.declared.request.WordsFault.TheVariants.{Usage}
use Rattle.gh_words.proofs.Free.{free, refused_by, some_kind}
use Rattle.gh_words.proofs.options.find_options.Goals as goal

pub returns-in-Ok-clause-found : goal.returns-in-Ok-clause-found
returns-in-Ok-clause-found c =
    let none : list_any is_dashes (map (λ w. string_bytes w) c.args.words.now) ≡ false = sym c.has_dashes.ensures ∙ c.if-has_dashes.false in
    let rows : rows_of (found_of c.in-Ok.matches) ≡ matches_of (app_of c.args.command) (map (λ w. string_bytes w) c.args.words.now)
    = (c.in-Ok.ensures.matches (and_parts _ _ c.requires).0).0 in
    rw none (free _ _ (c.in-Ok.ensures.kinds c.requires) ∙ ap Some (sym rows))

pub returns-in-Err-clause-usage : goal.returns-in-Err-clause-usage
returns-in-Err-clause-usage c = λ u.
    let usage : c.fault_of_error.result ≡ Usage = cc u in
    let none : list_any is_dashes (map (λ w. string_bytes w) c.args.words.now) ≡ false = sym c.has_dashes.ensures ∙ c.if-has_dashes.false in
    rw none (refused_by _ _ (some_kind _ c.in-Err.error (c.in-Err.ensures.kinds c.requires) (c.fault_of_error.ensures usage)))
