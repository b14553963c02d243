-- What is refused computes.
use Rattle.std.proofs.Common.{refl}
use Rattle.clap.proofs.OnLiterals.{clap_on_literals}
use Rattle.gh_base.specs.Decimals.{natural_of}
use Rattle.gh_words.specs.Words.{asked, convert_asked, counted_words, generate_asked, map_words}
use Rattle.word_laws.specs.Samples.{LinesAreRefused}

pub refused_so : LinesAreRefused
unfolding asked map_words convert_asked generate_asked counted_words natural_of clap_on_literals
refused_so = refl
