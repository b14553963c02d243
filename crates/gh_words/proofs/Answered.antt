-- A request that the options make is the answer of the words.
use Rattle.std.proofs.Common.{◌≡◌, List, Option, Some, None, IfOk, ok_or, option_map, sym}
use Rattle.clap.specs.Words.{Row}
use Rattle.gh_base.specs.Decimals.{◌>>=◌}
use Rattle.gh_words.specs.declared.request.WordsFault.{WordsFault}

module _ {X Y : Type 0} (by : X → Y) (rows : Option (List Row)) (say : List Row → Option Y) (found : List Row) where
  pub answered : (given : Option X) (fault : WordsFault) → rows ≡ Some found → option_map by given ≡ say found → IfOk (ok_or given fault) (λ r. (rows >>= say) ≡ Some (by r))
  answered None fault are said = tt
  answered (Some request) fault are said = rw are (sym said)
