-- What clap's faults refuse, and what it finds where there is none.
use Rattle.std.proofs.Common.{◌≡◌, ◌≢◌, [], ◌∷◌, inl, inr, List, None, Some, refl, subst}
use Rattle.clap.specs.Words.{HasKind, IsAmong, Kinds, Row, kind_of}
use Rattle.clap.specs.declared.error.Error.{Error}
use Rattle.clap.specs.declared.error.kind.ErrorKind.TheVariants.{OutOfMemory}
use Rattle.gh_words.specs.Words.{if_free}

pub free : (kinds : Kinds) (rows : List Row) → kinds ≡ [] → if_free kinds rows ≡ Some rows
free kinds rows none = rw none refl

pub refused_by : (kinds : Kinds) (rows : List Row) → kinds ≢ [] → if_free kinds rows ≡ None
refused_by [] rows some = absurd (some refl)
refused_by (kind ∷ kinds) rows some = refl

-- an error that isn't want of memory is of one of the kinds
pub some_kind : (kinds : Kinds) (error : Error) → HasKind kinds error → kind_of error ≢ OutOfMemory → kinds ≢ []
some_kind kinds error (inl memory) other = absurd (other memory)
some_kind kinds error (inr among) other = λ none. subst (IsAmong (kind_of error)) none among
