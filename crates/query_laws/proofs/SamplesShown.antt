-- The faults compute.
use Rattle.std.proofs.Common.{refl}
use Rattle.std.specs.Str.{chars, is_utf8}
use Rattle.std.specs.Str.Lossy.{utf8_valid_len}
use lib.Utf8.{encode}
use Rattle.gh_base.specs.Decimals.{id_of, natural_of}
use Rattle.query_lines.specs.Queries.{query, query_at, tower_of}
use Rattle.query_laws.specs.Samples.{LineFaultsAreSo}

pub faults_so : LineFaultsAreSo
unfolding query_at query tower_of id_of natural_of utf8_valid_len is_utf8 chars encode
faults_so = record { lines = refl; too_many = refl; strange = refl }
