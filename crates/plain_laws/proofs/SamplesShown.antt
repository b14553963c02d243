-- The texts compute.
use Rattle.std.proofs.Common.{◌≡◌, refl}
use Rattle.std.specs.Str.Lossy.{utf8_valid_len}
use Rattle.std.specs.Str.{is_utf8, chars}
use lib.Utf8.{encode}
use Rattle.gh_base.specs.Decimals.{natural_of, id_of, split_at_dot, decimal_of}
use Rattle.plain_map.specs.Escapes.{scalar_at, text_at}
use Rattle.plain_map.specs.Fields.{coordinate_at, tag_at, tags_at, refs_at, node_with, way_with}
use Rattle.plain_map.specs.Lines.{node_line, way_line, line_at, reads}
use Rattle.plain_laws.specs.Samples.{MapsAreSo, FaultsStandSo}

pub maps_so : MapsAreSo
unfolding reads line_at node_line way_line node_with way_with coordinate_at tag_at tags_at refs_at scalar_at text_at natural_of id_of split_at_dot decimal_of utf8_valid_len is_utf8 chars encode
maps_so = refl

pub faults_so : FaultsStandSo
unfolding reads line_at node_line way_line node_with way_with coordinate_at tag_at tags_at refs_at scalar_at text_at natural_of id_of split_at_dot decimal_of utf8_valid_len is_utf8 chars encode
faults_so = refl
