-- The files compute.
use Rattle.std.proofs.Common.{◌≡◌, refl}
use Rattle.std.specs.Str.Lossy.{utf8_valid_len}
use Rattle.std.specs.Str.{is_utf8, chars}
use lib.Utf8.{encode}
use Rattle.pbf_wire.specs.Wire.{varint_front, varint_at, value_of, behind_key, field_of}
use Rattle.pbf_wire.specs.Runs.{run_of}
use Rattle.pbf_wire.specs.Lists.{varints_of}
use Rattle.pbf_wire.specs.Deltas.{coordinate_of}
use Rattle.pbf_wire.specs.Nodes.{node_of, node_with}
use Rattle.pbf_wire.specs.Dense.{dense_of, dense_with}
use Rattle.pbf_wire.specs.Ways.{way_of, way_with}
use Rattle.pbf_wire.specs.Groups.{message_in, group_of, message_with, group_with}
use Rattle.pbf_wire.specs.Blocks.{block_of, block_with}
use Rattle.pbf_wire.specs.Headers.{header_block}
use Rattle.pbf_wire.specs.Blobs.{header_length, header_at, content_at, blob_with}
use Rattle.pbf_wire.specs.Files.{reads}
use Rattle.pbf_laws.specs.Samples.{FilesAreSo}
use Rattle.pbf_laws.specs.Faults.{FaultsStandSo}

pub files_so : FilesAreSo
unfolding reads header_length header_at content_at blob_with header_block block_of block_with message_in group_of message_with group_with way_of way_with dense_of dense_with node_of node_with coordinate_of varints_of run_of field_of behind_key value_of varint_at varint_front utf8_valid_len is_utf8 chars encode
files_so = refl

pub faults_so : FaultsStandSo
unfolding reads header_length header_at content_at blob_with header_block block_of block_with message_in group_of message_with group_with way_of way_with dense_of dense_with node_of node_with coordinate_of varints_of run_of field_of behind_key value_of varint_at varint_front utf8_valid_len is_utf8 chars encode
faults_so = refl
