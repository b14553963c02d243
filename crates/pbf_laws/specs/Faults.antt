-- Files that are refused, with the byte of the first fault and what is wrong there.
use Rattle.std.specs.Prelude.{◌≡◌, ℕ, List, [], ◌∷◌, ◌++◌, take, Err, map, codes}
use Rattle.gh_base.specs.declared.kinds.PbfKind.{PbfKind}
use Rattle.gh_base.specs.declared.kinds.PbfKind.TheVariants.{Truncated, HeaderTooLong, BadWire, Missing, BlobTooLong, NoHeader, NoData, Compressed, Feature, BadUtf8, Uneven, OddKeys, BadIndex, BadId, BadPlace}
use Rattle.pbf_wire.specs.Files.{reads}
use Rattle.pbf_laws.specs.Building.{bytes, number, entry, raw, features, file}

pub record Refused : Type 0 where
  pub bytes_are : List ℕ
  pub byte : ℕ
  pub kind : PbfKind

abbrev pub refused : List Refused
refused =
    record { bytes_are = []; byte = 0; kind = NoHeader } ∷
    record { bytes_are = raw (codes "OSMData") []; byte = 0; kind = NoHeader } ∷
    record { bytes_are = take 3 features; byte = 3; kind = Truncated } ∷
    record { bytes_are = take 10 features; byte = 10; kind = Truncated } ∷
    record { bytes_are = take 46 features; byte = 46; kind = Truncated } ∷
    record { bytes_are = features ++ 0 ∷ 1 ∷ 0 ∷ 0 ∷ []; byte = 47; kind = HeaderTooLong } ∷
    -- wire type 7
    record { bytes_are = 0 ∷ 0 ∷ 0 ∷ 1 ∷ 15 ∷ []; byte = 4; kind = BadWire } ∷
    record { bytes_are = (0 ∷ 0 ∷ 0 ∷ 11 ∷ []) ++ bytes 1 (codes "OSMHeader"); byte = 4; kind = Missing } ∷
    -- 33555457
    record { bytes_are = (0 ∷ 0 ∷ 0 ∷ 16 ∷ []) ++ (bytes 1 (codes "OSMHeader") ++ number 3 (129 ∷ 136 ∷ 128 ∷ 16 ∷ [])); byte = 4; kind = BlobTooLong } ∷
    record { bytes_are = entry (codes "OSMHeader") []; byte = 17; kind = NoData } ∷
    record { bytes_are = entry (codes "OSMHeader") (bytes 3 (0 ∷ [])); byte = 17; kind = Compressed 3 } ∷
    record { bytes_are = raw (codes "OSMHeader") (bytes 4 (codes "DenseNodes") ++ bytes 4 (codes "X")); byte = 31; kind = Feature (codes "X") } ∷
    record { bytes_are = file (bytes 1 (bytes 1 (255 ∷ []))); byte = 66; kind = BadUtf8 } ∷
    -- field number 0
    record { bytes_are = file (bytes 2 (bytes 1 (2 ∷ 0 ∷ []))); byte = 68; kind = BadWire } ∷
    -- a varint of a packed list goes past its end
    record { bytes_are = file (bytes 2 (bytes 2 (bytes 1 (130 ∷ [])))); byte = 68; kind = BadWire } ∷
    record { bytes_are = file (bytes 2 (bytes 1 (number 1 (2 ∷ []) ++ number 9 (0 ∷ [])))); byte = 68; kind = Missing } ∷
    record { bytes_are = file (bytes 2 (bytes 3 (bytes 8 (2 ∷ [])))); byte = 68; kind = Missing } ∷
    record { bytes_are = file (bytes 2 (bytes 2 (bytes 1 (2 ∷ 2 ∷ []) ++ (bytes 8 (0 ∷ []) ++ bytes 9 (0 ∷ 0 ∷ []))))); byte = 68; kind = Uneven } ∷
    record { bytes_are = file (bytes 2 (bytes 3 (number 1 (1 ∷ []) ++ bytes 2 (0 ∷ [])))); byte = 68; kind = Uneven } ∷
    record { bytes_are = file (bytes 2 (bytes 2 (bytes 1 (2 ∷ []) ++ (bytes 8 (0 ∷ []) ++ (bytes 9 (0 ∷ []) ++ bytes 10 (1 ∷ 0 ∷ [])))))); byte = 68; kind = OddKeys } ∷
    record { bytes_are = file (bytes 1 (bytes 1 []) ++ bytes 2 (bytes 3 (number 1 (1 ∷ []) ++ (bytes 2 (1 ∷ []) ++ bytes 3 (0 ∷ []))))); byte = 72; kind = BadIndex } ∷
    -- a way 10^18
    record { bytes_are = file (bytes 2 (bytes 3 (number 1 (128 ∷ 128 ∷ 144 ∷ 187 ∷ 186 ∷ 214 ∷ 173 ∷ 240 ∷ 13 ∷ [])))); byte = 68; kind = BadId } ∷
    -- 90.0000001 degrees
    record { bytes_are = file (bytes 2 (bytes 1 (number 1 (2 ∷ []) ++ (number 8 (130 ∷ 164 ∷ 167 ∷ 218 ∷ 6 ∷ []) ++ number 9 (0 ∷ []))))); byte = 68; kind = BadPlace } ∷ []

abbrev pub FaultsStandSo : Type 0
FaultsStandSo = map (λ (r : Refused). reads r.bytes_are) refused ≡ map (λ (r : Refused). Err (r.byte, r.kind)) refused
