-- Blobs and files (OSM wiki, "PBF Format": "File format", "Definition of the OSMHeader fileblock").
use Rattle.std.specs.Prelude.{◌≡◌, ◌≢◌, ◌⊎◌, ℕ, ◌<◌, ◌≤◌, List, [], ◌∷◌, ◌++◌, length, Bool, ◌||◌, ◌&&◌, ◌==◌, nat_le, Option, Some, None, Ok, codes, if◌then◌else◌}
use Rattle.std.specs.List.{AllByRecursion}
use Rattle.std.specs.Int.{bytes_high_first}
use Rattle.gh_base.specs.declared.map.OsmMap.{OsmMap}
use Rattle.pbf_wire.specs.Files.{reads}
use Rattle.pbf_file_laws.specs.Messages.{Value, Entry, IsMessage}
use Rattle.pbf_file_laws.specs.Saying.{or_else, scalar, contents, joined, Pairwise}
use Rattle.pbf_file_laws.specs.Blocks.{IsBlock, no_map, together}

-- bytes behind a number
pub record Held : Type 0 where
  pub number : ℕ
  pub bytes : List ℕ

abbrev pub held_in : ℕ → Value → Option Held
held_in number (Value.Varint groups) = None
held_in number (Value.Eight bytes) = None
held_in number (Value.Bytes size content) = Some (record { number = number; bytes = content })
held_in number (Value.Four bytes) = None

-- the last bytes behind a number that passes a test
abbrev pub last_held : (ℕ → Bool) → List Entry → Option Held
last_held test [] = None
last_held test (entry ∷ entries) = or_else (last_held test entries) (if test entry.number then held_in entry.number entry.value else None)

-- raw=1, or compressed: zlib_data=3, lzma_data=4, bzip2_data=5, lz4_data=6, zstd_data=7
abbrev pub is_data : ℕ → Bool
is_data number = number == 1 || (nat_le 3 number && nat_le number 7)

-- these bytes are a Blob that holds this content as it is
pub record IsRaw (bytes content : List ℕ) : Type 0 where
  pub entries : List Entry
  pub written : IsMessage bytes entries
  pub last : last_held is_data entries ≡ Some (record { number = 1; bytes = content })

abbrev pub IsKnown : List ℕ → Type 0
IsKnown name = (name ≡ codes "OsmSchema-V0.6") ⊎ (name ≡ codes "DenseNodes")

-- these bytes are a HeaderBlock whose required_features=4 are known
pub record IsHeader (bytes : List ℕ) : Type 0 where
  pub entries : List Entry
  pub written : IsMessage bytes entries
  pub known : AllByRecursion IsKnown (contents 4 entries)

-- what a blob is for
pub data Kind : Type 0 where
  Header : Kind
  Data : Kind
  Other : Kind

abbrev pub IsNamed : Kind → List ℕ → Type 0
IsNamed Kind.Header name = name ≡ codes "OSMHeader"
IsNamed Kind.Data name = name ≡ codes "OSMData"
IsNamed Kind.Other name = (name ≢ codes "OSMHeader") × (name ≢ codes "OSMData")

-- what a Blob of a kind says of the map
abbrev pub BlobSays : Kind → List ℕ → OsmMap → Type 0
BlobSays Kind.Header blob part = (content : List ℕ) × IsRaw blob content × IsHeader content × (part ≡ no_map)
BlobSays Kind.Data blob part = (content : List ℕ) × IsRaw blob content × IsBlock content part
BlobSays Kind.Other blob part = part ≡ no_map

abbrev pub is_type : ℕ → Bool
is_type number = number == 1

-- these bytes are the length of a BlobHeader in four bytes, the BlobHeader with type=1 and datasize=3, and a Blob of that size
pub record IsBlob (kind : Kind) (bytes : List ℕ) (part : OsmMap) : Type 0 where
  pub header : List ℕ
  pub blob : List ℕ
  pub text : bytes ≡ bytes_high_first 4 (length header) ++ (header ++ blob)
  pub short : length header < 65536
  pub entries : List Entry
  pub written : IsMessage header entries
  pub name : List ℕ
  pub type : last_held is_type entries ≡ Some (record { number = 1; bytes = name })
  pub named : IsNamed kind name
  pub datasize : scalar 3 entries ≡ Some (length blob)
  pub few : length blob ≤ 33555456
  pub says : BlobSays kind blob part

abbrev pub IsAnyBlob : List ℕ → OsmMap → Type 0
IsAnyBlob bytes part = (kind : Kind) × IsBlob kind bytes part

-- these bytes are a file, and this map: blobs one behind another, the first a header
pub record IsFile (file : List ℕ) (m : OsmMap) : Type 0 where
  pub first : List ℕ
  pub header : IsBlob Kind.Header first no_map
  pub blobs : List (List ℕ)
  pub parts : List OsmMap
  pub blobs_are : Pairwise IsAnyBlob blobs parts
  pub text : file ≡ first ++ joined blobs
  pub all : m ≡ together parts

-- such a file is read as that map
abbrev pub FilesAreRead : Type 0
FilesAreRead = (file : List ℕ) (m : OsmMap) → IsFile file m → reads file ≡ Ok m
