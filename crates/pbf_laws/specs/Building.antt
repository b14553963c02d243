-- Short PBF files, put together by hand: each length stands in one byte.
use Rattle.std.specs.Prelude.{ℕ, ◌+◌, ◌*◌, List, [], ◌∷◌, ◌++◌, length, codes}

-- a field of bytes with a number below 16
abbrev pub bytes : ℕ → List ℕ → List ℕ
bytes number content = (8 * number + 2) ∷ length content ∷ content

-- a field of a varint with a number below 16
abbrev pub number : ℕ → List ℕ → List ℕ
number n varint = (8 * n) ∷ varint

-- four bytes of length, a BlobHeader with type and datasize, and a Blob
abbrev pub entry : List ℕ → List ℕ → List ℕ
entry name blob =
    let header = bytes 1 name ++ number 3 (length blob ∷ []) in
    (0 ∷ 0 ∷ 0 ∷ length header ∷ []) ++ (header ++ blob)

-- with raw content
abbrev pub raw : List ℕ → List ℕ → List ℕ
raw name content = entry name (bytes 1 content)

-- 47 bytes
abbrev pub features : List ℕ
features = raw (codes "OSMHeader") (bytes 4 (codes "OsmSchema-V0.6") ++ bytes 4 (codes "DenseNodes"))

-- a file of one block, whose content begins at byte 64
abbrev pub file : List ℕ → List ℕ
file block = features ++ raw (codes "OSMData") block
