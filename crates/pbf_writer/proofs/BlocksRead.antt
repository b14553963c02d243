-- Blocks that are written are read again.
use Rattle.std.proofs.lemmas.Bool.{eq-eqb}
use Rattle.std.proofs.lemmas.Str.{utf8_valid_len-IsUtf8}
use Rattle.std.proofs.Common.{◌≡◌, ◌∙◌, ℕ, ◌+◌, ◌^◌, ◌<◌, List, [], ◌∷◌, ◌++◌, length, map, take, drop, All, IsUtf8, Some, None, Ok, true, refl, arith, append-nil}
use Rattle.std.specs.List.{AllByRecursion}
use Rattle.std.specs.Str.Lossy.{utf8_valid_len}
use Rattle.gh_base.specs.declared.map.OsmNode.{OsmNode}
use Rattle.gh_base.specs.declared.map.OsmWay.{OsmWay}
use Rattle.gh_base.specs.declared.map.OsmMap.{OsmMap}
use Rattle.gh_base.specs.Maps.{IsFileNode}
use Rattle.pbf_wire.specs.declared.fields.Piece.{Piece}
use Rattle.pbf_wire.specs.declared.messages.Message.{Message}
use Rattle.pbf_wire.specs.declared.messages.Message.TheVariants as message
use Rattle.pbf_wire.specs.Put.{bytes_field}
use Rattle.pbf_wire.specs.Pieces.{pieces_of}
use Rattle.pbf_wire.specs.Groups.{group_of, group_with, message_in, message_with}
use Rattle.pbf_wire.specs.Blocks.{block_of, block_with, texts_in, text_in}
use Rattle.pbf_wire.specs.Parts.{Part, message_text}
use Rattle.pbf_wire.specs.Writing.{strings_text, block_text, dense_parts, nodes_block, ways_block, way_text, table_of}
use Rattle.pbf_writer.proofs.FieldsRead.{IsPart, lead, spots_of, message_read, behind, content_there}
use Rattle.pbf_writer.proofs.NodesRead.{plain_scale, dense_message, dense_again, dense_read}
use Rattle.pbf_writer.proofs.WaysRead.{IsReadable, messages_at, ways_read, ways_again}

text_there : (bytes : List ℕ) → IsUtf8 bytes → text_in bytes ≡ Some bytes
text_there bytes h = rw (eq-eqb (utf8_valid_len bytes) (length bytes) (utf8_valid_len-IsUtf8 bytes h)) refl

-- the strings of a table
texts_read : (words : List (List ℕ)) (pieces : List Piece) (at : ℕ) (bytes : List ℕ) → AllByRecursion IsUtf8 words → drop at bytes ≡ strings_text words → texts_in bytes pieces (spots_of at (map (λ word. Part.Bytes 1 word) words)) ≡ Ok words
texts_read [] pieces at bytes good e = refl
texts_read (word ∷ words) pieces at bytes good e =
    let here = content_there bytes word (strings_text words) 1 at e in
    let more = texts_read words pieces (at + length (bytes_field 1 word)) bytes good.1 (behind bytes (bytes_field 1 word) (strings_text words) at e) in
    rw (here, text_there word good.0, more) refl

-- a block of a table and a group
abbrev pub block_parts : List (List ℕ) → List Part → List Part
block_parts table group = Part.Bytes 1 (strings_text table) ∷ Part.Bytes 2 (message_text group) ∷ []

-- what fits of it
pub record FitBlock (table : List (List ℕ)) (parts : List Part) : Type 0 where
  pub fields : AllByRecursion IsPart (block_parts table parts)
  pub words : AllByRecursion IsPart (map (λ word. Part.Bytes 1 word) table)
  pub texts : AllByRecursion IsUtf8 table

-- a block whose group, wherever it stands, adds this to a map
block_read : (file : List ℕ) (m n : OsmMap) (piece : Piece) (table : List (List ℕ)) (parts : List Part) (messages : ℕ → List Message) → FitBlock table parts → drop piece.start (take piece.end file) ≡ block_text table parts →
    ((bytes : List ℕ) (at : ℕ) → drop at bytes ≡ message_text parts → group_of bytes at ≡ record { messages = messages at; bad = None }) →
    ((at : ℕ) → group_with table plain_scale m (record { messages = messages at; bad = None }) ≡ Ok n) → block_with file m piece ≡ Ok n
unfolding block_with block_of block_text
block_read file m n piece table parts messages fit e group adds =
    let bytes = take piece.end file in
    let strings = strings_text table in
    let first = bytes_field 1 strings in
    let tail = bytes_field 2 (message_text parts) ++ [] in
    let next = piece.start + length first in
    let run = message_read (block_parts table parts) (take piece.end file) piece.start fit.fields e in
    let joined = append-nil _ ∙ content_there (take piece.end file) strings tail 1 piece.start e in
    let words = message_read (map (λ word. Part.Bytes 1 word) table) strings 0 fit.words refl in
    let texts = texts_read table (record { start = piece.start + length (lead 1 strings); end = next } ∷ []) 0 strings fit.texts refl in
    let there = group (take (next + length (bytes_field 2 (message_text parts))) bytes) (next + length (lead 2 (message_text parts))) (content_there bytes (message_text parts) [] 2 next (behind bytes first tail piece.start e)) in
    rw (run, joined, words, there, texts, adds (next + length (lead 2 (message_text parts)))) refl

-- a block of nodes
nodes_group : (nodes : List OsmNode) → AllByRecursion IsPart (dense_parts nodes) → length (message_text (dense_parts nodes)) < 2 ^ 64 → (bytes : List ℕ) (at : ℕ) → drop at bytes ≡ message_text (Part.Bytes 2 (message_text (dense_parts nodes)) ∷ []) →
    group_of bytes at ≡ record { messages = message.Dense (dense_message (at + length (lead 2 (message_text (dense_parts nodes)))) nodes) ∷ []; bad = None }
unfolding group_of message_in
nodes_group nodes good small bytes at e =
    let content = message_text (dense_parts nodes) in
    let run = message_read (Part.Bytes 2 content ∷ []) bytes at ((omega arith, omega arith, small), tt) e in
    let dense = dense_read bytes (at + length (lead 2 content)) (at + length (bytes_field 2 content)) (at + length (lead 2 content)) nodes good (content_there bytes content [] 2 at e) in
    rw (run, dense) refl

nodes_added : (table : List (List ℕ)) (m : OsmMap) (nodes : List OsmNode) → All IsFileNode nodes → (place : ℕ) → group_with table plain_scale m (record { messages = message.Dense (dense_message place nodes) ∷ []; bad = None }) ≡ Ok (record { nodes = m.nodes ++ nodes; ways = m.ways })
unfolding group_with message_with
nodes_added table m nodes all place = rw (dense_again place nodes all) refl

pub nodes_block_read : (file : List ℕ) (m : OsmMap) (piece : Piece) (nodes : List OsmNode) → AllByRecursion IsPart (dense_parts nodes) → FitBlock ([] ∷ []) (Part.Bytes 2 (message_text (dense_parts nodes)) ∷ []) → All IsFileNode nodes → length (message_text (dense_parts nodes)) < 2 ^ 64 →
    drop piece.start (take piece.end file) ≡ nodes_block nodes → block_with file m piece ≡ Ok (record { nodes = m.nodes ++ nodes; ways = m.ways })
unfolding nodes_block
nodes_block_read file m piece nodes parts fit all small e =
    let content = message_text (dense_parts nodes) in
    block_read file m _ piece ([] ∷ []) (Part.Bytes 2 content ∷ []) (λ at. message.Dense (dense_message (at + length (lead 2 content)) nodes) ∷ []) fit e (nodes_group nodes parts small) (λ at. nodes_added ([] ∷ []) m nodes all (at + length (lead 2 content)))

-- a block of ways
ways_group : (table : List (List ℕ)) (ways : List OsmWay) → AllByRecursion (IsReadable table) ways → AllByRecursion IsPart (map (λ way. Part.Bytes 3 (way_text table way)) ways) → (bytes : List ℕ) (at : ℕ) → drop at bytes ≡ message_text (map (λ way. Part.Bytes 3 (way_text table way)) ways) →
    group_of bytes at ≡ record { messages = messages_at at table ways; bad = None }
unfolding group_of
ways_group table ways good parts bytes at e =
    let run = message_read (map (λ way. Part.Bytes 3 (way_text table way)) ways) bytes at parts e in
    let all = ways_read ways table (pieces_of 2 (spots_of at (map (λ way. Part.Bytes 3 (way_text table way)) ways))) true at bytes good e in
    rw (run, all) refl

ways_added : (table : List (List ℕ)) (m : OsmMap) (ways : List OsmWay) → length table < 2 ^ 32 → AllByRecursion (IsReadable table) ways → (at : ℕ) → group_with table plain_scale m (record { messages = messages_at at table ways; bad = None }) ≡ Ok (record { nodes = m.nodes; ways = m.ways ++ ways })
unfolding group_with
ways_added table m ways few good at = rw (ways_again ways table plain_scale (record { map = m; dense = [] }) at few good, append-nil m.nodes) refl

pub ways_block_read : (file : List ℕ) (m : OsmMap) (piece : Piece) (ways : List OsmWay) → length (table_of ways) < 2 ^ 32 → AllByRecursion (IsReadable (table_of ways)) ways → AllByRecursion IsPart (map (λ way. Part.Bytes 3 (way_text (table_of ways) way)) ways) → FitBlock (table_of ways) (map (λ way. Part.Bytes 3 (way_text (table_of ways) way)) ways) →
    drop piece.start (take piece.end file) ≡ ways_block ways → block_with file m piece ≡ Ok (record { nodes = m.nodes; ways = m.ways ++ ways })
unfolding ways_block
ways_block_read file m piece ways few good parts fit e =
    block_read file m _ piece (table_of ways) (map (λ way. Part.Bytes 3 (way_text (table_of ways) way)) ways) (λ at. messages_at at (table_of ways) ways) fit e (ways_group (table_of ways) ways good parts) (ways_added (table_of ways) m ways few good)
