-- The words of a line may stand in any order, and skipped ones anywhere.
use Rattle.std.specs.Prelude.{◌≡◌, ℕ, List, [], ◌∷◌, ◌++◌, Ok, IsTrue}
use Rattle.plain_map.specs.declared.fields.NodeSoFar.{NodeSoFar}
use Rattle.plain_map.specs.declared.fields.WaySoFar.{WaySoFar}
use Rattle.plain_map.specs.Fields.{is_skipped}
use Rattle.plain_map.specs.Lines.{node_words, way_words}

-- what the words of a node say, they say with two neighbours in each other's place; swaps of neighbours make each order
abbrev pub NodeWordsMayBeSwapped : Type 0
NodeWordsMayBeSwapped = (s t : NodeSoFar) (byte : ℕ) (front : List (List ℕ)) (one two : List ℕ) (back : List (List ℕ)) →
    node_words s byte (front ++ one ∷ two ∷ back) ≡ Ok t → node_words s byte (front ++ two ∷ one ∷ back) ≡ Ok t

abbrev pub WayWordsMayBeSwapped : Type 0
WayWordsMayBeSwapped = (s t : WaySoFar) (byte : ℕ) (front : List (List ℕ)) (one two : List ℕ) (back : List (List ℕ)) →
    way_words s byte (front ++ one ∷ two ∷ back) ≡ Ok t → way_words s byte (front ++ two ∷ one ∷ back) ≡ Ok t

-- a word that is skipped may stand anywhere
pub record SkippedWordsSayNothing : Type 0 where
  pub of_nodes : (s t : NodeSoFar) (byte : ℕ) (front : List (List ℕ)) (word : List ℕ) (back : List (List ℕ)) → IsTrue (is_skipped word) →
      node_words s byte (front ++ back) ≡ Ok t → node_words s byte (front ++ word ∷ back) ≡ Ok t
  pub of_ways : (s t : WaySoFar) (byte : ℕ) (front : List (List ℕ)) (word : List ℕ) (back : List (List ℕ)) → IsTrue (is_skipped word) →
      way_words s byte (front ++ back) ≡ Ok t → way_words s byte (front ++ word ∷ back) ≡ Ok t
