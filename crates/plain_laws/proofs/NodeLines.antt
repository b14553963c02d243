-- A node's line.
use Rattle.std.proofs.Common.{◌≡◌, ◌≢◌, ◌∙◌, ℕ, ℤ, ◌<◌, ◌≤◌, List, [], ◌∷◌, ◌++◌, length, true, eqb, leb, nat_abs, Some, Ok, IsUtf8, refl, ap, arith}
use Rattle.std.specs.Str.Lossy.{utf8_valid_len}
use Rattle.std.proofs.lemmas.Bool.{ne_eqb, eq-eqb}
use Rattle.std.proofs.lemmas.Bool.Decides.{nat_tests}
use Rattle.std.proofs.lemmas.Str.{IsUtf8-append, utf8_valid_len-IsUtf8}
use Rattle.gh_base.specs.Decimals.{decimal_of, id_of}
use Rattle.gh_base.specs.Parts.{parts_of}
use Rattle.plain_map.specs.declared.line.Item.TheVariants.{Node}
use Rattle.plain_map.specs.Fields.{coordinate_at, node_with}
use Rattle.plain_map.specs.Lines.{node_line, line_at}
use Rattle.plain_map.proofs.Splits.{Without, cut_at, cut_end}
use Rattle.plain_map.proofs.PrintedBytes.{utf8_ascii}
use Rattle.plain_laws.specs.Coordinates.{IsWord, Says, NodesAreWhereTheySay}

whole : (word : List ℕ) → IsWord word → Without 32 word
whole [] h = tt
whole (b ∷ word) h = (ne_eqb b 32 h.0, whole word h.1)

coordinate : (most : ℕ) (word : List ℕ) (z : ℤ) → Says most word z → coordinate_at most word ≡ Ok z
unfolding coordinate_at
coordinate most word z h = let test : leb (nat_abs z) most ≡ true = let w = h.within in grind (arith, nat_tests) in rw (h.decimal, test) refl

three_parts : (a b c : ℕ) (one two three : List ℕ) → a ≢ 32 → b ≢ 32 → c ≢ 32 → IsWord one → IsWord two → IsWord three →
    parts_of 32 (a ∷ (one ++ (32 ∷ b ∷ (two ++ (32 ∷ c ∷ three))))) ≡ (a ∷ one) ∷ (b ∷ two) ∷ (c ∷ three) ∷ []
three_parts a b c one two three na nb nc h k l =
    cut_at 32 (a ∷ one) (b ∷ (two ++ (32 ∷ c ∷ three))) (ne_eqb a 32 na, whole one h)
    ∙ ap (λ (w : List (List ℕ)). (a ∷ one) ∷ w) (cut_at 32 (b ∷ two) (c ∷ three) (ne_eqb b 32 nb, whole two k) ∙ ap (λ (w : List (List ℕ)). (b ∷ two) ∷ w) (cut_end 32 (c ∷ three) (ne_eqb c 32 nc, whole three l)))

ascii : (a b : ℕ) (rest : List ℕ) → a < 128 → b < 128 → IsUtf8 rest → IsUtf8 (a ∷ b ∷ rest)
ascii a b rest h k u = IsUtf8-append (a ∷ b ∷ []) rest (utf8_ascii (a ∷ b ∷ []) (h, (k, tt))) u

three_utf8 : (a b c : ℕ) (one two three : List ℕ) → a < 128 → b < 128 → c < 128 → IsUtf8 one → IsUtf8 two → IsUtf8 three → IsUtf8 (a ∷ (one ++ (32 ∷ b ∷ (two ++ (32 ∷ c ∷ three)))))
three_utf8 a b c one two three na nb nc h k l =
    IsUtf8-append (a ∷ []) (one ++ (32 ∷ b ∷ (two ++ (32 ∷ c ∷ three)))) (utf8_ascii (a ∷ []) (na, tt))
    (IsUtf8-append one (32 ∷ b ∷ (two ++ (32 ∷ c ∷ three))) h (ascii 32 b (two ++ (32 ∷ c ∷ three)) (omega arith) nb (IsUtf8-append two (32 ∷ c ∷ three) k (ascii 32 c three (omega arith) nc l))))

valid : (line : List ℕ) → IsUtf8 line → eqb (utf8_valid_len line) (length line) ≡ true
valid line h = eq-eqb (utf8_valid_len line) (length line) (utf8_valid_len-IsUtf8 line h)

module _ (id lat lon : List ℕ) (i y x : ℤ) (is : id_of id ≡ Some i) (word : IsWord id) (utf8 : IsUtf8 id) (north : Says 900000000 lat y) (east : Says 1800000000 lon x) where
  lat_first : line_at (110 ∷ (id ++ (32 ∷ 121 ∷ (lat ++ (32 ∷ 120 ∷ lon))))) ≡ Ok (Some (Node (record { id = i; place = record { lat = y; lon = x } })))
  unfolding line_at node_line node_with
  lat_first = rw (valid (110 ∷ (id ++ (32 ∷ 121 ∷ (lat ++ (32 ∷ 120 ∷ lon))))) (three_utf8 110 121 120 id lat lon (omega arith) (omega arith) (omega arith) utf8 north.utf8 east.utf8), three_parts 110 121 120 id lat lon (omega arith) (omega arith) (omega arith) word north.word_is east.word_is, is, coordinate 900000000 lat y north, coordinate 1800000000 lon x east) refl

  lon_first : line_at (110 ∷ (id ++ (32 ∷ 120 ∷ (lon ++ (32 ∷ 121 ∷ lat))))) ≡ Ok (Some (Node (record { id = i; place = record { lat = y; lon = x } })))
  unfolding line_at node_line node_with
  lon_first = rw (valid (110 ∷ (id ++ (32 ∷ 120 ∷ (lon ++ (32 ∷ 121 ∷ lat))))) (three_utf8 110 120 121 id lon lat (omega arith) (omega arith) (omega arith) utf8 east.utf8 north.utf8), three_parts 110 120 121 id lon lat (omega arith) (omega arith) (omega arith) word east.word_is north.word_is, is, coordinate 1800000000 lon x east, coordinate 900000000 lat y north) refl

pub where_they_say : NodesAreWhereTheySay
where_they_say = record {
  lat_first = λ id lat lon i y x is word utf8 north east. lat_first id lat lon i y x is word utf8 north east;
  lon_first = λ id lat lon i y x is word utf8 north east. lon_first id lat lon i y x is word utf8 north east;
}
