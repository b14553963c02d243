-- Objects written piece by piece.
use Rattle.std.proofs.Common.{◌≡◌, ◌∙◌, ℕ, List, [], ◌∷◌, ◌++◌, codes, ap, sym, append-nil, append_assoc}
use Rattle.std.specs.List.{join_with_byte}
use Rattle.plain_map.specs.Printing.{listed}
use Rattle.road_lines.specs.Features.{object, array}
use Rattle.road_lines.proofs.Joins.{behind_commas}

-- an array of two, behind a text
pub array_pieces : (out before u v a b c d : List ℕ)
    → a ≡ out ++ before → b ≡ a ++ 91 ∷ u → c ≡ b ++ 44 ∷ v → d ≡ c ++ 93 ∷ []
    → d ≡ out ++ (before ++ array (u ∷ v ∷ []))
array_pieces out before u v a b c d ea eb ec ed = rw (ed, ec, eb, ea) (simp append_assoc)

-- parts behind what stands, one after another
abbrev followed : List ℕ → List (List ℕ) → List ℕ
followed text [] = text
followed text (x ∷ xs) = followed (text ++ 44 ∷ x) xs

followed_is : (xs : List (List ℕ)) (text : List ℕ) → followed text xs ≡ text ++ listed (codes ",") xs
followed_is [] text = sym (append-nil text)
followed_is (x ∷ xs) text = followed_is xs (text ++ 44 ∷ x) ∙ append_assoc text (44 ∷ x) (listed (codes ",") xs)

-- with a brace in front and one behind they are an object
object_written : (out m : List ℕ) (xs : List (List ℕ)) → followed (out ++ 123 ∷ m) xs ++ 125 ∷ [] ≡ out ++ object (m ∷ xs)
object_written out m xs =
    let open_object : followed (out ++ 123 ∷ m) xs ≡ out ++ (123 ∷ join_with_byte 44 (m ∷ xs)) =
    followed_is xs (out ++ 123 ∷ m) ∙ append_assoc out (123 ∷ m) (listed (codes ",") xs) ∙ ap (λ l. out ++ (123 ∷ l)) (behind_commas m xs) in
    ap (λ l. l ++ 125 ∷ []) open_object ∙ append_assoc out (123 ∷ join_with_byte 44 (m ∷ xs)) (125 ∷ [])

-- an object of seven members
pub seven_members : (out m n o p q r s a b c d e f g h : List ℕ)
    → a ≡ out ++ 123 ∷ m → b ≡ a ++ 44 ∷ n → c ≡ b ++ 44 ∷ o → d ≡ c ++ 44 ∷ p → e ≡ d ++ 44 ∷ q → f ≡ e ++ 44 ∷ r → g ≡ f ++ 44 ∷ s
    → h ≡ g ++ 125 ∷ []
    → h ≡ out ++ object (m ∷ n ∷ o ∷ p ∷ q ∷ r ∷ s ∷ [])
seven_members out m n o p q r s a b c d e f g h ea eb ec ed ee ef eg eh = rw (eh, eg, ef, ee, ed, ec, eb, ea) (object_written out m (n ∷ o ∷ p ∷ q ∷ r ∷ s ∷ []))

-- one of two, where the value of the second is a piece of its own
pub two_members : (out m name value a b c : List ℕ)
    → a ≡ out ++ (123 ∷ m ++ 44 ∷ name) → b ≡ a ++ value → c ≡ b ++ 125 ∷ []
    → c ≡ out ++ object (m ∷ (name ++ value) ∷ [])
two_members out m name value a b c ea eb ec = rw (ec, eb, ea) (simp append_assoc)

regrouped : (x y z w : List ℕ) → (x ++ (y ++ z)) ++ w ≡ (x ++ y) ++ (z ++ w)
regrouped x y z w = append_assoc x (y ++ z) w ∙ ap (λ l. x ++ l) (append_assoc y z w) ∙ sym (append_assoc x y (z ++ w))

-- one of three alike, and a newline
pub three_members : (out m name value other more a b c d e : List ℕ)
    → a ≡ out ++ (123 ∷ m ++ 44 ∷ name) → b ≡ a ++ value → c ≡ b ++ 44 ∷ other → d ≡ c ++ more → e ≡ d ++ 125 ∷ 10 ∷ []
    → e ≡ out ++ (object (m ∷ (name ++ value) ∷ (other ++ more) ∷ []) ++ 10 ∷ [])
three_members out m name value other more a b c d e ea eb ec ed ee =
    let two : b ≡ (out ++ 123 ∷ m) ++ 44 ∷ (name ++ value) = rw (eb, ea) (regrouped out (123 ∷ m) (44 ∷ name) value) in
    let three : d ≡ ((out ++ 123 ∷ m) ++ 44 ∷ (name ++ value)) ++ 44 ∷ (other ++ more) =
    rw (ed, ec, two) (append_assoc ((out ++ 123 ∷ m) ++ 44 ∷ (name ++ value)) (44 ∷ other) more) in
    let whole : d ++ 125 ∷ [] ≡ out ++ object (m ∷ (name ++ value) ∷ (other ++ more) ∷ []) =
    rw three (object_written out m ((name ++ value) ∷ (other ++ more) ∷ [])) in
    ee ∙ sym (append_assoc d (125 ∷ []) (10 ∷ [])) ∙ ap (λ l. l ++ 10 ∷ []) whole ∙ append_assoc out (object (m ∷ (name ++ value) ∷ (other ++ more) ∷ [])) (10 ∷ [])
