-- Fields that are put one behind another.
use Rattle.std.proofs.Common.{◌≡◌, ◌∙◌, ℕ, ℤ, pos, List, [], ◌++◌, ap, append_assoc, append-nil, refl}
use Rattle.pbf_wire.specs.Put.{bytes_field}
use Rattle.pbf_wire.specs.Parts.{Part, part_text, deltas}

pub two_puts : (zero one two a b : List ℕ) → zero ≡ [] → one ≡ zero ++ a → two ≡ one ++ b → two ≡ a ++ (b ++ [])
two_puts zero one two a b e f g = rw (g, f, e, append-nil b) refl

pub three_puts : (zero one two three a b d : List ℕ) → zero ≡ [] → one ≡ zero ++ a → two ≡ one ++ b → three ≡ two ++ d → three ≡ a ++ (b ++ (d ++ []))
three_puts zero one two three a b d e f g h = rw (h, g, f, e, append-nil d) (append_assoc a b d)

pub four_puts : (zero one two three four a b d f : List ℕ) → zero ≡ [] → one ≡ zero ++ a → two ≡ one ++ b → three ≡ two ++ d → four ≡ three ++ f → four ≡ a ++ (b ++ (d ++ (f ++ [])))
four_puts zero one two three four a b d f e p q r s = rw (s, r, q, p, e, append-nil f) (append_assoc (a ++ b) d f ∙ append_assoc a b (d ++ f))

-- what is put is known by other words
pub number_put : (old new : List ℕ) (number value v : ℕ) → value ≡ v → new ≡ old ++ part_text (Part.Number number value) → new ≡ old ++ part_text (Part.Number number v)
number_put old new number value v e put = put ∙ ap (λ n. old ++ part_text (Part.Number number n)) e

pub packed_put : (old new : List ℕ) (number : ℕ) (values list : List ℕ) → values ≡ list → new ≡ old ++ part_text (Part.Packed number values) → new ≡ old ++ part_text (Part.Packed number list)
packed_put old new number values list e put = put ∙ ap (λ l. old ++ part_text (Part.Packed number l)) e

pub deltas_put : (old new : List ℕ) (number : ℕ) (values list : List ℤ) → values ≡ list → new ≡ old ++ part_text (Part.Packed number (deltas (pos 0) values)) → new ≡ old ++ part_text (Part.Packed number (deltas (pos 0) list))
deltas_put old new number values list e put = put ∙ ap (λ l. old ++ part_text (Part.Packed number (deltas (pos 0) l))) e

pub two_fields : (zero one two a b x y : List ℕ) → zero ≡ [] → x ≡ a → y ≡ b → one ≡ zero ++ bytes_field 1 x → two ≡ one ++ bytes_field 2 y → two ≡ bytes_field 1 a ++ bytes_field 2 b
two_fields zero one two a b x y e p q f g = rw (g, f, e, p, q) refl
