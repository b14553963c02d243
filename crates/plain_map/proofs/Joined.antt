-- Pieces written one after another.
use Rattle.std.proofs.Common.{◌≡◌, ℕ, List, ◌++◌, append_assoc, Result, Ok, Err, OnOk}

pub two_pieces : (out a b x y : List ℕ) → a ≡ out ++ x → b ≡ a ++ y → b ≡ out ++ (x ++ y)
two_pieces out a b x y e f = rw (f, e) (append_assoc out x y)

pub three_pieces : (out a b c x y z : List ℕ) → a ≡ out ++ x → b ≡ a ++ y → c ≡ b ++ z → c ≡ out ++ (x ++ (y ++ z))
three_pieces out a b c x y z e f g = two_pieces out a c x (y ++ z) e (two_pieces a b c y z f g)

pub four_pieces : (out a b c d w x y z : List ℕ) → a ≡ out ++ w → b ≡ a ++ x → c ≡ b ++ y → d ≡ c ++ z → d ≡ out ++ (w ++ (x ++ (y ++ z)))
four_pieces out a b c d w x y z e f g h = two_pieces out a d w (x ++ (y ++ z)) e (three_pieces a b c d x y z f g h)

pub on_ok : {T E P Q : Type 0} (r : Result T E) → (P → Q) → OnOk r P → OnOk r Q
on_ok (Ok x) f p = f p
on_ok (Err e) f p = tt
