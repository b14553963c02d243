-- The last two of a list have what each of it has.
use Rattle.std.proofs.Common.{◌≡◌, ◌<◌, ◌++◌, ◌∙◌, ◌∷◌, ℕ, List, [], length, get_or, take, ap, sym, subst, arith, append_assoc}
use Rattle.std.proofs.lemmas.List.{length-append}
use Rattle.std.proofs.Math.Seq.{get_or-append_seam, take-append_seam}

-- of each place of a list
abbrev pub EachHas : {X Y : Type 0} → (X → Y) → Y → List X → Type 0
EachHas {X} f k xs = (i : ℕ) (d : X) → i < length xs → f (get_or xs i d) ≡ k

pub at_seam : {X Y : Type 0} (f : X → Y) (k : Y) (xs : List X) (x : X) (more : List X) → EachHas f k (xs ++ x ∷ more) → f x ≡ k
at_seam f k xs x more each =
    ap f (sym (get_or-append_seam xs x more x)) ∙ each (length xs) x (rw (length-append xs (x ∷ more)) (omega arith))

pub last_two : {X Y : Type 0} (f : X → Y) (k : Y) (ys rest front : List X) (two one : X) → EachHas f k ys → ys ≡ rest ++ two ∷ [] → rest ≡ front ++ one ∷ [] → f one ≡ f two
last_two f k ys rest front two one each ys_is rest_is =
    let second = at_seam f k rest two [] (subst (EachHas f k) ys_is each) in
    let whole : ys ≡ front ++ one ∷ two ∷ [] = ys_is ∙ ap (λ l. l ++ two ∷ []) rest_is ∙ append_assoc front (one ∷ []) (two ∷ []) in
    at_seam f k front one (two ∷ []) (subst (EachHas f k) whole each) ∙ sym second

-- the same, where the list is read out of a longer one
pub last_two_taken : {X Y : Type 0} (f : X → Y) (k : Y) (ys more rest front : List X) (count : ℕ) (two one : X) → EachHas f k ys → length ys ≡ count →
    take count (ys ++ more) ≡ rest ++ two ∷ [] → rest ≡ front ++ one ∷ [] → f one ≡ f two
last_two_taken f k ys more rest front count two one each long ys_is rest_is =
    let taken : ys ≡ take count (ys ++ more) = sym (take-append_seam ys more) ∙ ap (λ n. take n (ys ++ more)) long in
    last_two f k ys rest front two one each (taken ∙ ys_is) rest_is
