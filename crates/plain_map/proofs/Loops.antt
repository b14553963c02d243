-- What a loop has read, before what is left.
use Rattle.std.proofs.Common.{◌≡◌, List, [], ◌∷◌, ◌++◌, Result, Ok, Err, refl, ap, append_assoc}
use Rattle.std.proofs.Common.{ℕ, encode_utf8}
use Rattle.plain_map.specs.Escapes.{◌>>=◌, unescaped, scalar_at}

abbrev pub with_front : {A K : Type 0} → List A → Result (List A) K → Result (List A) K
with_front front (Ok rest) = Ok (front ++ rest)
with_front front (Err k) = Err k

-- one more item
pub front_more : {A K : Type 0} (front : List A) (x : A) (read : Result (List A) K) → with_front (front ++ x ∷ []) read ≡ with_front front (read >>= λ rest. Ok (x ∷ rest))
front_more front x (Ok rest) = ap Ok (append_assoc front (x ∷ []) rest)
front_more front x (Err k) = refl

-- two more pieces
pub front_pieces : {A K : Type 0} (front a b : List A) (read : Result (List A) K) → with_front ((front ++ a) ++ b) read ≡ with_front front (read >>= λ rest. Ok (a ++ (b ++ rest)))
front_pieces front a b (Ok rest) = rw (append_assoc (front ++ a) b rest, append_assoc front a (b ++ rest)) refl
front_pieces front a b (Err k) = refl

-- nothing before
pub front_nil : {A K : Type 0} (read : Result (List A) K) → with_front [] read ≡ read
front_nil (Ok rest) = refl
front_nil (Err k) = refl

-- a piece of text and a code
pub code_more : (out plain code : List ℕ) (c : ℕ) (more after parts : List (List ℕ)) → parts ≡ plain ∷ after → after ≡ code ∷ more → scalar_at code ≡ Ok c → with_front ((out ++ plain) ++ encode_utf8 c) (unescaped more) ≡ with_front out (unescaped parts)
code_more out plain code c more after parts p q s = rw (p, q, s) (front_pieces out plain (encode_utf8 c) (unescaped more))
