-- A text that is spelled of tokens is read as them.
use Rattle.std.proofs.Common.{◌≡◌, ◌∙◌, ℕ, zero, suc, ◌<◌, inl, inr, List, [], ◌∷◌, ◌++◌, length, Bool, true, false, eqb, refl, ap, sym, subst, arith, append-nil}
use Rattle.std.specs.Prelude.{replicate}
use Rattle.std.specs.List.{prefix_len}
use Rattle.std.proofs.Math.Seq.{take-append_seam, drop-append_seam}
use Rattle.std.proofs.lemmas.Bool.Decides.{nat_tests}
use Rattle.model_texts.specs.Tokens.{begins_word, in_word, in_number, is_pair, token_len, after_space, spelling, next, ahead}
use Rattle.model_laws.specs.Spelling.{is_letter, is_digit, AllPass, Ends, IsWord, IsNumber, pairs, singles, before_equals, IsToken, IsSpelled}
use Rattle.model_laws.proofs.Membership.{AllAre, of_all}
use Rattle.model_laws.proofs.Streams.{AreRead}

-- a run is cut where it ends
run_cut : (passes : ℕ → Bool) (u rest : List ℕ) → AllPass passes u → Ends passes rest → prefix_len passes (u ++ rest) ≡ length u
run_cut passes [] [] h e = refl
run_cut passes [] (b ∷ rest) h e = rw e refl
run_cut passes (b ∷ u) rest h e = rw (h.0, run_cut passes u rest h.1 e) (omega arith)

-- what a token is to the cut: it has a byte, which is no space, and it is cut at its end
record Cut (token rest : List ℕ) : Type 0 where
  some : 0 < length token
  tight : after_space (token ++ rest) ≡ token ++ rest
  len : token_len (token ++ rest) ≡ length token

word_cut : (token rest : List ℕ) → IsWord token rest → Cut token rest
word_cut [] rest h = absurd h
word_cut (b ∷ bytes) rest h =
    let begins : is_letter b ≡ true = h.0 in
    let other : eqb b 32 ≡ false = grind (arith, nat_tests) in
    record { some = omega arith; tight = rw other refl; len = rw begins (omega (arith, run_cut in_word bytes rest h.1.0 h.1.1)) }

number_cut : (token rest : List ℕ) → IsNumber token rest → Cut token rest
number_cut [] rest h = absurd h
number_cut (b ∷ bytes) rest h =
    let digit : is_digit b ≡ true = h.0 in
    let other : eqb b 32 ≡ false = grind (arith, nat_tests) in
    let no_letter : begins_word b ≡ false = grind (arith, nat_tests) in
    let numeric : in_number b ≡ true = rw digit refl in
    record { some = omega arith; tight = rw other refl; len = rw (no_letter, numeric) (omega (arith, run_cut in_number bytes rest h.1.0 h.1.1)) }

pairs_cut : (rest : List ℕ) → AllAre (λ (t : List ℕ). Cut t rest) pairs
pairs_cut rest = (
  record { some = omega arith; tight = refl; len = refl },
  (
    record { some = omega arith; tight = refl; len = refl },
    (
      record { some = omega arith; tight = refl; len = refl },
      (
        record { some = omega arith; tight = refl; len = refl },
        (
          record { some = omega arith; tight = refl; len = refl },
          (record { some = omega arith; tight = refl; len = refl }, tt),
        ),
      ),
    ),
  ),
)

singles_cut : (rest : List ℕ) → AllAre (λ (t : List ℕ). Cut t rest) singles
singles_cut [] = (
  record { some = omega arith; tight = refl; len = refl },
  (
    record { some = omega arith; tight = refl; len = refl },
    (record { some = omega arith; tight = refl; len = refl }, tt),
  ),
)
singles_cut (b ∷ rest) = (
  record { some = omega arith; tight = refl; len = refl },
  (
    record { some = omega arith; tight = refl; len = refl },
    (record { some = omega arith; tight = refl; len = refl }, tt),
  ),
)

before_cut : (rest : List ℕ) → Ends (λ c. eqb c 61) rest → AllAre (λ (t : List ℕ). Cut t rest) before_equals
before_cut [] e = (
  record { some = omega arith; tight = refl; len = refl },
  (
    record { some = omega arith; tight = refl; len = refl },
    (record { some = omega arith; tight = refl; len = refl }, tt),
  ),
)
before_cut (b ∷ rest) e =
    let one : is_pair 60 b ≡ false = rw e refl in
    let two : is_pair 62 b ≡ false = rw e refl in
    let three : is_pair 33 b ≡ false = rw e refl in (
      record { some = omega arith; tight = refl; len = rw one refl },
      (
        record { some = omega arith; tight = refl; len = rw two refl },
        (record { some = omega arith; tight = refl; len = rw three refl }, tt),
      ),
    )

token_cut : (token rest : List ℕ) → IsToken token rest → Cut token rest
token_cut token rest (inl h) = word_cut token rest h
token_cut token rest (inr (inl h)) = number_cut token rest h
token_cut token rest (inr (inr (inl (inl h)))) = of_all (λ (t : List ℕ). Cut t rest) pairs token (pairs_cut rest) h
token_cut token rest (inr (inr (inl (inr h)))) = of_all (λ (t : List ℕ). Cut t rest) singles token (singles_cut rest) h
token_cut token rest (inr (inr (inr h))) = of_all (λ (t : List ℕ). Cut t rest) before_equals token (before_cut rest h.1) h.0

spaces_passed : (n : ℕ) (i : List ℕ) → after_space (replicate n 32 ++ i) ≡ after_space i
spaces_passed zero i = refl
spaces_passed (suc n) i = spaces_passed n i

spelled_next : (n : ℕ) (token rest : List ℕ) → Cut token rest → (spelling (replicate n 32 ++ (token ++ rest)) ≡ token) × (next (replicate n 32 ++ (token ++ rest)) ≡ rest)
unfolding spelling next
spelled_next n token rest c =
    let t = c.tight in
    let l = c.len in
    rw (spaces_passed n (token ++ rest), t, l) (take-append_seam token rest, drop-append_seam token rest)

-- only spaces are left
pub record Spaces (i : List ℕ) : Type 0 where
  pub count : ℕ
  pub are : i ≡ replicate count 32

pub nothing_ahead : (i : List ℕ) → Spaces i → (ahead i ≡ 0) × (spelling i ≡ [])
unfolding ahead spelling
nothing_ahead i s =
    let e = s.are in
    let none : after_space (replicate s.count 32) ≡ [] = ap after_space (sym (append-nil (replicate s.count 32))) ∙ spaces_passed s.count [] in
    rw (e, none) (refl, refl)

pub record Spelled (tokens : List (List ℕ)) (text : List ℕ) : Type 0 where
  pub rest : List ℕ
  pub read : AreRead tokens text rest
  pub end : Spaces rest

pub spelled_read : (tokens : List (List ℕ)) (text : List ℕ) → IsSpelled tokens text → Spelled tokens text
spelled_read [] text h = record { rest = text; read = refl; end = record { count = h.0; are = h.1 } }
spelled_read (token ∷ tokens) text (n, rest, e, both) =
    let c = token_cut token rest both.0 in
    let cut = spelled_next n token rest c in
    let later = spelled_read tokens rest both.1 in
    let first : spelling text ≡ token = ap spelling e ∙ cut.0 in
    let left : next text ≡ rest = ap next e ∙ cut.1 in
    record { rest = later.rest; read = (first, (c.some, subst (λ (i : List ℕ). AreRead tokens i later.rest) (sym left) later.read)); end = later.end }
