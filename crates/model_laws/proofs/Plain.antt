-- Plain conditions are read.
use Rattle.std.proofs.Common.{◌≡◌, ◌≢◌, ◌∙◌, ℕ, zero, suc, ◌+◌, inl, inr, List, [], ◌∷◌, ◌++◌, Some, None, Ok, Bool, true, false, codes, refl, ap, sym, subst, arith}
use Rattle.std.specs.Str.{bytes_eq}
use Rattle.std.proofs.lemmas.Slice.Eq.{bytes_eq-Decides}
use Rattle.model_eval.specs.declared.conditions.NumberName.{NumberName}
use Rattle.model_eval.specs.declared.conditions.Op.{Op}
use Rattle.model_eval.specs.declared.conditions.Test.{Test}
use Rattle.model_eval.specs.declared.conditions.Test.TheVariants as t
use Rattle.model_eval.specs.declared.conditions.WordName.{WordName}
use Rattle.model_eval.specs.declared.conditions.WordName.TheVariants as word
use Rattle.model_eval.specs.declared.custom_model.Area.{Area}
use Rattle.model_texts.specs.Tokens.{spelling, next}
use Rattle.model_texts.specs.Words.{enum_of, number_of, op_of, equal_of, word_of, place_from}
use Rattle.model_texts.specs.Amounts.{constant_of}
use Rattle.model_texts.specs.Conditions.{alone, plain, is_word, comparison}
use Rattle.model_laws.specs.Conditions.{flags, operators}
use Rattle.model_laws.specs.Grammar.{numbers, enums, words_of, equals, IsFirst, IsFlag, IsInside, IsOneWord, IsComparison, IsPlain}
use Rattle.model_laws.proofs.Membership.{AllAre, of_all}
use Rattle.model_laws.proofs.Streams.{AreRead}
use Rattle.model_laws.proofs.Numerals.{constant_read}

module _ (areas : List Area) where
  -- one token that is a condition by itself
  alone_read : (i token : List ℕ) (x : Test) → spelling i ≡ token → alone areas token ≡ Some x → plain areas i ≡ Ok (x, next i)
  unfolding plain
  alone_read i token x e is = rw (e, is) refl

  flags_alone : AllAre (λ (f : List ℕ × Test). alone areas f.0 ≡ Some f.1) flags
  flags_alone = (refl, (refl, (refl, (refl, (refl, (refl, (refl, tt)))))))

  flag_read : (x : Test) (tokens : List (List ℕ)) (i rest : List ℕ) → IsFlag x tokens → AreRead tokens i rest → plain areas i ≡ Ok (x, rest)
  flag_read x tokens i rest (name, e, c) h =
      let r : AreRead (name ∷ []) i rest = subst (λ (ts : List (List ℕ)). AreRead ts i rest) e h in
      rw (sym r.1.1) (alone_read i name x r.0 (of_all (λ (f : List ℕ × Test). alone areas f.0 ≡ Some f.1) flags (name, x) flags_alone c))

  -- the place of an area
  place_of : (all : List Area) (n place : ℕ) (id : List ℕ) → IsFirst all place id → place_from n all id ≡ Some (n + place)
  place_of [] n place id h = absurd h
  place_of (a ∷ all) n zero id h = let same : bytes_eq a.id id ≡ true = (bytes_eq-Decides a.id id).1 h in rw same (ap Some (omega arith))
  place_of (a ∷ all) n (suc place) id h =
      let other : bytes_eq a.id id ≡ false = differs (bytes_eq a.id id) (bytes_eq-Decides a.id id).0 h.0 in
      rw other (place_of all (n + 1) place id h.1 ∙ ap Some (omega arith))
    where
      differs : (b : Bool) → (b ≡ true → a.id ≡ id) → (a.id ≢ id) → b ≡ false
      differs true f no_ = absurd (no_ (f refl))
      differs false f no_ = refl

  inside_alone : (place : ℕ) (id : List ℕ) → IsFirst areas place id → alone areas (codes "in_" ++ id) ≡ Some (t.InArea place)
  inside_alone place id h = rw (place_of areas 0 place id h) (ap (λ (k : ℕ). Some (t.InArea k)) (omega arith))

  inside_read : (x : Test) (tokens : List (List ℕ)) (i rest : List ℕ) → IsInside areas x tokens → AreRead tokens i rest → plain areas i ≡ Ok (x, rest)
  inside_read x tokens i rest p h =
      let r : AreRead ((codes "in_" ++ p.id) ∷ []) i rest = subst (λ (ts : List (List ℕ)). AreRead ts i rest) p.tokens_are h in
      let e = p.test in
      rw (sym r.1.1, e) (alone_read i (codes "in_" ++ p.id) (t.InArea p.place) r.0 (inside_alone p.place p.id p.first))

  -- an enum and its word
  enums_known : AllAre (λ (e : List ℕ × WordName). (alone areas e.0 ≡ None) × (enum_of e.0 ≡ Some e.1)) enums
  enums_known = ((refl, refl), ((refl, refl), ((refl, refl), tt)))

  equals_known : AllAre (λ (e : List ℕ × Bool). equal_of e.0 ≡ Some e.1) equals
  equals_known = (refl, (refl, tt))

  abbrev AreWords : WordName → Type 0
  AreWords name = AllAre (λ (w : List ℕ × ℕ). word_of name w.0 ≡ Some w.1) (words_of name)

  words_known : (name : WordName) → AreWords name
  words_known word.RoadClass = (refl, (refl, (refl, (refl, (refl, (refl, (refl, (refl, (refl, (refl, (refl, (refl, (refl, (refl, (refl, (refl, tt))))))))))))))))
  words_known word.Surface = (refl, (refl, (refl, (refl, (refl, (refl, (refl, (refl, (refl, (refl, (refl, (refl, (refl, (refl, tt))))))))))))))
  words_known word.Toll = (refl, (refl, (refl, tt)))

  word_by : (i a b c : List ℕ) (name : WordName) (equal : Bool) (place : ℕ) → spelling i ≡ a → spelling (next i) ≡ b → spelling (next (next i)) ≡ c →
      alone areas a ≡ None → enum_of a ≡ Some name → equal_of b ≡ Some equal → word_of name c ≡ Some place → plain areas i ≡ Ok (t.Word name equal place, next (next (next i)))
  unfolding plain is_word
  word_by i a b c name equal place ea eb ec none e f g = rw (ea, none, e, eb, f, ec, g) refl

  word_read : (x : Test) (tokens : List (List ℕ)) (i rest : List ℕ) → IsOneWord x tokens → AreRead tokens i rest → plain areas i ≡ Ok (x, rest)
  word_read x tokens i rest p h =
      let r : AreRead (p.enum.0 ∷ p.equal.0 ∷ p.written.0 ∷ []) i rest = subst (λ (ts : List (List ℕ)). AreRead ts i rest) p.tokens_are h in
      let known = of_all (λ (e : List ℕ × WordName). (alone areas e.0 ≡ None) × (enum_of e.0 ≡ Some e.1)) enums p.enum enums_known p.is_enum in
      let equal = of_all (λ (e : List ℕ × Bool). equal_of e.0 ≡ Some e.1) equals p.equal equals_known p.is_equal in
      let place = of_all (λ (w : List ℕ × ℕ). word_of p.enum.1 w.0 ≡ Some w.1) (words_of p.enum.1) p.written (words_known p.enum.1) p.is_word in
      let e = p.test in
      rw (sym r.1.1.1.1.1.1, e) (word_by i p.enum.0 p.equal.0 p.written.0 p.enum.1 p.equal.1 p.written.1 r.0 r.1.1.0 r.1.1.1.1.0 known.0 known.1 equal place)

  -- a number and what it is compared with
  numbers_known : AllAre (λ (e : List ℕ × NumberName). (alone areas e.0 ≡ None) × ((enum_of e.0 ≡ None) × (number_of e.0 ≡ Some e.1))) numbers
  numbers_known = ((refl, (refl, refl)), ((refl, (refl, refl)), ((refl, (refl, refl)), ((refl, (refl, refl)), ((refl, (refl, refl)), tt)))))

  operators_known : AllAre (λ (e : List ℕ × Op). op_of e.0 ≡ Some e.1) operators
  operators_known = (refl, (refl, (refl, (refl, (refl, (refl, tt))))))

  comparison_by : (i a b c : List ℕ) (name : NumberName) (op : Op) (value : ℕ) → spelling i ≡ a → spelling (next i) ≡ b → spelling (next (next i)) ≡ c →
      alone areas a ≡ None → enum_of a ≡ None → number_of a ≡ Some name → op_of b ≡ Some op → constant_of c ≡ Some value → plain areas i ≡ Ok (t.Compare name op value, next (next (next i)))
  unfolding plain comparison
  comparison_by i a b c name op value ea eb ec none none_too e f g = rw (ea, none, none_too, e, eb, f, ec, g) refl

  comparison_read : (x : Test) (tokens : List (List ℕ)) (i rest : List ℕ) → IsComparison x tokens → AreRead tokens i rest → plain areas i ≡ Ok (x, rest)
  comparison_read x tokens i rest p h =
      let r : AreRead (p.number.0 ∷ p.operator.0 ∷ p.constant ∷ []) i rest = subst (λ (ts : List (List ℕ)). AreRead ts i rest) p.tokens_are h in
      let known = of_all (λ (e : List ℕ × NumberName). (alone areas e.0 ≡ None) × ((enum_of e.0 ≡ None) × (number_of e.0 ≡ Some e.1))) numbers p.number numbers_known p.is_number in
      let op = of_all (λ (e : List ℕ × Op). op_of e.0 ≡ Some e.1) operators p.operator operators_known p.is_operator in
      let e = p.test in
      rw (sym r.1.1.1.1.1.1, e) (comparison_by i p.number.0 p.operator.0 p.constant p.number.1 p.operator.1 p.value r.0 r.1.1.0 r.1.1.1.1.0 known.0 known.1.0 known.1.1 op (constant_read p.value p.constant p.is_constant))

  pub plain_read : (x : Test) (tokens : List (List ℕ)) (i rest : List ℕ) → IsPlain areas x tokens → AreRead tokens i rest → plain areas i ≡ Ok (x, rest)
  plain_read x tokens i rest (inl p) h = flag_read x tokens i rest p h
  plain_read x tokens i rest (inr (inl p)) h = inside_read x tokens i rest p h
  plain_read x tokens i rest (inr (inr (inl p))) h = word_read x tokens i rest p h
  plain_read x tokens i rest (inr (inr (inr p))) h = comparison_read x tokens i rest p h
