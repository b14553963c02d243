-- Statements in blocks, one after another.
use Rattle.std.proofs.Common.{◌≡◌, ◌≤◌, ℕ, ◌+◌, drop, Ok, Bool, true, false, List, [], ◌∷◌, ◌++◌, length, refl, sym, subst, rules}
use Rattle.std.proofs.lemmas.List.Elements.{All-append, All-nil}
use Rattle.std.specs.Prelude.{IsTrue, All, ◌&&◌, ◌||◌}
use Rattle.exact_json.specs.declared.value.Json.{Json}
use Rattle.model_eval.specs.declared.custom_model.Area.{Area}
use Rattle.model_eval.specs.declared.custom_model.Running.{Running}
use Rattle.model_eval.specs.declared.custom_model.Statement.{Statement}
use Rattle.model_eval.specs.Models.{goes_on, are_in_blocks, IsStatement, AreStatements}
use Rattle.model_eval.specs.Running.{begins}
use Rattle.model_parser.specs.Faults.{Outcome, ◌>>=◌}
use Rattle.model_parser.specs.Statements.{statements_from, statement_of}

-- whether a block may go on behind these
abbrev pub after : Bool → List Statement → Bool
after may [] = may
after may (s ∷ ss) = after (goes_on s.branch) ss

both : (a b : Bool) → IsTrue (a && b) → IsTrue a × IsTrue b
both true b h = (refl, h)
both false b h = cc

and_ : (a b : Bool) → IsTrue a → IsTrue b → IsTrue (a && b)
and_ true b h k = k
and_ false b h k = h

-- what stands behind statements goes on from the last of them
goes_on_after : (may : Bool) (ss : List Statement) (s : Statement) → after may (ss ++ s ∷ []) ≡ goes_on s.branch
goes_on_after may [] s = refl
goes_on_after may (x ∷ ss) s = goes_on_after (goes_on x.branch) ss s

one_more : (may : Bool) (ss : List Statement) (s : Statement) → IsTrue (are_in_blocks may ss) → IsTrue (begins s.branch || after may ss) → IsTrue (are_in_blocks may (ss ++ s ∷ []))
one_more may [] s h k = and_ (begins s.branch || may) true k refl
one_more may (x ∷ ss) s h k =
    let p = both (begins x.branch || may) (are_in_blocks (goes_on x.branch) ss) h in
    and_ (begins x.branch || may) (are_in_blocks (goes_on x.branch) (ss ++ s ∷ [])) p.0 (one_more (goes_on x.branch) ss s p.1 k)

-- statements of a model of so many areas, and whether a block may go on behind them
pub record AreSound (areas : ℕ) (may : Bool) (ss : List Statement) : Type 0 where
  pub in_blocks : IsTrue (are_in_blocks false ss)
  pub goes : may ≡ after false ss
  pub each : All (IsStatement areas) ss

pub none_sound : (areas : ℕ) → AreSound areas false []
none_sound areas = record { in_blocks = refl; goes = refl; each = All-nil (IsStatement areas) }

pub one_sound : (areas : ℕ) (may more : Bool) (ss longer : List Statement) (s : Statement) → AreSound areas may ss → IsStatement areas s → IsTrue (begins s.branch || may) → more ≡ goes_on s.branch → longer ≡ ss ++ s ∷ [] → AreSound areas more longer
one_sound areas may more ss longer s h one k e f =
    let P : Bool → Type 0 = λ b. IsTrue (begins s.branch || b) in
    let one_each : All (IsStatement areas) (s ∷ []) = search (rules, one) in
    rw (e, f) (record {
      in_blocks = one_more false ss s h.in_blocks (subst P h.goes k);
      goes = sym (goes_on_after false ss s);
      each = All-append (IsStatement areas) ss (s ∷ []) h.each one_each;
    })

pub are_sound : (areas : ℕ) (may : Bool) (ss : List Statement) → AreSound areas may ss → length ss ≤ 100 → AreStatements areas ss
are_sound areas may ss h few = record { few = few; in_blocks = h.in_blocks; each = h.each }

-- a statement more is read
pub one_read : (running : Running) (areas : List Area) (item at : ℕ) (may more : Bool) (found longer : List Statement) (s : Statement) (v : Json) (vs : List Json) (whole : Outcome (List Statement)) →
    statements_from running areas item may found (drop at vs) ≡ whole → drop at vs ≡ v ∷ drop (at + 1) vs → statement_of running areas item may v ≡ Ok s → more ≡ goes_on s.branch → longer ≡ found ++ s ∷ [] →
    statements_from running areas (item + 1) more longer (drop (at + 1) vs) ≡ whole
one_read running areas item at may more found longer s v vs whole h cut e f g =
    let rest = drop (at + 1) vs in
    let P : List Json → Type 0 = λ xs. statements_from running areas item may found xs ≡ whole in
    let Q : Outcome Statement → Type 0 = λ o. (o >>= λ t. statements_from running areas (item + 1) (goes_on t.branch) (found ++ t ∷ []) rest) ≡ whole in
    rw (f, g) (subst Q e (subst P cut h))
