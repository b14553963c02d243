-- Limits with those of rows in their places.
use Rattle.std.proofs.Common.{◌≡◌, ℕ, ◌<◌, List, [], ◌∷◌, ◌++◌, length, get_or, refl, ap, ◌∙◌, sym, arith, zero, suc}
use Rattle.std.specs.Prelude.{slice_set}
use Rattle.std.proofs.lemmas.List.{set-set, set_comm, length-set, get_or-set_same, get_or-set_other}
use Rattle.traffic_core.specs.declared.rows.Row.{Row}
use Rattle.traffic_core.specs.Rows.{with_rows, row_at, HasNoRow, AreOfOnePlaceEach}

pub length-with_rows : (limits : List ℕ) (rows : List Row) → length (with_rows limits rows) ≡ length limits
length-with_rows limits [] = refl
length-with_rows limits (row ∷ rows) = length-with_rows (slice_set limits row.place row.speed) rows ∙ length-set limits row.place row.speed

-- a row behind the others sets its limit
pub with_rows-push : (limits : List ℕ) (rows : List Row) (row : Row) → with_rows limits (rows ++ row ∷ []) ≡ slice_set (with_rows limits rows) row.place row.speed
with_rows-push limits [] row = refl
with_rows-push limits (x ∷ rows) row = with_rows-push (slice_set limits x.place x.speed) rows row

-- a limit without a row is set before or after those of rows
pub with_rows-set : (limits : List ℕ) (rows : List Row) (place speed : ℕ) → HasNoRow rows place → with_rows (slice_set limits place speed) rows ≡ slice_set (with_rows limits rows) place speed
with_rows-set limits [] place speed none = refl
with_rows-set limits (x ∷ rows) place speed none =
    ap (λ (l : List ℕ). with_rows l rows) (set_comm limits place x.place speed x.speed (λ e. none 0 (omega arith) (sym e)))
    ∙ with_rows-set (slice_set limits x.place x.speed) rows place speed (λ number below. none (suc number) (omega arith))

-- a row that is changed sets its limit
pub with_rows-change : (limits : List ℕ) (rows : List Row) (number : ℕ) (row : Row) → number < length rows → (row_at rows number).place ≡ row.place → AreOfOnePlaceEach rows →
    with_rows limits (slice_set rows number row) ≡ slice_set (with_rows limits rows) row.place row.speed
with_rows-change limits [] number row below at once = absurd (omega arith)
with_rows-change limits (x ∷ rows) zero row below at once =
    let none : HasNoRow rows row.place = λ number lt e. once 0 (suc number) (omega arith) (omega arith) (at ∙ sym e) in
    with_rows-set limits rows row.place row.speed none
    ∙ (sym (set-set (with_rows limits rows) row.place x.speed row.speed)
    ∙ ap (λ (l : List ℕ). slice_set l row.place row.speed) (sym (with_rows-set limits rows row.place x.speed none) ∙ ap (λ (p : ℕ). with_rows (slice_set limits p x.speed) rows) (sym at)))
with_rows-change limits (x ∷ rows) (suc number) row below at once =
    with_rows-change (slice_set limits x.place x.speed) rows number row (omega arith) at (λ first second lt within. once (suc first) (suc second) (omega arith) (omega arith))

-- where there is no row the limit is as it was
pub with_rows-none : (limits : List ℕ) (rows : List Row) (place : ℕ) → HasNoRow rows place → get_or (with_rows limits rows) place 0 ≡ get_or limits place 0
with_rows-none limits [] place none = refl
with_rows-none limits (x ∷ rows) place none =
    with_rows-none (slice_set limits x.place x.speed) rows place (λ number below. none (suc number) (omega arith))
    ∙ get_or-set_other limits x.place place x.speed 0 (λ e. none 0 (omega arith) (sym e))

-- and where there is one it is the row's
pub with_rows-found : (limits : List ℕ) (rows : List Row) (place number : ℕ) → number < length rows → (row_at rows number).place ≡ place → AreOfOnePlaceEach rows →
    place < length limits → get_or (with_rows limits rows) place 0 ≡ (row_at rows number).speed
with_rows-found limits [] place number below at once within = absurd (omega arith)
with_rows-found limits (x ∷ rows) place zero below at once within =
    with_rows-none (slice_set limits x.place x.speed) rows place (λ number lt e. once 0 (suc number) (omega arith) (omega arith) (at ∙ sym e))
    ∙ (ap (λ (p : ℕ). get_or (slice_set limits p x.speed) place 0) at ∙ get_or-set_same limits place x.speed 0 within)
with_rows-found limits (x ∷ rows) place (suc number) below at once within =
    with_rows-found (slice_set limits x.place x.speed) rows place number (omega arith) at (λ first second lt inside. once (suc first) (suc second) (omega arith) (omega arith))
    (omega (arith, length-set limits x.place x.speed))
