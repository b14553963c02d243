-- The numbers of an actor's lines grow, phase by phase.
use Rattle.std.proofs.Common.{◌≡◌, ℕ, zero, suc, ◌+◌, ◌<◌, ◌≤◌, List, [], ◌∷◌, ◌++◌, length, get_or, take, drop, subst, sym, ap, refl, ◌∙◌, arith, eq-eqb, All, AllPairs, length-append, append_assoc, take-append-drop}
use Rattle.std.proofs.lemmas.List.{get_or_append_left, get_or-append-add, get_or_default, drop_more}
use Rattle.script_text.specs.declared.script.Line.{Line}
use Rattle.script_text.specs.Scripts.{AreNumbered, IsLine, lines_of, turns_of}
use Rattle.script_service.specs.Actors.{Acting, Awaits, CanBeAsked, Grows, StaysBelow}
use Rattle.script_service.proofs.ListsAndPairs.{all_left, all_right}

-- behind a line of an actor there are more lines of it
turns_grow : (actor : ℕ) (lines : List Line) (i j : ℕ) (d : Line) → i < j → j ≤ length lines → (get_or lines i d).actor ≡ actor → turns_of actor (take i lines) < turns_of actor (take j lines)
turns_grow actor [] i j d before within is = absurd (omega arith)
turns_grow actor (x ∷ xs) i zero d before within is = absurd (omega arith)
turns_grow actor (x ∷ xs) zero (suc j) d before within is = rw (eq-eqb x.actor actor is) (omega arith)
turns_grow actor (x ∷ xs) (suc i) (suc j) d before within is = let more = turns_grow actor xs i j d (omega arith) (omega arith) is in omega arith

pub numbers_grow : (lines : List Line) → AreNumbered lines → AllPairs Grows lines
numbers_grow lines numbered i j d before within same =
    let first = numbered i d (omega arith) in
    let later = numbered j d within in
    let more = turns_grow (get_or lines j d).actor lines i j d before (omega arith) same in
    let is : turns_of (get_or lines i d).actor (take i lines) ≡ turns_of (get_or lines j d).actor (take i lines) = ap (λ (a : ℕ). turns_of a (take i lines)) same in
    omega arith

lines-append : (before after : List (List Line)) → lines_of (before ++ after) ≡ lines_of before ++ lines_of after
lines-append [] after = refl
lines-append (phase ∷ before) after = ap (λ (l : List Line). phase ++ l) (lines-append before after) ∙ sym (append_assoc phase (lines_of before) (lines_of after))

lines_cut : (phases : List (List Line)) (i : ℕ) → lines_of phases ≡ lines_of (take i phases) ++ lines_of (drop i phases)
lines_cut phases i = ap lines_of (sym (take-append-drop i phases)) ∙ lines-append (take i phases) (drop i phases)

lines_at : (phases : List (List Line)) (i : ℕ) (phase : List Line) → i < length phases → get_or phases i [] ≡ phase → lines_of (drop i phases) ≡ phase ++ lines_of (drop (i + 1) phases)
lines_at phases i phase below is = ap lines_of (drop_more phases i [] below) ∙ ap (λ (p : List Line). p ++ lines_of (drop (i + 1) phases)) is

pairs_left : (xs ys : List Line) → AllPairs Grows (xs ++ ys) → AllPairs Grows xs
pairs_left xs ys pairs i j d below within =
    subst (λ (a : Line). Grows a (get_or xs j d)) (get_or_append_left xs ys d i (omega arith)) (subst (λ (b : Line). Grows (get_or (xs ++ ys) i d) b) (get_or_append_left xs ys d j within) (pairs i j d below (omega (arith, length-append xs ys))))

pairs_right : (xs ys : List Line) → AllPairs Grows (xs ++ ys) → AllPairs Grows ys
pairs_right xs ys pairs i j d below within =
    subst (λ (a : Line). Grows a (get_or ys j d)) (get_or-append-add xs ys i d)
    (subst (λ (b : Line). Grows (get_or (xs ++ ys) (length xs + i) d) b) (get_or-append-add xs ys j d) (pairs (length xs + i) (length xs + j) d (omega arith) (omega (arith, length-append xs ys))))

pairs_across : (xs ys : List Line) → AllPairs Grows (xs ++ ys) → (k : ℕ) (d : Line) → k < length ys → All (λ (m : Line). Grows m (get_or ys k d)) xs
pairs_across xs ys pairs k d below m e h =
    subst (λ (a : Line). Grows a (get_or ys k d)) (get_or_append_left xs ys e m h)
    (subst (λ (b : Line). Grows (get_or (xs ++ ys) m e) b) (get_or_default (xs ++ ys) (length xs + k) e d (omega (arith, length-append xs ys)) ∙ get_or-append-add xs ys k d)
    (pairs m (length xs + k) e (omega arith) (omega (arith, length-append xs ys))))

-- the lines of a phase and those behind it
grow_at : (phases : List (List Line)) (i : ℕ) (phase : List Line) → i < length phases → get_or phases i [] ≡ phase → AllPairs Grows (lines_of phases) → AllPairs Grows (phase ++ lines_of (drop (i + 1) phases))
grow_at phases i phase below is grow =
    subst (AllPairs Grows) (lines_at phases i phase below is) (pairs_right (lines_of (take i phases)) (lines_of (drop i phases)) (subst (AllPairs Grows) (lines_cut phases i) grow))

each_at : (P : Line → Type 0) (phases : List (List Line)) (i : ℕ) (phase : List Line) → i < length phases → get_or phases i [] ≡ phase → All P (lines_of phases) → All P phase
each_at P phases i phase below is all =
    all_left P phase (lines_of (drop (i + 1) phases)) (subst (All P) (lines_at phases i phase below is) (all_right P (lines_of (take i phases)) (lines_of (drop i phases)) (subst (All P) (lines_cut phases i) all)))

-- each phase can be asked
pub asked_here : (profiles actors : ℕ) (phases : List (List Line)) (i : ℕ) (phase : List Line) → i < length phases → get_or phases i [] ≡ phase →
    All (IsLine profiles actors) (lines_of phases) → AreNumbered (lines_of phases) → CanBeAsked profiles actors phase
asked_here profiles actors phases i phase below is each numbered = record {
  each = each_at (IsLine profiles actors) phases i phase below is each;
  grow = pairs_left phase (lines_of (drop (i + 1) phases)) (grow_at phases i phase below is (numbers_grow (lines_of phases) numbered));
}

pub named_here : (profiles actors : ℕ) (phase : List Line) → All (IsLine profiles actors) phase → All (λ (line : Line). line.actor < actors) phase
named_here profiles actors phase each k d h = (each k d h).actor

-- a seat that was given no number waits for all lines
pub awaits_first : (lines : List Line) (actors : List Acting) → AreNumbered lines → All (λ (a : Acting). a.seat.last ≡ 0) actors → All (Awaits lines) actors
awaits_first lines actors numbered first i e below k d h mine =
    let none = first i e below in
    let number = numbered k d h in
    omega arith

pub awaits_here : (phases : List (List Line)) (i : ℕ) (phase : List Line) (a : Acting) → i < length phases → get_or phases i [] ≡ phase → Awaits (lines_of (drop i phases)) a → Awaits phase a
awaits_here phases i phase a below is awaits =
    let P : Line → Type 0 = λ line. line.actor ≡ a.seat.actor → a.seat.last < line.number in
    all_left P phase (lines_of (drop (i + 1) phases)) (subst (All P) (lines_at phases i phase below is) awaits)

pub awaits_next : (phases : List (List Line)) (i : ℕ) (phase : List Line) (before after : Acting) → i < length phases → get_or phases i [] ≡ phase → AreNumbered (lines_of phases) →
    Awaits (lines_of (drop i phases)) before → StaysBelow phase (length phase) before after → after.seat.actor ≡ before.seat.actor → Awaits (lines_of (drop (i + 1) phases)) after
awaits_next phases i phase before after below is numbered awaits stays same k d h mine =
    let P : Line → Type 0 = λ line. line.actor ≡ before.seat.actor → before.seat.last < line.number in
    let rest : List Line = lines_of (drop (i + 1) phases) in
    let later = all_right P phase rest (subst (All P) (lines_at phases i phase below is) awaits) in
    stays (get_or rest k d) (mine ∙ same) (later k d h (mine ∙ same)) (pairs_across phase rest (grow_at phases i phase below is (numbers_grow (lines_of phases) numbered)) k d h)
