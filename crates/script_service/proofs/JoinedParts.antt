-- What all actors were told, joined.
use Rattle.std.proofs.Common.{◌≡◌, ℕ, zero, suc, ◌+◌, ◌<◌, ◌≤◌, ◌≢◌, true, false, inl, inr, eq-eqb, ne_eqb, List, [], ◌∷◌, ◌++◌, length, get_or, take, eqb, sym, ap, subst, refl, ◌∙◌, arith, append-nil, take-suc, All, map}
use Rattle.std.proofs.lemmas.Grind.{flat_map-append}
use Rattle.std.proofs.lemmas.Bool.{eqb-true, cases_lt}
use Rattle.std.proofs.lemmas.List.{map-append, take_all}
use Rattle.std.proofs.lemmas.List.Elements.{All-append, All-nil, All-cons, All-head, All-tail, All-filter, filter-append, filter_passes}
use Rattle.traffic_core.specs.declared.entry.Entry.{Entry}
use Rattle.traffic_core.specs.Lands.{Land}
use Rattle.script_text.specs.declared.script.Line.{Line}
use Rattle.traffic_share.specs.Seats.{Place, StartsWith}
use Rattle.script_service.specs.Answering.{Answered, lines, own_of, accepted}
use Rattle.script_service.specs.Fitting.{by_actor, lines_of, IsPast, SeesOwn}
use Rattle.script_service.specs.Going.{Goes, Knowing, Knows, Serves}
use Rattle.script_service.specs.Actors.{Acting, Acts, HasRun, IsSeated, IsTaught, Know, part_in, parts_in, heard_in}
use Rattle.script_service.proofs.ListsAndPairs.{pairs_append}
use Rattle.script_service.proofs.HeldPreparations.{knows_later}
use Rattle.script_service.proofs.RightReplies.{right_append, are_right_own}
use Rattle.script_service.proofs.CommandMore.{goes_none, goes_later, starts_len}
use Rattle.script_service.proofs.CountedEntries.{fills_counted}
use Rattle.script_service.proofs.ActorOrder.{by_actor-suc}

parts-suc : (phase : List Line) (actors : List Acting) (i : ℕ) (d : Acting) → i < length actors → parts_in phase (take (suc i) actors) ≡ parts_in phase (take i actors) ++ part_in phase (get_or actors i d)
parts-suc phase actors i d below =
    ap (parts_in phase) (take-suc actors i d below) ∙ flat_map-append (part_in phase) (take i actors) (get_or actors i d ∷ []) ∙
    ap (λ (l : List Answered). parts_in phase (take i actors) ++ l) (append-nil (part_in phase (get_or actors i d)))

-- the lines of other actors
lines_below : (i : ℕ) (phase : List Line) → All (λ (line : Line). line.actor < i) (by_actor i phase)
lines_below zero phase = All-nil (λ (line : Line). line.actor < zero)
lines_below (suc i) phase =
    let before : All (λ (line : Line). line.actor < suc i) (by_actor i phase) = λ k d h. let was = lines_below i phase k d h in omega arith in
    let own : All (λ (line : Line). line.actor < suc i) (lines_of i phase) = λ k d h.
    let is = eqb-true (get_or (lines_of i phase) k d).actor i (filter_passes (λ (line : Line). eqb line.actor i) phase k d h) in omega arith in
    subst (All (λ (line : Line). line.actor < suc i)) (sym (by_actor-suc i phase)) (All-append (λ (line : Line). line.actor < suc i) (by_actor i phase) (lines_of i phase) before own)

all_of_lines : (P : Line → Type 0) (xs : List Answered) → All P (lines xs) → All (λ (a : Answered). P a.line) xs
all_of_lines P [] all = All-nil (λ (a : Answered). P a.line)
all_of_lines P (x ∷ xs) all =
    All-cons (λ (a : Answered). P a.line) x xs (All-head P x.line (lines xs) all) (all_of_lines P xs (All-tail P x.line (lines xs) all))

others_part : (i : ℕ) (phase : List Line) (part : List Answered) → lines part ≡ by_actor i phase → All (λ (a : Answered). a.line.actor < i) part
others_part i phase part order =
    all_of_lines (λ (line : Line). line.actor < i) part (subst (All (λ (line : Line). line.actor < i)) (sym order) (lines_below i phase))

own_part : (i : ℕ) (phase : List Line) (part : List Answered) → lines part ≡ lines_of i phase → All (λ (a : Answered). a.line.actor ≡ i) part
own_part i phase part order k d h =
    let ours = all_of_lines (λ (line : Line). eqb line.actor i ≡ true) part (subst (All (λ (line : Line). eqb line.actor i ≡ true)) (sym order) (filter_passes (λ (line : Line). eqb line.actor i) phase)) in
    eqb-true (get_or part k d).line.actor i (ours k d h)

own_none : (i : ℕ) (xs : List Answered) → All (λ (a : Answered). a.line.actor ≢ i) xs → own_of i xs ≡ []
own_none i [] others = refl
own_none i (x ∷ xs) others =
    let rest = own_none i xs (All-tail (λ (a : Answered). a.line.actor ≢ i) x xs others) in
    rw (ne_eqb x.line.actor i (All-head (λ (a : Answered). a.line.actor ≢ i) x xs others)) rest

own_same : (i : ℕ) (xs : List Answered) → All (λ (a : Answered). a.line.actor ≡ i) xs → own_of i xs ≡ xs
own_same i [] own = refl
own_same i (x ∷ xs) own =
    let rest = own_same i xs (All-tail (λ (a : Answered). a.line.actor ≡ i) x xs own) in
    rw (eq-eqb x.line.actor i (All-head (λ (a : Answered). a.line.actor ≡ i) x xs own)) (ap (λ (l : List Answered). x ∷ l) rest)

own-append : (i : ℕ) (xs ys : List Answered) → own_of i (xs ++ ys) ≡ own_of i xs ++ own_of i ys
own-append i xs ys = filter-append (λ (a : Answered). eqb a.line.actor i) xs ys

-- one actor's replies behind those of the actors before it
goes_append : (land : Land) (capacity : ℕ) (past : List Answered) (low i : ℕ) (list : List Entry) (phase : List Line) (part mine : List Answered) → Goes land capacity past low list part → lines part ≡ by_actor i phase →
    Goes land capacity past low list mine → lines mine ≡ lines_of i phase → Goes land capacity past low list (part ++ mine)
goes_append land capacity past low i list phase part mine before order one own =
    let others = others_part i phase part order in
    let ours = own_part i phase mine own in
    let none : own_of i part ≡ [] = own_none i part (λ k d h is. let less = others k d h in omega arith) in
    let same : own_of i past ≡ own_of i (past ++ part) = sym (own-append i past part ∙ ap (λ (l : List Answered). own_of i past ++ l) none ∙ append-nil (own_of i past)) in
    record {
      told = All-append (IsPast low) part mine before.told one.told;
      within = All-append (λ (a : Answered). a.at ≤ length list) part mine before.within one.within;
      seen = pairs_append SeesOwn part mine before.seen one.seen (λ k d h j e l same.
          let less = others k d h in
          let is = ours j e l in
          absurd (omega arith));
      right = right_append land capacity list past part mine before.right (are_right_own land capacity list i past (past ++ part) mine same ours one.right);
    }

-- an actor has run its part of a phase, and its list is the service's now
pub record HasDone (land : Land) (capacity : ℕ) (past : List Answered) (low : ℕ) (list : List Entry) (phase : List Line) (i : ℕ) (a : Acting) : Type 0 where
  pub goes : Goes land capacity past low list (part_in phase a)
  pub order : lines (part_in phase a) ≡ lines_of i phase
  pub knows : Knows land list (own_of i (past ++ part_in phase a)) a.knows

same_part : (taught : Place) (phase : List Line) (after last : Acting) → IsTaught taught after last → part_in phase last ≡ part_in phase after
same_part taught phase after last told = ap (map (heard_in phase)) told.part

pub order_of : (land : Land) (service taught : Place) (phase : List Line) (i : ℕ) (before after last : Acting) → IsSeated service i before → HasRun land phase before after → IsTaught taught after last → last.failed ≡ false →
    lines (part_in phase last) ≡ lines_of i phase
order_of land service taught phase i before after last seated run told done =
    ap lines (same_part taught phase after last told) ∙ run.order (sym told.failed ∙ done) ∙ ap (lines_of before.seat.actor) (take_all (length phase) phase (omega arith)) ∙
    ap (λ (n : ℕ). lines_of n phase) seated.actor

-- over one list
acts_of : (land : Land) (past : List Answered) (service : Place) (phase : List Line) (i : ℕ) (before after : Acting) → All (λ (a : Answered). a.at ≤ length service.entries) past →
    Knows land service.entries (own_of i past) before.knows → IsSeated service i before → HasRun land phase before after → after.failed ≡ false → Acts land phase past before after
acts_of land past service phase i before after within knows seated run done =
    let here : All (λ (a : Answered). a.at ≤ length before.seat.entries) past = subst (λ (l : List Entry). All (λ (a : Answered). a.at ≤ length l) past) (sym seated.entries) within in
    let mine : Knows land service.entries (own_of before.seat.actor past) before.knows = subst (λ (n : ℕ). Knows land service.entries (own_of n past) before.knows) (sym seated.actor) knows in
    run.acts done past (record { within = here; knows = subst (λ (l : List Entry). Knows land l (own_of before.seat.actor past) before.knows) (sym seated.entries) mine })

pub done_of : (land : Land) (past : List Answered) (service taught : Place) (phase : List Line) (i : ℕ) (before after last : Acting) → All (λ (a : Answered). a.at ≤ length service.entries) past →
    Knows land service.entries (own_of i past) before.knows → IsSeated service i before → HasRun land phase before after →
    IsTaught taught after last → last.failed ≡ false → HasDone land (length service.cells) past (length service.entries) taught.entries phase i last
done_of land past service taught phase i before after last within knows seated run told done =
    let acts = acts_of land past service phase i before after within knows seated run (sym told.failed ∙ done) in
    let part : List Answered = part_in phase after in
    let grew = starts_len before.seat.entries after.seat.entries run.still.starts in
    let long = ap length seated.entries in
    let later : All (λ (a : Answered). a.at ≤ length after.seat.entries) past = λ k d h. let was = within k d h in omega arith in
    let all = All-append (λ (a : Answered). a.at ≤ length after.seat.entries) past part later acts.goes.within in
    let own = All-filter (λ (b : Answered). eqb b.line.actor before.seat.actor) (λ (a : Answered). a.at ≤ length after.seat.entries) (past ++ part) all in
    let goes = goes_later land (length before.seat.cells) past (length before.seat.entries) after.seat.entries taught.entries part told.starts later acts.goes in
    let of_cells = subst (λ (l : List ℕ). Goes land (length l) past (length before.seat.entries) taught.entries part) seated.cells goes in
    let of_list = subst (λ (l : List Entry). Goes land (length service.cells) past (length l) taught.entries part) seated.entries of_cells in
    let known = knows_later land after.seat.entries taught.entries (own_of before.seat.actor (past ++ part)) after.knows told.starts own acts.knows in
    let of_actor = subst (λ (n : ℕ). Knows land taught.entries (own_of n (past ++ part)) after.knows) seated.actor known in
    let same = sym (same_part taught phase after last told) in
    record {
      goes = subst (λ (l : List Answered). Goes land (length service.cells) past (length service.entries) taught.entries l) same of_list;
      order = order_of land service taught phase i before after last seated run told done;
      knows = subst (λ (l : List Answered). Knows land taught.entries (own_of i (past ++ l)) last.knows) same (subst (λ (k : Knowing). Knows land taught.entries (own_of i (past ++ part)) k) (sym told.knows) of_actor);
    }

abbrev pub AllDone : Land → ℕ → List Answered → ℕ → List Entry → List Line → List Acting → Acting → Type 0
AllDone land capacity past low list phase actors d = (i : ℕ) → i < length actors → HasDone land capacity past low list phase i (get_or actors i d)

abbrev pub AllInOrder : List Line → List Acting → Acting → Type 0
AllInOrder phase actors d = (i : ℕ) → i < length actors → lines (part_in phase (get_or actors i d)) ≡ lines_of i phase

order_front : (phase : List Line) (actors : List Acting) (d : Acting) → AllInOrder phase actors d → (i : ℕ) → i ≤ length actors → lines (parts_in phase (take i actors)) ≡ by_actor i phase
order_front phase actors d each zero within = refl
order_front phase actors d each (suc i) within =
    let mine : List Answered = part_in phase (get_or actors i d) in
    ap lines (parts-suc phase actors i d (omega arith)) ∙ map-append (λ (a : Answered). a.line) (parts_in phase (take i actors)) mine ∙
    ap (λ (l : List Line). l ++ lines mine) (order_front phase actors d each i (omega arith)) ∙ ap (λ (l : List Line). by_actor i phase ++ l) (each i (omega arith)) ∙ sym (by_actor-suc i phase)

pub parts_order : (phase : List Line) (actors : List Acting) → ((d : Acting) → AllInOrder phase actors d) → lines (parts_in phase actors) ≡ by_actor (length actors) phase
parts_order phase [] each = refl
parts_order phase (x ∷ xs) each =
    subst (λ (front : List Acting). lines (parts_in phase front) ≡ by_actor (length (x ∷ xs)) phase) (take_all (length (x ∷ xs)) (x ∷ xs) (omega arith))
    (order_front phase (x ∷ xs) x (each x) (length (x ∷ xs)) (omega arith))

goes_front : (land : Land) (capacity low : ℕ) (list : List Entry) (phase : List Line) (past : List Answered) (actors : List Acting) (d : Acting) → AllDone land capacity past low list phase actors d → (i : ℕ) → i ≤ length actors →
    Goes land capacity past low list (parts_in phase (take i actors))
goes_front land capacity low list phase past actors d each zero within = goes_none land capacity past low list
goes_front land capacity low list phase past actors d each (suc i) within =
    let before = goes_front land capacity low list phase past actors d each i (omega arith) in
    let order = order_front phase actors d (λ k h. (each k h).order) i (omega arith) in
    let here = each i (omega arith) in
    subst (Goes land capacity past low list) (sym (parts-suc phase actors i d (omega arith))) (goes_append land capacity past low i list phase (parts_in phase (take i actors)) (part_in phase (get_or actors i d)) before order here.goes here.order)

own_front : (land : Land) (capacity low : ℕ) (list : List Entry) (phase : List Line) (past : List Answered) (actors : List Acting) (d : Acting) → AllDone land capacity past low list phase actors d →
    (i n : ℕ) → i < n → n ≤ length actors → own_of i (parts_in phase (take n actors)) ≡ part_in phase (get_or actors i d)
own_front land capacity low list phase past actors d each i zero below within = absurd (omega arith)
own_front land capacity low list phase past actors d each i (suc n) below within =
    let front : List Answered = parts_in phase (take n actors) in
    let mine : List Answered = part_in phase (get_or actors n d) in
    let split : own_of i (parts_in phase (take (suc n) actors)) ≡ own_of i front ++ own_of i mine = ap (own_of i) (parts-suc phase actors n d (omega arith)) ∙ own-append i front mine in
    let ours = own_part n phase mine (each n (omega arith)).order in
    elim (cases_lt i n) [
      | inl less ↦
          let none : own_of i mine ≡ [] = own_none i mine (λ k e h is. let own = ours k e h in omega arith) in
          split ∙ ap (λ (l : List Answered). own_of i front ++ l) none ∙ append-nil (own_of i front) ∙ own_front land capacity low list phase past actors d each i n less (omega arith)
      | inr more ↦
          let is : i ≡ n = omega arith in
          let order = order_front phase actors d (λ k h. (each k h).order) n (omega arith) in
          let none : own_of n front ≡ [] = own_none n front (λ k e h is. let less = others_part n phase front order k e h in omega arith) in
          rw is (rw is at split ∙ ap (λ (l : List Answered). l ++ own_of n mine) none ∙ own_same n mine ours)
    ]

joined_goes : (land : Land) (capacity low : ℕ) (list : List Entry) (phase : List Line) (past : List Answered) (actors : List Acting) → ((d : Acting) → AllDone land capacity past low list phase actors d) →
    Goes land capacity past low list (parts_in phase actors)
joined_goes land capacity low list phase past [] each = goes_none land capacity past low list
joined_goes land capacity low list phase past (x ∷ xs) each =
    subst (λ (front : List Acting). Goes land capacity past low list (parts_in phase front)) (take_all (length (x ∷ xs)) (x ∷ xs) (omega arith))
    (goes_front land capacity low list phase past (x ∷ xs) x (each x) (length (x ∷ xs)) (omega arith))

pub know_joined : (land : Land) (capacity low : ℕ) (list : List Entry) (phase : List Line) (past : List Answered) (actors : List Acting) → ((d : Acting) → AllDone land capacity past low list phase actors d) →
    Know land list (past ++ parts_in phase actors) actors
know_joined land capacity low list phase past actors each i d below =
    let done = each d i below in
    let mine : List Answered = part_in phase (get_or actors i d) in
    let whole : own_of i (parts_in phase actors) ≡ mine =
    subst (λ (front : List Acting). own_of i (parts_in phase front) ≡ mine) (take_all (length actors) actors (omega arith)) (own_front land capacity low list phase past actors d (each d) i (length actors) below (omega arith)) in
    let same : own_of i (past ++ mine) ≡ own_of i (past ++ parts_in phase actors) =
    own-append i past mine ∙ ap (λ (l : List Answered). own_of i past ++ l) (own_same i mine (own_part i phase mine done.order) ∙ sym whole) ∙ sym (own-append i past (parts_in phase actors)) in
    subst (λ (l : List Answered). Knows land list l (get_or actors i d).knows) same done.knows

pub serves_joined : (land : Land) (capacity : ℕ) (past : List Answered) (journal longer : List Entry) (phase : List Line) (actors : List Acting) → StartsWith longer journal →
    ((d : Acting) → AllDone land capacity past (length journal) longer phase actors d) → length longer ≡ length journal + accepted (parts_in phase actors) →
    Serves land capacity past journal longer (parts_in phase actors)
serves_joined land capacity past journal longer phase actors starts each count =
    let goes = joined_goes land capacity (length journal) longer phase past actors each in
    record { starts = starts; goes = goes; fills = fills_counted land capacity past (length journal) longer (parts_in phase actors) goes count }
