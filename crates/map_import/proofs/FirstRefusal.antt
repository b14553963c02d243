-- The first piece that can't stand behind the others is the one that is refused.
use Rattle.std.specs.List.{flat_map}
use Rattle.std.proofs.Common.{◌≡◌, ℕ, Bool, true, false, cond, ltb, leb, List, ℤ, [], ◌∷◌, ◌++◌, length, fold, Option, Result, Ok, Err, inl, inr, refl, sym, ap, ◌∙◌, subst, arith}
use Rattle.std.proofs.lemmas.Bool.Decides.{nat_tests}
use Rattle.std.proofs.lemmas.List.{append-nil, append_assoc, length-map}
use Rattle.std.proofs.lemmas.List.Sums.{fold-append}
use Rattle.std.proofs.lemmas.Grind.{flat_map-append}
use Rattle.gh_base.specs.declared.map.Point.{Point}
use Rattle.map_import.specs.declared.faults.ImportFault.{ImportFault}
use Rattle.map_import.specs.declared.faults.ImportFault.TheVariants as fault
use Rattle.map_import.specs.Roads.{Piece, edge_of, ends_of, with_tower, with_towers, towers_in_order}
use Rattle.map_import.specs.Refusals.{Laid, lay, lay_all, and_then, nothing}
use Rattle.map_import.specs.FirstRefusal.{Fits, IsRefusedFor, IsFirstRefusal, AllFit, piece_length, towers_with}
use Rattle.map_import.proofs.Sayings.{one_more}
use Rattle.map_import.proofs.Sayings as says
use Rattle.map_import.proofs.Cuts as cuts

abbrev choice : Bool → Bool → Bool → ℤ → Laid → Result Laid ImportFault
choice long many_edges many_towers way laid =
    cond long (Err (fault.TooLong way)) (cond many_edges (Err fault.TooManyEdges) (cond many_towers (Err fault.TooManyNodes) (Ok laid)))

abbrev verdict : ℤ → ℕ → ℕ → ℕ → Laid → Result Laid ImportFault
verdict way mm count towers laid = choice (ltb 4294967295 mm) (leb 4000000 count) (ltb 2000000 towers) way laid

fits_by : (a b c : Bool) (way : ℤ) (mm count towers : ℕ) (x laid : Laid) → ltb 4294967295 mm ≡ a → leb 4000000 count ≡ b → ltb 2000000 towers ≡ c
    → choice a b c way x ≡ Ok laid → Fits mm count towers
fits_by true b c way mm count towers x laid p q r h = absurd (cc)
fits_by false true c way mm count towers x laid p q r h = absurd (cc)
fits_by false false true way mm count towers x laid p q r h = absurd (cc)
fits_by false false false way mm count towers x laid p q r h =
    record { short = grind (arith, nat_tests); few_edges = grind (arith, nat_tests); few_towers = grind (arith, nat_tests) }

refused_by : (a b c : Bool) (way : ℤ) (mm count towers : ℕ) (x : Laid) (e : ImportFault) → ltb 4294967295 mm ≡ a → leb 4000000 count ≡ b → ltb 2000000 towers ≡ c
    → choice a b c way x ≡ Err e → IsRefusedFor way mm count towers e
refused_by true b c way mm count towers x e p q r h = inl (grind (arith, nat_tests), cc)
refused_by false true c way mm count towers x e p q r h = inr (inl (grind (arith, nat_tests), grind (arith, nat_tests), cc))
refused_by false false true way mm count towers x e p q r h = inr (inr (grind (arith, nat_tests), grind (arith, nat_tests), grind (arith, nat_tests), cc))
refused_by false false false way mm count towers x e p q r h = absurd (cc)

fits_gives : (way : ℤ) (mm count towers : ℕ) (x : Laid) → Fits mm count towers → verdict way mm count towers x ≡ Ok x
fits_gives way mm count towers x f =
    let short = f.short in
    let edges = f.few_edges in
    let few = f.few_towers in
    let a : ltb 4294967295 mm ≡ false = grind (arith, nat_tests) in
    let b : leb 4000000 count ≡ false = grind (arith, nat_tests) in
    let c : ltb 2000000 towers ≡ false = grind (arith, nat_tests) in
    rw (a, b, c) refl

refusal_gives : (way : ℤ) (mm count towers : ℕ) (x : Laid) (e : ImportFault) → IsRefusedFor way mm count towers e → verdict way mm count towers x ≡ Err e
refusal_gives way mm count towers x e f = elim f [
  | inl h ↦
      let long = h.0 in
      let a : ltb 4294967295 mm ≡ true = grind (arith, nat_tests) in
      rw a (ap (λ (z : ImportFault). Err z) (sym h.1))
  | inr g ↦ elim g [
    | inl h ↦
        let short = h.0 in
        let many = h.1 in
        let a : ltb 4294967295 mm ≡ false = grind (arith, nat_tests) in
        let b : leb 4000000 count ≡ true = grind (arith, nat_tests) in
        rw (a, b) (ap (λ (z : ImportFault). Err z) (sym h.2))
    | inr h ↦
        let short = h.0 in
        let few = h.1 in
        let many = h.2 in
        let a : ltb 4294967295 mm ≡ false = grind (arith, nat_tests) in
        let b : leb 4000000 count ≡ false = grind (arith, nat_tests) in
        let c : ltb 2000000 towers ≡ true = grind (arith, nat_tests) in
        rw (a, b, c) (ap (λ (z : ImportFault). Err z) (sym h.3))
  ]
]

towers_then : (before : List Piece) (piece : Piece) → towers_in_order (before ++ piece ∷ []) ≡ with_towers (towers_in_order before) piece.refs
towers_then before piece =
    ap (fold with_tower []) (flat_map-append ends_of before (piece ∷ [])) ∙ fold-append with_tower [] (flat_map ends_of before) (ends_of piece)

-- how a piece is laid behind others
lay_behind : (place : ℤ → Option Point) (before : List Piece) (piece : Piece) (laid : Laid) → lay_all place nothing before ≡ Ok laid
    → lay place laid piece ≡ verdict piece.way (piece_length place piece) (length before) (towers_with before piece) (one_more place laid piece)
unfolding lay
lay_behind place before piece laid h =
    let mm = piece_length place piece in
    let now = length (with_towers laid.ids piece.refs) in
    let count : length laid.edges ≡ length before = ap length (says.edges place before laid h) ∙ length-map before (edge_of place laid.ids) in
    let towers : now ≡ towers_with before piece =
    ap (λ (l : List ℤ). length (with_towers l piece.refs)) (says.ids place before laid h) ∙ sym (ap length (towers_then before piece)) in
    ap (λ (n : ℕ). verdict piece.way mm n now (one_more place laid piece)) count
    ∙ ap (λ (n : ℕ). verdict piece.way mm (length before) n (one_more place laid piece)) towers

push_laid : (place : ℤ → Option Point) (before : List Piece) (piece : Piece) (laid next : Laid)
    → lay_all place nothing before ≡ Ok laid → lay place laid piece ≡ Ok next → lay_all place nothing (before ++ piece ∷ []) ≡ Ok next
push_laid place before piece laid next h n =
    cuts.behind place before (piece ∷ []) nothing
    ∙ ap (λ (r : Result Laid ImportFault). and_then r (λ l. lay_all place l (piece ∷ []))) h
    ∙ ap (λ (r : Result Laid ImportFault). and_then r (λ l. Ok l)) n

record IsLaid (place : ℤ → Option Point) (pieces : List Piece) : Type 0 where
  laid : Laid
  is : lay_all place nothing pieces ≡ Ok laid

fit_laid : (place : ℤ → Option Point) (done rest : List Piece) → IsLaid place done → AllFit place (done ++ rest) → IsLaid place (done ++ rest)
fit_laid place done [] l fit = subst (IsLaid place) (sym (append-nil done)) l
fit_laid place done (piece ∷ rest) l fit =
    let next = one_more place l.laid piece in
    let laid : lay place l.laid piece ≡ Ok next =
    lay_behind place done piece l.laid l.is
    ∙ fits_gives piece.way (piece_length place piece) (length done) (towers_with done piece) next (fit done piece rest refl) in
    let more : IsLaid place (done ++ piece ∷ []) = record { laid = next; is = push_laid place done piece l.laid next l.is laid } in
    let seam : (done ++ piece ∷ []) ++ rest ≡ done ++ piece ∷ rest = append_assoc done (piece ∷ []) rest in
    subst (IsLaid place) seam (fit_laid place (done ++ piece ∷ []) rest more (subst (AllFit place) (sym seam) fit))

ok_before : (r : Result Laid ImportFault) (f : Laid → Result Laid ImportFault) (laid : Laid) → and_then r f ≡ Ok laid → (mid : Laid) × (r ≡ Ok mid) × (f mid ≡ Ok laid)
ok_before (Ok mid) f laid h = (mid, refl, h)
ok_before (Err e) f laid h = absurd (cc)

laid_fit : (place : ℤ → Option Point) (pieces : List Piece) (laid : Laid) → lay_all place nothing pieces ≡ Ok laid → AllFit place pieces
laid_fit place pieces laid h before piece behind e =
    let all : lay_all place nothing (before ++ piece ∷ behind) ≡ Ok laid = ap (lay_all place nothing) (sym e) ∙ h in
    let front = ok_before (lay_all place nothing before) (λ m. lay_all place m (piece ∷ behind)) laid (sym (cuts.behind place before (piece ∷ behind) nothing) ∙ all) in
    let next = ok_before (lay place front.0 piece) (λ m. lay_all place m behind) laid front.2 in
    let mm = piece_length place piece in
    let towers = towers_with before piece in
    fits_by (ltb 4294967295 mm) (leb 4000000 (length before)) (ltb 2000000 towers) piece.way mm (length before) towers (one_more place front.0 piece) next.0
    refl refl refl (sym (lay_behind place before piece front.0 front.1) ∙ next.1)

refused_case : (place : ℤ → Option Point) (done : List Piece) (piece : Piece) (rest : List Piece) (laid : Laid) (e : ImportFault)
    → lay_all place nothing done ≡ Ok laid
    → ((next : Laid) → lay_all place nothing (done ++ piece ∷ []) ≡ Ok next → lay_all place next rest ≡ Err e → IsFirstRefusal place ((done ++ piece ∷ []) ++ rest) e)
    → (r : Result Laid ImportFault) → lay place laid piece ≡ r → and_then r (λ m. lay_all place m rest) ≡ Err e → IsFirstRefusal place (done ++ piece ∷ rest) e
refused_case place done piece rest laid e h later (Ok next) is f =
    subst (λ (l : List Piece). IsFirstRefusal place l e) (append_assoc done (piece ∷ []) rest) (later next (push_laid place done piece laid next h is) f)
refused_case place done piece rest laid e h later (Err g) is f =
    let mm = piece_length place piece in
    let towers = towers_with done piece in
    record {
      before = done;
      piece = piece;
      behind = rest;
      parts = refl;
      fit = laid_fit place done laid h;
      refused = refused_by (ltb 4294967295 mm) (leb 4000000 (length done)) (ltb 2000000 towers) piece.way mm (length done) towers (one_more place laid piece) e
          refl refl refl (sym (lay_behind place done piece laid h) ∙ is ∙ f);
    }

refused_behind : (place : ℤ → Option Point) (rest done : List Piece) (laid : Laid) (e : ImportFault)
    → lay_all place nothing done ≡ Ok laid → lay_all place laid rest ≡ Err e → IsFirstRefusal place (done ++ rest) e
refused_behind place [] done laid e h f = absurd (cc)
refused_behind place (piece ∷ rest) done laid e h f =
    refused_case place done piece rest laid e h (λ next. refused_behind place rest (done ++ piece ∷ []) next e) (lay place laid piece) refl f

pub refusal_is_first : (place : ℤ → Option Point) (pieces : List Piece) (e : ImportFault) → lay_all place nothing pieces ≡ Err e → IsFirstRefusal place pieces e
refusal_is_first place pieces e h = refused_behind place pieces [] nothing e refl h

pub first_is_refusal : (place : ℤ → Option Point) (pieces : List Piece) (e : ImportFault) → IsFirstRefusal place pieces e → lay_all place nothing pieces ≡ Err e
first_is_refusal place pieces e r =
    let start : IsLaid place [] = record { laid = nothing; is = refl } in
    let l = fit_laid place [] r.before start r.fit in
    let piece = r.piece in
    let mm = piece_length place piece in
    let not : lay place l.laid piece ≡ Err e =
    lay_behind place r.before piece l.laid l.is
    ∙ refusal_gives piece.way mm (length r.before) (towers_with r.before piece) (one_more place l.laid piece) e r.refused in
    ap (lay_all place nothing) r.parts
    ∙ cuts.behind place r.before (piece ∷ r.behind) nothing
    ∙ ap (λ (x : Result Laid ImportFault). and_then x (λ m. lay_all place m (piece ∷ r.behind))) l.is
    ∙ ap (λ (x : Result Laid ImportFault). and_then x (λ m. lay_all place m r.behind)) not
