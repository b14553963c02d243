-- Lines in order: of an actor line by line, of a phase actor by actor.
use Rattle.std.proofs.Common.{◌≡◌, ℕ, suc, ◌+◌, ◌<◌, cond, List, [], ◌∷◌, ◌++◌, length, get_or, take, eqb, sym, ap, ◌∙◌, append-nil, eq-eqb, ne_eqb}
use Rattle.std.proofs.lemmas.Grind.{flat_map-append}
use Rattle.std.proofs.lemmas.List.{map-append}
use Rattle.std.proofs.lemmas.List.Elements.{filter_more}
use Rattle.script_text.specs.declared.script.Line.{Line}
use Rattle.script_service.specs.Answering.{Answered, lines}
use Rattle.script_service.specs.Fitting.{by_actor, lines_of, numbers_below}

pub own_line : (actor : ℕ) (phase : List Line) (i : ℕ) (d : Line) (part : List Answered) (a : Answered) → i < length phase →
    (get_or phase i d).actor ≡ actor → a.line ≡ get_or phase i d → lines part ≡ lines_of actor (take i phase) → lines (part ++ a ∷ []) ≡ lines_of actor (take (i + 1) phase)
own_line actor phase i d part a below own is order =
    let so_far : List Line = lines_of actor (take i phase) in
    let line = get_or phase i d in
    let more = filter_more (λ (line : Line). eqb line.actor actor) phase i d below ∙ ap (λ b. so_far ++ cond b (line ∷ []) []) (eq-eqb line.actor actor own) in
    map-append (λ (a : Answered). a.line) part (a ∷ []) ∙ ap (λ (x : Line). lines part ++ x ∷ []) is ∙ ap (λ (l : List Line). l ++ line ∷ []) order ∙ sym more

pub other_line : (actor : ℕ) (phase : List Line) (i : ℕ) (d : Line) (ls : List Line) → i < length phase →
    ((get_or phase i d).actor ≡ actor → ⊥) → ls ≡ lines_of actor (take i phase) → ls ≡ lines_of actor (take (i + 1) phase)
other_line actor phase i d ls below other order =
    let so_far : List Line = lines_of actor (take i phase) in
    let same = filter_more (λ (line : Line). eqb line.actor actor) phase i d below ∙ ap (λ b. so_far ++ cond b (get_or phase i d ∷ []) []) (ne_eqb (get_or phase i d).actor actor other) ∙ append-nil so_far in
    order ∙ sym same

pub by_actor-suc : (actors : ℕ) (phase : List Line) → by_actor (suc actors) phase ≡ by_actor actors phase ++ lines_of actors phase
by_actor-suc actors phase =
    flat_map-append (λ actor. lines_of actor phase) (numbers_below actors) (actors ∷ []) ∙ ap (λ (l : List Line). by_actor actors phase ++ l) (append-nil (lines_of actors phase))
