-- The text of a phase grows reply by reply, and actor by actor.
use Rattle.std.proofs.Common.{◌≡◌, ℕ, ◌+◌, ◌<◌, List, [], ◌∷◌, ◌++◌, length, get_or, slice_get, take, map, sym, ap, ◌∙◌, append_assoc, append-nil, Some, refl, subst, All}
use Rattle.std.proofs.lemmas.Grind.{flat_map-append}
use Rattle.std.proofs.lemmas.List.{map-append, take_more, get_or_read}
use Rattle.std.proofs.lemmas.Option.{get_or_from_slice_get}
use Rattle.script_text.specs.declared.script.Line.{Line}
use Rattle.script_text.specs.Replies.{reply_line}
use Rattle.script_service.specs.declared.actor.Heard.{Heard}
use Rattle.script_service.specs.Writing.{line_text, lines_text}
use Rattle.script_service.specs.Actors.{heard_in, line_at}

lines_more : (names : List (List ℕ)) (phase : List Line) (part : List Heard) (i : ℕ) (heard : Heard) → i < length part →
    lines_text names (map (heard_in phase) (take (i + 1) part)) ≡ lines_text names (map (heard_in phase) (take i part)) ++ line_text names (heard_in phase (get_or part i heard))
lines_more names phase part i heard below =
    ap (λ (l : List Heard). lines_text names (map (heard_in phase) l)) (take_more part i heard below) ∙
    ap (lines_text names) (map-append (heard_in phase) (take i part) (get_or part i heard ∷ [])) ∙
    flat_map-append (line_text names) (map (heard_in phase) (take i part)) (heard_in phase (get_or part i heard) ∷ []) ∙
    ap (λ (l : List ℕ). lines_text names (map (heard_in phase) (take i part)) ++ l) (append-nil (line_text names (heard_in phase (get_or part i heard))))

-- the line of a reply, by what was read for it
line_is : (names : List (List ℕ)) (phase : List Line) (heard : Heard) (line : Line) (name : List ℕ) →
    line_at phase heard.place ≡ line → get_or names line.actor [] ≡ name →
    reply_line name line.number heard.told.at heard.told.reply ≡ line_text names (heard_in phase heard)
line_is names phase heard line name read named = rw (read, named) refl

-- one line more
pub line_more : (names : List (List ℕ)) (phase : List Line) (part : List Heard) (i : ℕ) (heard : Heard) (line : Line) (name : List ℕ) (old text new : List ℕ) →
    i < length part → heard ≡ get_or part i heard → All (λ (h : Heard). h.place < length phase) part → line ≡ get_or phase heard.place line → slice_get names line.actor ≡ Some name →
    text ≡ old ++ lines_text names (map (heard_in phase) (take i part)) → new ≡ text ++ reply_line name line.number heard.told.at heard.told.reply →
    new ≡ old ++ lines_text names (map (heard_in phase) (take (i + 1) part))
line_more names phase part i heard line name old text new below heard_is all line_read named so_far more =
    let before = lines_text names (map (heard_in phase) (take i part)) in
    let there : heard.place < length phase = subst (λ (h : Heard). h.place < length phase) (sym heard_is) (all i heard below) in
    let read : line_at phase heard.place ≡ line = sym (get_or_read phase heard.place line there line_read _) in
    let own = line_is names phase heard line name read (get_or_from_slice_get names line.actor name [] named) in
    more ∙ ap (λ (l : List ℕ). l ++ reply_line name line.number heard.told.at heard.told.reply) so_far ∙
    append_assoc old before (reply_line name line.number heard.told.at heard.told.reply) ∙
    ap (λ (l : List ℕ). old ++ (before ++ l)) (own ∙ ap (λ (h : Heard). line_text names (heard_in phase h)) heard_is) ∙
    ap (λ (l : List ℕ). old ++ l) (sym (lines_more names phase part i heard below))
