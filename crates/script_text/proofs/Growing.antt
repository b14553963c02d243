-- What stays true when a line adds a profile, an actor or a command.
use Rattle.std.proofs.Common.{◌⊎◌, inl, inr, subst, slice_index, zero, suc, ◌≡◌, ◌≢◌, ◌∙◌, ℕ, ◌+◌, ◌<◌, ◌≤◌, Bool, true, false, cond, List, [], ◌∷◌, ◌++◌, take, length, get_or, Option, Some, None, eqb, ltb, refl, ap, sym, arith, append_assoc, length-append}
use Rattle.std.specs.Prelude.{Result, Ok, Err, OnOk, All, IsTrue, IfSome, position, if◌then◌else◌, ◌==◌}
use Rattle.std.specs.List.{position_or_len}
use Rattle.std.specs.Str.{bytes_eq}
use Rattle.std.proofs.lemmas.Bool.{eq-eqb, ne_eqb}
use Rattle.std.proofs.lemmas.Bool.Decides.{nat_tests}
use Rattle.std.proofs.lemmas.List.Sums.{fails_before_first}
use Rattle.std.proofs.lemmas.List.Elements.{All-push, All-nil}
use Rattle.std.proofs.lemmas.List.Quantifiers.{all_pairs_push}
use Rattle.std.proofs.lemmas.List.{take-append-le, get_or_append_left, append-nil}
use Rattle.std.proofs.Math.Seq.{take-append_seam, get_or-append_seam}
use Rattle.weighting.specs.declared.profile.Profile.{Profile}
use Rattle.script_text.specs.declared.line.Said.TheVariants as said
use Rattle.script_text.specs.declared.script.Command.{Command}
use Rattle.script_text.specs.declared.script.Line.{Line}
use Rattle.script_text.specs.declared.so_far.SoFar.{SoFar}
use Rattle.script_text.specs.declared.so_far.Tally.{Tally}
use Rattle.script_text.specs.Commands.{with_default, place_in}
use Rattle.script_text.specs.Headers.{actor_in}
use Rattle.script_text.specs.Grammar.{nothing}
use Rattle.script_text.specs.Lines.{all_lines, with_said}
use Rattle.script_text.specs.Names.{is_name}
use Rattle.script_text.specs.Scripts.{IsLine, IsProfile, AreProfiles, AreActors, AreLines, AreNumbered, lines_of, turns_of, changes_in, is_change}
use Rattle.script_text.specs.States.{IsSoFar, IsTally, IsSaid, Counts}

past : (b : Bool) (n : ℕ) → cond b (Some n) None ≡ None → b ≡ false
past true n h = cc
past false n h = refl

-- what is not found stands nowhere
none_found : {X : Type 0} (p : X → Bool) (xs : List X) → position p xs ≡ None → All (λ x. p x ≡ false) xs
none_found p xs h =
    let end : ltb (position_or_len p xs) (length xs) ≡ false = past _ _ h in
    λ k d lt. fails_before_first p xs k d (grind (arith, nat_tests))

profiles_grow : (ps : List Profile) (p : Profile) → AreProfiles ps → length ps < 8 → IsProfile p → place_in ps p.name ≡ None → AreProfiles (ps ++ p ∷ [])
profiles_grow ps p h room is new = record {
  few = omega (arith, length-append ps (p ∷ []));
  each = All-push IsProfile ps p h.each is;
  different = all_pairs_push (λ a b. bytes_eq a.name b.name ≡ false) ps p h.different (none_found _ ps new);
}

actors_grow : (names : List (List ℕ)) (name : List ℕ) → AreActors names → length names < 16 → IsTrue (is_name name) → actor_in names name ≡ None → AreActors (names ++ name ∷ [])
actors_grow names name h room is new = record {
  few = omega (arith, length-append names (name ∷ []));
  each = All-push (λ n. IsTrue (is_name n)) names name h.each is;
  different = all_pairs_push (λ a b. bytes_eq a b ≡ false) names name h.different (none_found _ names new);
}

no_lines : (profiles actors : ℕ) → AreLines profiles actors []
no_lines profiles actors = record { few = omega arith; each = All-nil _; numbered = λ k d lt. absurd (omega arith) }

-- a line behind others
turns_more : (actor : ℕ) (lines : List Line) (line : Line) → turns_of actor (lines ++ line ∷ []) ≡ turns_of actor lines + (if line.actor == actor then 1 else 0)
turns_more actor [] line = omega arith
turns_more actor (l ∷ lines) line = let e = turns_more actor lines line in omega (arith, e)

changes_more : (lines : List Line) (line : Line) → changes_in (lines ++ line ∷ []) ≡ changes_in lines + (if is_change line.command then 1 else 0)
changes_more [] line = omega arith
changes_more (l ∷ lines) line = let e = changes_more lines line in omega (arith, e)

at_most_one : (b : Bool) → (if b then 1 else 0) ≤ 1
at_most_one true = omega arith
at_most_one false = omega arith

pub turns_are_few : (actor : ℕ) (lines : List Line) → turns_of actor lines ≤ length lines
turns_are_few actor [] = omega arith
turns_are_few actor (l ∷ lines) = omega (arith, turns_are_few actor lines, at_most_one (l.actor == actor))

pub changes_are_few : (lines : List Line) → changes_in lines ≤ length lines
changes_are_few [] = omega arith
changes_are_few (l ∷ lines) = omega (arith, changes_are_few lines, at_most_one (is_change l.command))

numbered_at : (lines : List Line) (line : Line) → AreNumbered lines → line.number ≡ turns_of line.actor lines + 1 → (k : ℕ) (d : Line) → (k < length lines) ⊎ (k ≡ length lines) → (get_or (lines ++ line ∷ []) k d).number ≡ turns_of (get_or (lines ++ line ∷ []) k d).actor (take k (lines ++ line ∷ [])) + 1
numbered_at lines line h number k d (inl below) = rw (get_or_append_left lines (line ∷ []) d k below, take-append-le k lines (line ∷ []) (omega arith)) (h k d below)
numbered_at lines line h number k d (inr at) = rw (at, get_or-append_seam lines line [] d, take-append_seam lines (line ∷ [])) number

below_or_at : (k n : ℕ) → k < n + 1 → (k < n) ⊎ (k ≡ n)
below_or_at k n lt = grind arith

numbered_more : (lines : List Line) (line : Line) → AreNumbered lines → line.number ≡ turns_of line.actor lines + 1 → AreNumbered (lines ++ line ∷ [])
numbered_more lines line h number k d lt = numbered_at lines line h number k d (below_or_at k (length lines) (omega (arith, length-append lines (line ∷ []))))

lines_grow : (profiles actors : ℕ) (lines : List Line) (line : Line) → AreLines profiles actors lines → length lines < 65536 → IsLine profiles actors line → line.number ≡ turns_of line.actor lines + 1 → AreLines profiles actors (lines ++ line ∷ [])
lines_grow profiles actors lines line h room is number = record {
  few = omega (arith, length-append lines (line ∷ []));
  each = All-push (IsLine profiles actors) lines line h.each is;
  numbered = numbered_more lines line h.numbered number;
}

-- a phase that ends keeps its lines
pub phases_more : (done : List (List Line)) (phase : List Line) → lines_of (done ++ phase ∷ []) ≡ lines_of done ++ phase
phases_more [] phase = append-nil phase
phases_more (p ∷ done) phase = ap (λ l. p ++ l) (phases_more done phase) ∙ sym (append_assoc p (lines_of done) phase)

pub one_more_profile : (s : SoFar) (p : Profile) → IsSoFar s → IsSaid s (said.Profile p) → IsSoFar (with_said s (said.Profile p))
one_more_profile s p h is = record {
  profiles_are = profiles_grow s.profiles p h.profiles_are is.0 is.1.0 is.1.1.0;
  actors = h.actors;
  capacity = h.capacity;
  lines = subst (λ (ls : List Line). AreLines (length (with_default (s.profiles ++ p ∷ []))) (length s.actors) ls) (sym is.1.1.1) (no_lines _ _);
}

pub one_more_actor : (s : SoFar) (a : List ℕ) → IsSoFar s → IsSaid s (said.Actor a) → IsSoFar (with_said s (said.Actor a))
one_more_actor s a h is = record {
  profiles_are = h.profiles_are;
  actors = actors_grow s.actors a h.actors is.0 is.1.0 is.1.1.0;
  capacity = h.capacity;
  lines = subst (λ (ls : List Line). AreLines (length (with_default s.profiles)) (length (s.actors ++ a ∷ [])) ls) (sym is.1.1.1) (no_lines _ _);
}

same_lines : (s : SoFar) → all_lines (with_said s said.Sync) ≡ all_lines s
same_lines s = append-nil (lines_of (s.done ++ s.phase ∷ [])) ∙ phases_more s.done s.phase

pub one_more_phase : (s : SoFar) → IsSoFar s → IsSoFar (with_said s said.Sync)
one_more_phase s h = record {
  profiles_are = h.profiles_are;
  actors = h.actors;
  capacity = h.capacity;
  lines = subst (λ (ls : List Line). AreLines (length (with_default s.profiles)) (length s.actors) ls) (sym (same_lines s)) h.lines;
}

phase_keeps_tally : (s : SoFar) (t : Tally) → IsTally s t → IsTally (with_said s said.Sync) t
phase_keeps_tally s t h = record {
  commands = h.commands ∙ ap length (sym (same_lines s));
  changes = h.changes ∙ ap changes_in (sym (same_lines s));
  numbers = λ k lt. h.numbers k lt ∙ ap (turns_of k) (sym (same_lines s));
}

-- where a phase was ended
pub ended_keeps_tally : {X Y : Type 0} (result : Result X Y) (s new : SoFar) (t : Tally) → OnOk result (new ≡ with_said s said.Sync) → IsTally s t → OnOk result (IsTally new t)
ended_keeps_tally (Ok x) s new t e h = subst (λ (z : SoFar). IsTally z t) (sym e) (phase_keeps_tally s t h)
ended_keeps_tally (Err y) s new t e h = tt

-- the line of a command
abbrev pub line_with : SoFar → ℕ → Command → Line
line_with s a c = record { actor = a; number = turns_of a (all_lines s) + 1; command = c }

line_behind : (s : SoFar) (a : ℕ) (c : Command) → all_lines (with_said s (said.Command a c)) ≡ all_lines s ++ line_with s a c ∷ []
line_behind s a c = sym (append_assoc (lines_of s.done) s.phase (line_with s a c ∷ []))

pub one_more_command : (s : SoFar) (a : ℕ) (c : Command) → IsSoFar s → IsSaid s (said.Command a c) → IsSoFar (with_said s (said.Command a c))
one_more_command s a c h is = record {
  profiles_are = h.profiles_are;
  actors = h.actors;
  capacity = h.capacity;
  lines = subst (λ (ls : List Line). AreLines (length (with_default s.profiles)) (length s.actors) ls) (sym (line_behind s a c)) (lines_grow _ _ (all_lines s) (line_with s a c) h.lines is.0 (record { actor = is.1.0; command = is.1.1 }) refl);
}

own_or_other : (k a : ℕ) → (k ≡ a) ⊎ (k ≢ a)
own_or_other k a = grind arith

tally_at : (s : SoFar) (t u : Tally) (a : ℕ) (c : Command) → IsTally s t → Counts t u a (is_change c) → a < 16 → (k : ℕ) → k < 16 → (k ≡ a) ⊎ (k ≢ a) → slice_index u.numbers k ≡ turns_of k (all_lines s) + (if a == k then 1 else 0)
tally_at s t u a c h counts lt k below (inl own) = rw (own, eq-eqb a a refl, counts.own, h.numbers a lt) refl
tally_at s t u a c h counts lt k below (inr other) = rw (ne_eqb a k (λ e. other (sym e)), counts.others k below other, h.numbers k below) (omega arith)

pub command_counts : (s : SoFar) (t u : Tally) (a : ℕ) (c : Command) → IsTally s t → Counts t u a (is_change c) → a < 16 → IsTally (with_said s (said.Command a c)) u
command_counts s t u a c h counts lt = record {
  commands = rw (line_behind s a c, length-append (all_lines s) (line_with s a c ∷ []), counts.commands, h.commands) refl;
  changes = rw (line_behind s a c, changes_more (all_lines s) (line_with s a c), counts.changes, h.changes) refl;
  numbers = λ k below. rw (line_behind s a c, turns_more k (all_lines s) (line_with s a c)) (tally_at s t u a c h counts lt k below (own_or_other k a));
}

pub nothing_is_sound : IsSoFar nothing
nothing_is_sound = record {
  profiles_are = record { few = omega arith; each = All-nil _; different = λ i j d lt below. absurd (omega arith) };
  actors = record { few = omega arith; each = All-nil _; different = λ i j d lt below. absurd (omega arith) };
  capacity = tt;
  lines = no_lines _ _;
}
