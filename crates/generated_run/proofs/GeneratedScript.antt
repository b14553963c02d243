-- The script of a size is one that could have been read.
use Rattle.std.proofs.Common.{◌≡◌, ◌∙◌, ℕ, zero, suc, ◌+◌, ◌<◌, Bool, true, false, List, [], ◌∷◌, ◌++◌, length, get_or, map, take, All, ap, sym, subst, refl, arith, append_assoc, append-nil, eqb-true}
use Rattle.std.specs.Prelude.{◌&&◌, ◌==◌, IsTrue}
use Rattle.std.specs.List.{range_with_len}
use Rattle.std.specs.Str.{bytes_eq}
use Rattle.std.proofs.lemmas.List.Elements.{All-append, All-nil}
use Rattle.std.proofs.lemmas.List.FromFn.{length-map-range_with_len, get_or-map-range_with_len}
use Rattle.script_text.specs.declared.script.Line.{Line}
use Rattle.script_text.specs.Names.{is_name}
use Rattle.script_text.specs.Scripts.{AreActors, AreNumbered, IsLine, IsScript, lines_of, turns_of}
use Rattle.generated_run.specs.Scripts.{lowering_at, names, phases_of, preparing, profiles, publishing, route_at, script_of}
use Rattle.script_text.proofs.Models.{default_profile}

-- lines behind others, each with the number that it has there
abbrev go_on : List Line → List Line → Bool
go_on before [] = true
go_on before (line ∷ lines) = (line.number == turns_of line.actor before + 1) && go_on (before ++ line ∷ []) lines

both : (a b : Bool) → (a && b) ≡ true → (a ≡ true) × (b ≡ true)
both true b is = (refl, is)
both false b is = absurd (let e : false ≡ true = is in cc)

numbered_behind : (before lines : List Line) → go_on before lines ≡ true → (k : ℕ) (d : Line) → k < length lines →
    (get_or lines k d).number ≡ turns_of (get_or lines k d).actor (before ++ take k lines) + 1
numbered_behind before [] test k d lt = absurd (omega arith)
numbered_behind before (line ∷ lines) test zero d lt =
    let parts = both (line.number == turns_of line.actor before + 1) (go_on (before ++ line ∷ []) lines) test in
    eqb-true line.number (turns_of line.actor before + 1) parts.0 ∙ ap (λ (l : List Line). turns_of line.actor l + 1) (sym (append-nil before))
numbered_behind before (line ∷ lines) test (suc k) d lt =
    let parts = both (line.number == turns_of line.actor before + 1) (go_on (before ++ line ∷ []) lines) test in
    numbered_behind (before ++ line ∷ []) lines parts.1 k d (omega arith) ∙ ap (λ (l : List Line). turns_of (get_or lines k d).actor l + 1) (append_assoc before (line ∷ []) (take k lines))

lines_numbered : (size edges : ℕ) → AreNumbered (lines_of (phases_of size edges))
lines_numbered size edges = numbered_behind [] (lines_of (phases_of size edges)) refl

-- a fact of each line of a range
each_of : (P : Line → Type 0) (f : ℕ → Line) (n : ℕ) → ((k : ℕ) → k < n → P (f k)) → All P (map f (range_with_len 0 n))
each_of P f n each k d h =
    let below : k < n = omega (arith, length-map-range_with_len f 0 n) in
    subst P (sym (get_or-map-range_with_len f 0 n k k d below (omega arith))) (each k below)

one_of : (P : Line → Type 0) (line : Line) (lines : List Line) → P line → All P lines → All P (line ∷ lines)
one_of P line lines is each zero d h = is
one_of P line lines is each (suc k) d h = each k d (omega arith)

each_line : (size edges : ℕ) → All (IsLine 1 6) (lines_of (phases_of size edges))
each_line size edges =
    let P : Line → Type 0 = IsLine 1 6 in
    let lowerings = each_of P (lowering_at size edges) 8 (λ k h. record { actor = omega arith; command = tt }) in
    let routes = each_of P (route_at size) 16 (λ k h. record { actor = omega arith; command = (tt, tt) }) in
    let prepare : P preparing = record { actor = omega arith; command = (omega arith, (omega arith, omega arith)) } in
    let publish : P publishing = record { actor = omega arith; command = omega arith } in
    let first : List Line = map (lowering_at size edges) (range_with_len 0 8) in
    let last : List Line = map (route_at size) (range_with_len 0 16) ++ [] in
    All-append P (preparing ∷ first) (publishing ∷ last) (one_of P preparing first prepare lowerings)
    (one_of P publishing last publish (All-append P (map (route_at size) (range_with_len 0 16)) [] routes (All-nil P)))

abbrev IsName : List ℕ → Type 0
IsName name = IsTrue (is_name name)

actors_differ : (i j : ℕ) (d : List ℕ) → i < j → j < 6 → bytes_eq (get_or names i d) (get_or names j d) ≡ false
actors_differ i zero d lt below = absurd (omega arith)
actors_differ zero (suc zero) d lt below = refl
actors_differ zero (suc (suc zero)) d lt below = refl
actors_differ zero (suc (suc (suc zero))) d lt below = refl
actors_differ zero (suc (suc (suc (suc zero)))) d lt below = refl
actors_differ zero (suc (suc (suc (suc (suc zero))))) d lt below = refl
actors_differ (suc zero) (suc (suc zero)) d lt below = refl
actors_differ (suc zero) (suc (suc (suc zero))) d lt below = refl
actors_differ (suc zero) (suc (suc (suc (suc zero)))) d lt below = refl
actors_differ (suc zero) (suc (suc (suc (suc (suc zero))))) d lt below = refl
actors_differ (suc (suc zero)) (suc (suc (suc zero))) d lt below = refl
actors_differ (suc (suc zero)) (suc (suc (suc (suc zero)))) d lt below = refl
actors_differ (suc (suc zero)) (suc (suc (suc (suc (suc zero))))) d lt below = refl
actors_differ (suc (suc (suc zero))) (suc (suc (suc (suc zero)))) d lt below = refl
actors_differ (suc (suc (suc zero))) (suc (suc (suc (suc (suc zero))))) d lt below = refl
actors_differ (suc (suc (suc (suc zero)))) (suc (suc (suc (suc (suc zero))))) d lt below = refl
actors_differ i (suc j) d lt below = absurd (omega arith)

each_name : All IsName names
unfolding is_name
each_name zero d lt = refl
each_name (suc zero) d lt = refl
each_name (suc (suc zero)) d lt = refl
each_name (suc (suc (suc zero))) d lt = refl
each_name (suc (suc (suc (suc zero)))) d lt = refl
each_name (suc (suc (suc (suc (suc zero))))) d lt = refl
each_name (suc (suc (suc (suc (suc (suc k)))))) d lt = absurd (omega arith)

are_actors : AreActors names
are_actors = record { few = omega arith; each = each_name; different = actors_differ }

pub script_is_script : (size edges : ℕ) → IsScript profiles (script_of size edges)
unfolding script_of
script_is_script size edges = record {
  some = omega arith;
  profiles_are = default_profile;
  actors = are_actors;
  capacity = record { some = omega arith; few = omega arith };
  lines = record { few = omega arith; each = each_line size edges; numbered = lines_numbered size edges };
}
