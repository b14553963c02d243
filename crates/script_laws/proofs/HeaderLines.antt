-- Written header lines are read again.
use Rattle.std.proofs.Common.{◌≡◌, ◌∙◌, ℕ, ◌+◌, ◌<◌, ◌≤◌, List, [], ◌∷◌, ◌++◌, length, Bool, true, false, ltb, Option, Some, None, Ok, IsTrue, refl, ap, arith}
use Rattle.std.specs.Prelude.{codes, decimal}
use Rattle.std.proofs.lemmas.Bool.Decides.{nat_tests}
use Rattle.gh_base.specs.declared.query.Vehicle.{Vehicle}
use Rattle.gh_base.specs.declared.query.Vehicle.TheVariants.{Car, Bike, Foot}
use Rattle.model_eval.specs.Models.{no_model}
use Rattle.weighting.specs.declared.profile.Profile.{Profile}
use Rattle.plain_map.proofs.Splits.{Each}
use Rattle.script_text.specs.declared.line.Said.TheVariants as said
use Rattle.script_text.specs.declared.so_far.SoFar.{SoFar}
use Rattle.script_text.specs.Commands.{place_in}
use Rattle.script_text.specs.Headers.{actor_in, profile_line, journal_line, actor_line}
use Rattle.script_text.specs.Lines.{line_at, header_room, said_in, profile_said, journal_said, actor_said, value_of}
use Rattle.script_text.specs.Names.{is_name}
use Rattle.script_laws.specs.Writing.{spaced, vehicle_word}
use Rattle.script_laws.proofs.Words.{IsGraphic, no_space, word_utf8, one_word, word_graphic, is_valid}
use Rattle.script_laws.proofs.Numbers.{decimal_graphic, count_again}
use Rattle.script_laws.proofs.Names.{IsWord, word_of}
use Rattle.script_laws.proofs.CommandLines.{by_words}

pub vehicle_graphic : (vehicle : Vehicle) → Each IsGraphic (vehicle_word vehicle)
vehicle_graphic Car = word_graphic (codes "car") refl
vehicle_graphic Bike = word_graphic (codes "bike") refl
vehicle_graphic Foot = word_graphic (codes "foot") refl

module _ (s : SoFar) (done : s.done ≡ []) (phase : s.phase ≡ []) where
  profile_in : (name : List ℕ) (vehicle : Vehicle) → IsWord name → place_in s.profiles name ≡ None → length s.profiles < 8 →
      value_of (said_in s (0, codes "profile" ∷ name ∷ vehicle_word vehicle ∷ [])) ≡ Ok (said.Profile (record { name = name; vehicle = vehicle; model = no_model }))
  unfolding said_in profile_said header_room profile_line
  profile_in name Car w new few = let room : ltb (length s.profiles) 8 ≡ true = grind (arith, nat_tests) in rw (done, phase, room, w.is, new) refl
  profile_in name Bike w new few = let room : ltb (length s.profiles) 8 ≡ true = grind (arith, nat_tests) in rw (done, phase, room, w.is, new) refl
  profile_in name Foot w new few = let room : ltb (length s.profiles) 8 ≡ true = grind (arith, nat_tests) in rw (done, phase, room, w.is, new) refl

  pub profile_line_again : (name : List ℕ) (vehicle : Vehicle) → IsTrue (is_name name) → place_in s.profiles name ≡ None → length s.profiles < 8 →
      line_at s (spaced (codes "profile" ∷ name ∷ vehicle_word vehicle ∷ [])) ≡ Ok (said.Profile (record { name = name; vehicle = vehicle; model = no_model }))
  profile_line_again name vehicle h new few =
      let w = word_of name h in
      let g = vehicle_graphic vehicle in
      by_words s (codes "profile") (name ∷ []) (vehicle_word vehicle) _ refl (word_graphic (codes "profile") refl, (w.graphic, tt)) (word_utf8 (vehicle_word vehicle) g)
      (rw (one_word (vehicle_word vehicle) (no_space (vehicle_word vehicle) g)) (profile_in name vehicle w new few))

  journal_in : (entries : ℕ) → s.journal ≡ None → 1 ≤ entries → entries ≤ 65536 → value_of (said_in s (0, codes "journal" ∷ decimal entries ∷ [])) ≡ Ok (said.Journal entries)
  unfolding said_in journal_said journal_line
  journal_in entries none low high = rw (done, phase, none, count_again 1 65536 entries low high (omega arith)) refl

  pub journal_line_again : (entries : ℕ) → s.journal ≡ None → 1 ≤ entries → entries ≤ 65536 → line_at s (spaced (codes "journal" ∷ decimal entries ∷ [])) ≡ Ok (said.Journal entries)
  journal_line_again entries none low high =
      let g = decimal_graphic entries (omega arith) in
      by_words s (codes "journal") [] (decimal entries) _ refl (word_graphic (codes "journal") refl, tt) (word_utf8 (decimal entries) g)
      (rw (one_word (decimal entries) (no_space (decimal entries) g)) (journal_in entries none low high))

  actor_said_again : (name : List ℕ) → IsWord name → actor_in s.actors name ≡ None → length s.actors < 16 → value_of (said_in s (0, codes "actor" ∷ name ∷ [])) ≡ Ok (said.Actor name)
  unfolding said_in actor_said header_room actor_line
  actor_said_again name w new few = let room : ltb (length s.actors) 16 ≡ true = grind (arith, nat_tests) in rw (done, phase, room, w.is, new) refl

  pub actor_line_again : (name : List ℕ) → IsTrue (is_name name) → actor_in s.actors name ≡ None → length s.actors < 16 → line_at s (spaced (codes "actor" ∷ name ∷ [])) ≡ Ok (said.Actor name)
  actor_line_again name h new few =
      let w = word_of name h in
      by_words s (codes "actor") [] name _ refl (word_graphic (codes "actor") refl, tt) (word_utf8 name w.graphic)
      (rw (one_word name (no_space name w.graphic)) (actor_said_again name w new few))

pub sync_line_again : (s : SoFar) → line_at s (codes "sync") ≡ Ok said.Sync
unfolding line_at said_in
sync_line_again s = rw (is_valid (codes "sync") (word_utf8 (codes "sync") (word_graphic (codes "sync") refl))) refl
