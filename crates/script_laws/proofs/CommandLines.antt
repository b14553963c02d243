-- Written commands are read again.
use Rattle.std.proofs.Common.{◌≡◌, ◌∙◌, ℕ, ◌+◌, ◌^◌, ◌<◌, ◌≤◌, List, [], ◌∷◌, ◌++◌, length, Bool, true, false, eqb, ltb, Option, Some, None, Result, Ok, Err, IsUtf8, IsTrue, refl, ap, sym, subst, arith}
use Rattle.std.specs.Prelude.{codes, decimal, slice_get, All}
use Rattle.std.specs.List.{join_with_byte}
use Rattle.std.proofs.lemmas.Bool.Decides.{nat_tests}
use Rattle.std.proofs.lemmas.Option.{slice_get_within, get_or_from_slice_get}
use Rattle.std.proofs.lemmas.List.Splits.{join_with_byte-slice_split}
use Rattle.gh_base.specs.Parts.{parts_of}
use Rattle.gh_base.specs.declared.kinds.ScriptKind.{ScriptKind}
use Rattle.gh_base.specs.declared.query.Place.{Place}
use Rattle.weighting.specs.declared.profile.Profile.{Profile}
use Rattle.weighting.specs.Profiles.{profile_at}
use Rattle.plain_map.proofs.Splits.{Each, Without}
use Rattle.plain_map.proofs.PrintedWords.{AllItems}
use Rattle.script_text.specs.declared.line.Said.{Said}
use Rattle.script_text.specs.declared.line.Said.TheVariants as said
use Rattle.script_text.specs.declared.script.Command.{Command}
use Rattle.script_text.specs.declared.script.Command.TheVariants as command
use Rattle.script_text.specs.declared.so_far.SoFar.{SoFar}
use Rattle.script_text.specs.Commands.{with_default, text_of, profile_in, model, route, lower, restore, prepare, publish, command_of}
use Rattle.script_text.specs.LineReading.{Outcome, Reader, Rest, and_then, pure, rest_of}
use Rattle.script_text.specs.Lines.{all_lines, line_at, said_in, command_said, value_of, is_passed}
use Rattle.script_text.specs.Names.{is_name}
use Rattle.script_text.specs.Scripts.{AreProfiles, AreActors}
use Rattle.script_laws.specs.Writing.{spaced, place_word, edge_word, speed_word, called, command_words, IsSayable, IsSayablePlace, IsSayableLimit}
use Rattle.script_laws.proofs.Words.{IsGraphic, no_space, word_utf8, parted, one_word, spaced_utf8, is_valid, word_graphic}
use Rattle.script_laws.proofs.Numbers.{letter, decimal_graphic, edge_graphic, speed_graphic, place_graphic, edge_again, speed_again, place_again, count_again}
use Rattle.script_laws.proofs.Names.{IsWord, word_of, actor_found, profile_found}

-- ---- the words of each command

route_again : (profiles : List Profile) (at : ℕ) (start target : Place) → IsSayablePlace start → IsSayablePlace target → value_of (command_of profiles (at, codes "route" ∷ place_word start ∷ place_word target ∷ [])) ≡ Ok (command.Route start target false)
unfolding command_of route
route_again profiles at start target h k = rw (place_again start h, place_again target k) refl

labels_again : (profiles : List Profile) (at : ℕ) (start target : Place) → IsSayablePlace start → IsSayablePlace target → value_of (command_of profiles (at, codes "labels" ∷ place_word start ∷ place_word target ∷ [])) ≡ Ok (command.Route start target true)
unfolding command_of route
labels_again profiles at start target h k = rw (place_again start h, place_again target k) refl

lower_again : (profiles : List Profile) (at edge : ℕ) (reverse : Bool) (speed : ℕ) → IsSayableLimit edge speed → value_of (command_of profiles (at, codes "lower" ∷ edge_word edge reverse ∷ speed_word speed ∷ [])) ≡ Ok (command.Lower edge reverse speed)
unfolding command_of lower
lower_again profiles at edge reverse speed h = rw (edge_again edge reverse h.0, speed_again speed h.1) refl

restore_again : (profiles : List Profile) (at edge : ℕ) (reverse : Bool) (speed : ℕ) → IsSayableLimit edge speed → value_of (command_of profiles (at, codes "restore" ∷ edge_word edge reverse ∷ speed_word speed ∷ [])) ≡ Ok (command.Restore edge reverse speed)
unfolding command_of restore
restore_again profiles at edge reverse speed h = rw (edge_again edge reverse h.0, speed_again speed h.1) refl

module _ (profiles : List Profile) (are : AreProfiles profiles) (k : ℕ) (there : k < length profiles) where
  pub profile_word : IsWord (called profiles k)
  profile_word = word_of (called profiles k) (are.each k (profile_at [] 0) there).name

  profile_again : (at : ℕ) (words : List (List ℕ)) → profile_in profiles (at, called profiles k ∷ words) ≡ Ok (k, (at + length (called profiles k) + 1, words))
  unfolding profile_in
  profile_again at words = rw (profile_word.is, profile_found profiles k are.different there) refl

  prepare_again : (at count : ℕ) → 1 ≤ count → count ≤ 16 → value_of (command_of profiles (at, codes "prepare" ∷ called profiles k ∷ decimal count ∷ [])) ≡ Ok (command.Prepare k count)
  unfolding command_of prepare
  prepare_again at count low high = rw (profile_again (at + 7 + 1) (decimal count ∷ []), count_again 1 16 count low high (omega arith)) refl

  publish_again : (at : ℕ) → value_of (command_of profiles (at, codes "publish" ∷ called profiles k ∷ [])) ≡ Ok (command.Publish k)
  unfolding command_of publish
  publish_again at = rw (profile_again (at + 7 + 1) []) refl

  rest_text : (at : ℕ) (words : List (List ℕ)) → text_of (rest_of at words) ≡ join_with_byte 32 words
  rest_text at [] = refl
  rest_text at (word ∷ words) = refl

  model_again : (at : ℕ) (words : List (List ℕ)) → value_of (command_of profiles (at, codes "model" ∷ called profiles k ∷ words)) ≡ Ok (command.Model k (join_with_byte 32 words))
  unfolding command_of model
  model_again at words = rw (profile_again (at + 5 + 1) words) (ap (λ (t : List ℕ). Ok (command.Model k t)) (rest_text _ words))

-- ---- the line

then_said : (actor : ℕ) (o : Outcome Command) (c : Command) → value_of o ≡ Ok c → value_of (and_then o (λ x. pure (said.Command actor x))) ≡ Ok (said.Command actor c)
then_said actor (Ok p) c e = let same : p.0 ≡ c = cc in rw same refl
then_said actor (Err x) c e = cc

named : (xs : List (List ℕ)) (k : ℕ) (x : List ℕ) → slice_get xs k ≡ Some x → All (λ n. IsTrue (is_name n)) xs → IsTrue (is_name x)
named xs k x e all = subst (λ (n : List ℕ). IsTrue (is_name n)) (get_or_from_slice_get xs k x [] e) (all k [] (slice_get_within xs k x e))

front_passed : (n rest : List ℕ) → is_passed n ≡ false → is_passed (n ++ rest) ≡ false
front_passed [] rest e = cc
front_passed (b ∷ n) rest e = e

pub not_passed : (first : List ℕ) (words : List (List ℕ)) → is_passed first ≡ false → is_passed (spaced (first ∷ words)) ≡ false
not_passed first [] e = e
not_passed first (word ∷ words) e = front_passed first (32 ∷ spaced (word ∷ words)) e

pub all_utf8 : (words : List (List ℕ)) (last : List ℕ) → AllItems (Each IsGraphic) words → IsUtf8 last → AllItems IsUtf8 (words ++ last ∷ [])
all_utf8 [] last h k = (k, tt)
all_utf8 (word ∷ words) last h k = (word_utf8 word h.0, all_utf8 words last h.1 k)

pub no_spaces : (words : List (List ℕ)) → AllItems (Each IsGraphic) words → AllItems (Without 32) words
no_spaces [] h = tt
no_spaces (word ∷ words) h = (no_space word h.0, no_spaces words h.1)

-- a line is read by its words
pub by_words : (s : SoFar) (first : List ℕ) (words : List (List ℕ)) (last : List ℕ) (said : Result Said (ℕ × ScriptKind)) → is_passed first ≡ false → AllItems (Each IsGraphic) (first ∷ words) → IsUtf8 last →
    value_of (said_in s (0, first ∷ (words ++ parts_of 32 last))) ≡ said → line_at s (spaced (first ∷ (words ++ last ∷ []))) ≡ said
unfolding line_at
by_words s first words last said some graphic utf8 e =
    rw (not_passed first (words ++ last ∷ []) some, is_valid (spaced (first ∷ (words ++ last ∷ []))) (spaced_utf8 (first ∷ (words ++ last ∷ [])) (all_utf8 (first ∷ words) last graphic utf8)), parted (first ∷ words) last (no_spaces (first ∷ words) graphic)) e

module _ (s : SoFar) (actor : ℕ) (name : List ℕ) (actors : AreActors s.actors) (at : slice_get s.actors actor ≡ Some name) (few : length (all_lines s) < 65536) where
  name_word : IsWord name
  name_word = word_of name (named s.actors actor name at actors.each)

  command_in : (words : List (List ℕ)) (c : Command) → value_of (command_of (with_default s.profiles) (0 + length name + 1, words)) ≡ Ok c → value_of (said_in s (0, name ∷ words)) ≡ Ok (said.Command actor c)
  unfolding said_in command_said
  command_in words c e =
      let room : ltb (length (all_lines s)) 65536 ≡ true = grind (arith, nat_tests) in
      rw (name_word.not_profile, name_word.not_journal, name_word.not_actor, name_word.not_sync, actor_found s.actors actor name actors.different at, room) (then_said actor (command_of (with_default s.profiles) (0 + length name + 1, words)) c e)

  line_said : (words : List (List ℕ)) (last : List ℕ) (c : Command) → AllItems (Each IsGraphic) words → IsUtf8 last →
      value_of (command_of (with_default s.profiles) (0 + length name + 1, words ++ parts_of 32 last)) ≡ Ok c → line_at s (spaced (name ∷ (words ++ last ∷ []))) ≡ Ok (said.Command actor c)
  line_said words last c graphic utf8 e =
      by_words s name words last (Ok (said.Command actor c)) name_word.not_passed (name_word.graphic, graphic) utf8 (command_in (words ++ parts_of 32 last) c e)

  -- the last word has no space
  words_said : (words : List (List ℕ)) (last : List ℕ) (c : Command) → AllItems (Each IsGraphic) words → Each IsGraphic last →
      value_of (command_of (with_default s.profiles) (0 + length name + 1, words ++ last ∷ [])) ≡ Ok c → line_at s (spaced (name ∷ (words ++ last ∷ []))) ≡ Ok (said.Command actor c)
  words_said words last c graphic h e =
      line_said words last c graphic (word_utf8 last h) (rw (one_word last (no_space last h)) e)

  pub command_line_again : (c : Command) → AreProfiles (with_default s.profiles) → IsSayable (length (with_default s.profiles)) c → line_at s (spaced (name ∷ command_words (with_default s.profiles) c)) ≡ Ok (said.Command actor c)
  command_line_again (command.Model k []) are h =
      words_said (codes "model" ∷ []) (called (with_default s.profiles) k) (command.Model k []) (word_graphic (codes "model") refl, tt) (profile_word (with_default s.profiles) are k h.0).graphic
      (model_again (with_default s.profiles) are k h.0 (0 + length name + 1) [])
  command_line_again (command.Model k (b ∷ text)) are h =
      line_said (codes "model" ∷ called (with_default s.profiles) k ∷ []) (b ∷ text) (command.Model k (b ∷ text)) (word_graphic (codes "model") refl, ((profile_word (with_default s.profiles) are k h.0).graphic, tt)) h.1.0
      (model_again (with_default s.profiles) are k h.0 (0 + length name + 1) (parts_of 32 (b ∷ text)) ∙ ap (λ (t : List ℕ). Ok (command.Model k t)) (join_with_byte-slice_split 32 (b ∷ text)))
  command_line_again (command.Route start target false) are h =
      words_said (codes "route" ∷ place_word start ∷ []) (place_word target) (command.Route start target false) (word_graphic (codes "route") refl, (place_graphic start h.0, tt)) (place_graphic target h.1)
      (route_again (with_default s.profiles) (0 + length name + 1) start target h.0 h.1)
  command_line_again (command.Route start target true) are h =
      words_said (codes "labels" ∷ place_word start ∷ []) (place_word target) (command.Route start target true) (word_graphic (codes "labels") refl, (place_graphic start h.0, tt)) (place_graphic target h.1)
      (labels_again (with_default s.profiles) (0 + length name + 1) start target h.0 h.1)
  command_line_again (command.Lower edge reverse speed) are h =
      words_said (codes "lower" ∷ edge_word edge reverse ∷ []) (speed_word speed) (command.Lower edge reverse speed) (word_graphic (codes "lower") refl, (edge_graphic edge reverse h.0, tt)) (speed_graphic speed h.1)
      (lower_again (with_default s.profiles) (0 + length name + 1) edge reverse speed h)
  command_line_again (command.Restore edge reverse speed) are h =
      words_said (codes "restore" ∷ edge_word edge reverse ∷ []) (speed_word speed) (command.Restore edge reverse speed) (word_graphic (codes "restore") refl, (edge_graphic edge reverse h.0, tt)) (speed_graphic speed h.1)
      (restore_again (with_default s.profiles) (0 + length name + 1) edge reverse speed h)
  command_line_again (command.Prepare k count) are h =
      words_said (codes "prepare" ∷ called (with_default s.profiles) k ∷ []) (decimal count) (command.Prepare k count) (word_graphic (codes "prepare") refl, ((profile_word (with_default s.profiles) are k h.0).graphic, tt)) (decimal_graphic count (omega (arith, h.1.1)))
      (prepare_again (with_default s.profiles) are k h.0 (0 + length name + 1) count h.1.0 h.1.1)
  command_line_again (command.Publish k) are h =
      words_said (codes "publish" ∷ []) (called (with_default s.profiles) k) (command.Publish k) (word_graphic (codes "publish") refl, tt) (profile_word (with_default s.profiles) are k h).graphic
      (publish_again (with_default s.profiles) are k h (0 + length name + 1))
