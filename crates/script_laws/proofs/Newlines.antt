-- No written line has a newline, so the text is parted into its lines again.
use Rattle.std.proofs.Common.{◌≡◌, ◌≢◌, ◌∙◌, ℕ, suc, ◌^◌, ◌<◌, ◌≤◌, List, [], ◌∷◌, ◌++◌, map, length, Bool, true, false, eqb, refl, ap, arith, append_assoc}
use Rattle.std.specs.Prelude.{All, codes, decimal}
use Rattle.std.proofs.lemmas.Bool.{ne_eqb}
use Rattle.gh_base.specs.Parts.{parts_of}
use Rattle.weighting.specs.declared.profile.Profile.{Profile}
use Rattle.plain_map.specs.Printing.{lines_text}
use Rattle.plain_map.proofs.Splits.{Each, each_append, each_more, Without, cut_at}
use Rattle.plain_map.proofs.PrintedWords.{AllItems}
use Rattle.script_text.specs.declared.script.Command.{Command}
use Rattle.script_text.specs.declared.script.Command.TheVariants as command
use Rattle.script_text.specs.Scripts.{AreProfiles}
use Rattle.script_laws.specs.Writing.{spaced, called, place_word, edge_word, speed_word, command_words, IsSayable}
use Rattle.script_laws.proofs.Words.{IsGraphic, word_graphic}
use Rattle.script_laws.proofs.Numbers.{decimal_graphic, edge_graphic, speed_graphic, place_graphic}
use Rattle.script_laws.proofs.CommandLines.{profile_word}

pub in_line : (word : List ℕ) → Each IsGraphic word → Without 10 word
in_line word h = each_more IsGraphic _ (λ b k. ne_eqb b 10 (λ e. omega (arith, k.above))) word h

text_in_line : (text : List ℕ) → All (λ b. b ≢ 10) text → Without 10 text
text_in_line [] h = tt
text_in_line (b ∷ text) h = (ne_eqb b 10 (h 0 b (omega arith)), text_in_line text (λ k d lt. h (suc k) d (omega arith)))

pub spaced_in_line : (words : List (List ℕ)) → AllItems (Without 10) words → Without 10 (spaced words)
spaced_in_line [] h = tt
spaced_in_line (word ∷ []) h = h.0
spaced_in_line (word ∷ next ∷ words) h = each_append (λ b. eqb b 10 ≡ false) word (32 ∷ spaced (next ∷ words)) h.0 (refl, spaced_in_line (next ∷ words) h.1)

plain_word : (word : List ℕ) → Each IsGraphic word → Without 10 word
plain_word word h = in_line word h

pub command_in_line : (profiles : List Profile) → AreProfiles profiles → (c : Command) → IsSayable (length profiles) c → AllItems (Without 10) (command_words profiles c)
command_in_line profiles are (command.Model k []) h = (in_line (codes "model") (word_graphic (codes "model") refl), (in_line (called profiles k) (profile_word profiles are k h.0).graphic, tt))
command_in_line profiles are (command.Model k (b ∷ text)) h = (in_line (codes "model") (word_graphic (codes "model") refl), (in_line (called profiles k) (profile_word profiles are k h.0).graphic, (text_in_line (b ∷ text) h.1.1, tt)))
command_in_line profiles are (command.Route start target false) h = (in_line (codes "route") (word_graphic (codes "route") refl), (in_line (place_word start) (place_graphic start h.0), (in_line (place_word target) (place_graphic target h.1), tt)))
command_in_line profiles are (command.Route start target true) h = (in_line (codes "labels") (word_graphic (codes "labels") refl), (in_line (place_word start) (place_graphic start h.0), (in_line (place_word target) (place_graphic target h.1), tt)))
command_in_line profiles are (command.Lower edge reverse speed) h = (in_line (codes "lower") (word_graphic (codes "lower") refl), (in_line (edge_word edge reverse) (edge_graphic edge reverse h.0), (in_line (speed_word speed) (speed_graphic speed h.1), tt)))
command_in_line profiles are (command.Restore edge reverse speed) h = (in_line (codes "restore") (word_graphic (codes "restore") refl), (in_line (edge_word edge reverse) (edge_graphic edge reverse h.0), (in_line (speed_word speed) (speed_graphic speed h.1), tt)))
command_in_line profiles are (command.Prepare k count) h = (in_line (codes "prepare") (word_graphic (codes "prepare") refl), (in_line (called profiles k) (profile_word profiles are k h.0).graphic, (in_line (decimal count) (decimal_graphic count (omega (arith, h.1.1))), tt)))
command_in_line profiles are (command.Publish k) h = (in_line (codes "publish") (word_graphic (codes "publish") refl), (in_line (called profiles k) (profile_word profiles are k h).graphic, tt))

pub lines_parted : (lines : List (List ℕ)) → AllItems (Without 10) lines → parts_of 10 (lines_text lines) ≡ lines ++ [] ∷ []
lines_parted [] h = refl
lines_parted (line ∷ lines) h = cut_at 10 line (lines_text lines) h.0 ∙ ap (λ (ls : List (List ℕ)). line ∷ ls) (lines_parted lines h.1)

pub items_append : (P : List ℕ → Type 0) (a b : List (List ℕ)) → AllItems P a → AllItems P b → AllItems P (a ++ b)
items_append P [] b h k = k
items_append P (x ∷ a) b h k = (h.0, items_append P a b h.1 k)
