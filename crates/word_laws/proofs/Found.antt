-- The options of a line are what is found among its words.
use Rattle.std.proofs.Common.{◌≡◌, ◌∙◌, List, [], ◌∷◌, ◌++◌, map, cond, Bool, true, false, ◌||◌, ◌&&◌, not, Some, None, is_some, refl, ap, ap₂, sym, append-nil}
use Rattle.std.specs.Prelude.{if◌then◌else◌, flat_map}
use Rattle.std.specs.List.{list_any, find, fold}
use Rattle.std.specs.Option.{option_map_or}
use Rattle.std.specs.Str.{bytes_eq}
use Rattle.clap.specs.Facts.{explicit_source}
use Rattle.clap.specs.Faults.{built_fault, check_fault, default_fault, defaults_fault, entered_fault, fault_of, settle_fault, walk_fault}
use Rattle.clap.specs.Kinds.{Kinds, or_else}
use Rattle.clap.specs.Simple.{App, built, entered, matches_of, names_of}
use Rattle.clap.specs.Takes.{is_given}
use Rattle.clap.specs.Walk.{Row, Rule, Text, Walk, finished, has_row, nothing_held, rows_after, settled, walk, walked, with_default}
use Rattle.clap.specs.declared.error.kind.ErrorKind.TheVariants.{MissingRequiredArgument}
use Rattle.gh_words.specs.Words.{found_in, if_free, is_dashes}
use Rattle.word_laws.specs.Writing.{Named, Spelled, words_of, spelling}
use Rattle.word_laws.proofs.Rules.{EachName, at_name, built_option, no_default, no_defaults, row, rules_of}
use Rattle.word_laws.proofs.Walks.{Ends, Fits, IsOptionName, settle_free, settled_is, shape, value_word, walk_at, walks}
use Rattle.word_laws.proofs.Orders.{found_by}

-- ---- no word is nothing but minus signs

spelled_so : (names : List Text) → EachName IsOptionName names → (s : Spelled) (rows : List Row) (options : List Spelled) → Fits names rows (s ∷ options) → (rest : List Text) →
    list_any is_dashes rest ≡ false → list_any is_dashes (words_of s ++ rest) ≡ false
spelled_so names are s rows options fits rest none = by s.as_one refl
  where
    name : IsOptionName s.of.name
    name = at_name IsOptionName names s.of.name are fits.0

    by : (b : Bool) → s.as_one ≡ b → list_any is_dashes (spelling s.of.name s.of.value b ++ rest) ≡ false
    by true e = rw (name.joined_dashes s.of.value) none
    by false e = rw (name.alone_dashes, (value_word s.of.value fits.2.some (fits.2.minus e)).dashes) none

pub no_dashes : (names : List Text) → EachName IsOptionName names → (options : List Spelled) (rows : List Row) → Fits names rows options → list_any is_dashes (flat_map words_of options) ≡ false
no_dashes names are [] rows fits = refl
no_dashes names are (s ∷ options) rows fits = spelled_so names are s rows options fits (flat_map words_of options) (no_dashes names are options (rows ++ row s.of ∷ []) fits.3)

-- ---- after the last word

no_default_fault : (names : List Text) (rows : List Row) → defaults_fault rows (rules_of names) ≡ []
unfolding defaults_fault
no_default_fault [] rows = refl
no_default_fault (n ∷ names) rows =
    ap₂ (λ (f : Kinds) (rs : List Row). or_else f (defaults_fault rs (rules_of names))) (by (has_row n rows)) (no_default rows n) ∙ no_default_fault names rows
  where
    by : (b : Bool) → (if b || true then [] else default_fault [] (built_option n)) ≡ []
    by true = refl
    by false = refl

-- each name is found
abbrev pub IsFound : List Named → Text → Type 0
IsFound os name = (o : Named) × (found_by name os ≡ Some o)

given_row : (name : Text) (os : List Named) (o : Named) → found_by name os ≡ Some o → is_given name (map row os) ≡ true
given_row name [] o e = cc
given_row name (x ∷ os) o e = by (λ k. given_row name os o k) (bytes_eq x.name name) e
  where
    by : (found_by name os ≡ Some o → is_given name (map row os) ≡ true) → (b : Bool) → cond b (Some x) (found_by name os) ≡ Some o →
        option_map_or (λ r. explicit_source r.source) (cond b (Some (row x)) (find (λ r. bytes_eq r.id name) (map row os))) false ≡ true
    by others true e = refl
    by others false e = others e

-- an option that wasn't given
abbrev pub is_missing : List Row → Rule → Bool
is_missing rows a = a.required && not (is_given a.id rows)

pub none_missing : (names : List Text) (os : List Named) → EachName (IsFound os) names → list_any (is_missing (map row os)) (rules_of names) ≡ false
none_missing [] os each = refl
none_missing (n ∷ names) os each =
    ap₂ (λ (b : Bool) (c : Bool). not b || c) (given_row n os each.0.0 each.0.1) (none_missing names os each.1)

-- ---- the words of a command

abbrev pub built_app : Text → List Text → App
built_app title names = record { top = shape title names; subs = [] }

module _ (title : Text) (names : List Text) (are : EachName IsOptionName names) (options : List Spelled) (fits : Fits names [] options) where
  abbrev os : List Named
  os = map (λ s. s.of) options

  abbrev words : List Text
  words = flat_map words_of options

  ends : Ends title names (walk_at [] None) words (map row os)
  ends = walks title names are options [] None tt fits

  end_walk : walk (rules_of names) [] nothing_held words ≡ walk_at ends.rows ends.last
  end_walk = ap (fold (walked (rules_of names) []) (walk_at [] None)) (sym (append-nil words)) ∙ ends.goes.walk []

  end_free : walk_fault (shape title names) [] (walk_at [] None) words ≡ []
  unfolding walk_fault
  end_free = ap (walk_fault (shape title names) [] (walk_at [] None)) (sym (append-nil words)) ∙ ends.goes.free []

  rows_found : finished (rules_of names) (walk (rules_of names) [] nothing_held words).held ≡ map row os
  rows_found =
      ap (λ (w : Walk). finished (rules_of names) w.held) end_walk
      ∙ ap (λ (rs : List Row). fold with_default rs (rules_of names)) (settled_is title names ends.rows ends.last ends.is_open ∙ ends.found_are)
      ∙ no_defaults names (map row os)

  -- the faults behind the walk's
  abbrev later : Walk → Kinds
  later end =
      let stop = entered (built_app title names) end.stopped in
      or_else (entered_fault (built_app title names) end.stopped) (or_else (settle_fault (rules_of names) false end.held)
      (or_else (defaults_fault (settled (rules_of names) end.held).rows (rules_of names)) (check_fault (shape title names) (finished (rules_of names) end.held) (is_some stop))))

  no_fault : EachName (IsFound os) names → or_else (walk_fault (shape title names) [] (walk_at [] None) words) (later (walk (rules_of names) [] nothing_held words)) ≡ []
  no_fault each =
      let check : List Row → Kinds = λ rs. if list_any (is_missing rs) (rules_of names) then MissingRequiredArgument ∷ [] else [] in
      let checked : check (map row os) ≡ [] = ap (λ (b : Bool). if b then MissingRequiredArgument ∷ [] else []) (none_missing names os each) in
      let ended = settled_is title names ends.rows ends.last ends.is_open ∙ ends.found_are in
      let finish : finished (rules_of names) (walk_at ends.rows ends.last).held ≡ map row os =
      ap (λ (rs : List Row). fold with_default rs (rules_of names)) ended ∙ no_defaults names (map row os) in
      let last_check : check (finished (rules_of names) (walk_at ends.rows ends.last).held) ≡ [] = ap check finish ∙ checked in
      ap₂ (λ (f : Kinds) (w : Walk). or_else f (later w)) end_free end_walk
      ∙ ap₂ (λ (f : Kinds) (g : Kinds). or_else f (or_else (defaults_fault (settled (rules_of names) (walk_at ends.rows ends.last).held).rows (rules_of names)) g)) (settle_free title names ends.rows ends.last ends.is_open) last_check
      ∙ ap (λ (f : Kinds). or_else f []) (no_default_fault names (settled (rules_of names) (walk_at ends.rows ends.last).held).rows)

  pub found_so : (app : App) (first : Text) → built app ≡ built_app title names → app.top.no_binary_name ≡ false → is_dashes first ≡ false → EachName (IsFound os) names →
      found_in app (first ∷ words) ≡ Some (map row os)
  found_so app first is named dashes each =
      let fault : App → List Text → Kinds = λ a ws. built_fault a nothing_held ws in
      let arguments : (if app.top.no_binary_name then first ∷ words else words) ≡ words = ap (λ (b : Bool). if b then first ∷ words else words) named in
      let free : fault_of app (first ∷ words) ≡ [] = ap₂ fault is arguments ∙ no_fault each in
      let rows : matches_of app (first ∷ words) ≡ map row os = ap₂ (λ (a : App) (ws : List Text). rows_after a.top.rules (names_of a) ws) is arguments ∙ rows_found in
      let none : list_any is_dashes (first ∷ words) ≡ false = ap₂ (λ (b : Bool) (c : Bool). b || c) dashes (no_dashes names are options [] fits) in
      ap (λ (b : Bool). if b then None else if_free (fault_of app (first ∷ words)) (matches_of app (first ∷ words))) none
      ∙ ap₂ (λ (f : Kinds) (rs : List Row). if_free f rs) free rows
