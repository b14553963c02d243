-- What clap finds while it walks over the words of options.
use Rattle.std.proofs.Common.{◌≡◌, ◌≢◌, ◌∙◌, List, [], ◌∷◌, ◌++◌, map, Bool, true, false, Option, Some, None, refl, ap, ap₂, sym, subst, append_assoc, append-nil, codes, eqb}
use Rattle.std.specs.Prelude.{if◌then◌else◌, nat_lt, slice_index, flat_map}
use Rattle.std.specs.List.{fold}
use Rattle.std.specs.Option.{option_map, option_map_or}
use Rattle.std.specs.Str.{bytes_eq}
use Rattle.std.proofs.lemmas.Bool.{ne_eqb}
use Rattle.std.proofs.lemmas.Slice.Eq.{bytes_eq-Decides}
use Rattle.clap.specs.Lexer.{long_of, short_of}
use Rattle.clap.specs.Walk.{Held, Row, Rule, Step, Text, Walk, after_flag, after_step, arg_by_id, arg_by_long, at_row, has_row, idle, long_met, long_or_other, more_values, next, option, option_word, short_or_plain, settled_rows, trailing, used, used_by_id, walk_from, walked, without, word_met}
use Rattle.clap.specs.Simple.{Shape, new_shape}
use Rattle.clap.specs.Kinds.{Kinds, or_else}
use Rattle.clap.specs.Faults.{bundle_fault, flag_word_fault, long_fault, settle_fault, step_fault, turn_fault, use_fault, walk_fault, word_fault}
use Rattle.clap.specs.declared.parser.matches.ValueSource.TheVariants.{CommandLine}
use Rattle.gh_words.specs.Words.{is_dashes}
use Rattle.word_laws.specs.Writing.{Named, Spelled, IsSpellable, words_of, spelling}
use Rattle.word_laws.proofs.Rules.{EachName, at_name, at_none, built_option, by_id, by_long, is_named, row, rule_if, rules_of}

-- ---- words

-- the words of an option of this name
pub record IsOptionName (name : Text) : Type 0 where
  pub alone : long_of (codes "--" ++ name) ≡ Some (name, None)
  pub joined : (value : Text) → long_of (codes "--" ++ (name ++ (codes "=" ++ value))) ≡ Some (name, Some value)
  pub alone_is : bytes_eq (codes "--" ++ name) (codes "--") ≡ false
  pub joined_is : (value : Text) → bytes_eq (codes "--" ++ (name ++ (codes "=" ++ value))) (codes "--") ≡ false
  pub alone_dashes : is_dashes (codes "--" ++ name) ≡ false
  pub joined_dashes : (value : Text) → is_dashes (codes "--" ++ (name ++ (codes "=" ++ value))) ≡ false

-- a value as a word of its own
pub record IsValueWord (value : Text) : Type 0 where
  pub long : long_of value ≡ None
  pub short : short_of value ≡ None
  pub whole : bytes_eq value (codes "--") ≡ false
  pub dashes : is_dashes value ≡ false

pub value_word : (value : Text) → value ≢ [] → slice_index value 0 ≢ 45 → IsValueWord value
value_word [] some minus = absurd (some refl)
value_word (b ∷ bytes) some minus =
    let e : eqb b 45 ≡ false = ne_eqb b 45 minus in
    record { long = rw e refl; short = rw e refl; whole = rw e refl; dashes = rw e refl }

pub same_name : (name : Text) → bytes_eq name name ≡ true
same_name name = (bytes_eq-Decides name name).1 refl

-- ---- where a walk stands between two options: what is found, and an option that ends with the last word

abbrev pub pending_of : Option Named → Option (Text × List Text)
pending_of = option_map (λ o. (o.name, o.value ∷ []))

abbrev pub held_at : List Row → Option Named → Held
held_at rows last = record { rows = rows; pending = pending_of last; skip = 0 }

abbrev pub walk_at : List Row → Option Named → Walk
walk_at rows last = walk_from (held_at rows last)

abbrev pub all_rows : List Row → Option Named → List Row
all_rows rows None = rows
all_rows rows (Some o) = rows ++ row o ∷ []

pub used_row : (o : Named) (rows : List Row) → has_row o.name rows ≡ false → used (built_option o.name) (o.value ∷ []) rows ≡ rows ++ row o ∷ []
used_row o rows none =
    let same : without o.name rows ≡ rows = at_none o.name (λ r. []) [] rows none ∙ append-nil rows in
    let more : Row → List Row = more_values CommandLine (o.value ∷ []) in
    ap (λ (rs : List Row). at_row o.name more (row o ∷ []) rs) same ∙ at_none o.name more (row o ∷ []) rows none

-- no option twice, each is one of the command's, and can be spelled
abbrev pub Fits : List Text → List Row → List Spelled → Type 0
Fits names rows [] = Unit {0}
Fits names rows (s ∷ options) = (is_named names s.of.name ≡ true) × (has_row s.of.name rows ≡ false) × IsSpellable s × Fits names (rows ++ row s.of ∷ []) options

module _ (title : Text) (names : List Text) where
  abbrev pub shape : Shape
  shape = record (new_shape title) { rules = rules_of names; disable_help_flag = true; disable_version_flag = true; disable_help_subcommand = true; is_built = true }

  -- the last option is one of the command's, and isn't found yet
  abbrev pub IsOpen : List Row → Option Named → Type 0
  IsOpen rows None = Unit {0}
  IsOpen rows (Some o) = (is_named names o.name ≡ true) × (has_row o.name rows ≡ false)

  rule_by_id : (name : Text) → is_named names name ≡ true → arg_by_id (rules_of names) name ≡ Some (built_option name)
  rule_by_id name named = by_id names name ∙ ap (λ b. rule_if b name) named

  rule_by_long : (name : Text) → is_named names name ≡ true → arg_by_long (rules_of names) name ≡ Some (built_option name)
  rule_by_long name named = by_long names name ∙ ap (λ b. rule_if b name) named

  pub settled_is : (rows : List Row) (last : Option Named) → IsOpen rows last → settled_rows (rules_of names) (pending_of last) rows ≡ all_rows rows last
  settled_is rows None open_ = refl
  settled_is rows (Some o) open_ = ap (λ (r : Option Rule). used_by_id r (o.value ∷ []) rows) (rule_by_id o.name open_.0) ∙ used_row o rows open_.1

  use_free : (o : Named) (rows : List Row) → has_row o.name rows ≡ false → use_fault false (built_option o.name) (o.value ∷ []) rows ≡ []
  use_free o rows none = rw none refl

  pub settle_free : (rows : List Row) (last : Option Named) → IsOpen rows last → settle_fault (rules_of names) false (held_at rows last) ≡ []
  settle_free rows None open_ = refl
  settle_free rows (Some o) open_ = ap (λ (r : Option Rule). option_map_or (λ a. use_fault false a (o.value ∷ []) rows) r []) (rule_by_id o.name open_.0) ∙ use_free o rows open_.1

  -- ---- the words of an option

  abbrev idle_at : List Row → Held × Step
  idle_at rows = (held_at rows None, next idle)

  -- the option's name was the last word
  abbrev waits_at : List Row → Text → Held
  waits_at rows name = record { rows = rows; pending = Some (name, []); skip = 0 }

  abbrev wait_at : List Row → Text → Walk
  wait_at rows name = record (walk_from (waits_at rows name)) { waiting = option name }

  abbrev waiting_at : Text → List Row → Held × Step
  waiting_at name rows = (waits_at rows name, next (option name))

  -- one word more
  pub record Turns (from : Walk) (word : Text) (to : Walk) : Type 0 where
    pub walk : walked (rules_of names) [] from word ≡ to
    pub free : turn_fault shape [] from word ≡ []

  module _ (rows : List Row) (last : Option Named) (open_ : IsOpen rows last) (o : Named) (named : is_named names o.name ≡ true) where
    -- `--name`
    name_met : (word : Text) → bytes_eq word (codes "--") ≡ false → long_of word ≡ Some (o.name, None) →
        word_met (rules_of names) [] false idle 1 word (held_at rows last) ≡ waiting_at o.name (all_rows rows last)
    name_met word whole long =
        let h = held_at rows last in
        let by : Option Rule → Held × Step = λ r. after_flag (rules_of names) idle word (long_met (rules_of names) r None h).0 (long_met (rules_of names) r None h).1 in
        let of_word : Bool → Option (Text × Option Text) → Held × Step = λ b p. if b then (h, trailing 1) else long_or_other (rules_of names) idle word p h in
        ap₂ of_word whole long ∙ ap by (rule_by_long o.name named) ∙ ap (waiting_at o.name) (settled_is rows last open_)

    name_free : (word : Text) → bytes_eq word (codes "--") ≡ false → long_of word ≡ Some (o.name, None) → word_fault shape [] false idle word (held_at rows last) ≡ []
    name_free word whole long =
        let h = held_at rows last in
        let by : Option Rule → Kinds = λ r. long_fault (rules_of names) false r None h in
        let of_word : Bool → Option (Text × Option Text) → Kinds = λ b p. if b then [] else flag_word_fault (rules_of names) false p word h in
        ap₂ of_word whole long ∙ ap by (rule_by_long o.name named) ∙ settle_free rows last open_

    pub name_turns : (word : Text) → bytes_eq word (codes "--") ≡ false → long_of word ≡ Some (o.name, None) → Turns (walk_at rows last) word (wait_at (all_rows rows last) o.name)
    unfolding walked
    name_turns word whole long =
        let met = name_met word whole long in
        let step : Held × Step → Walk = λ m. after_step (rules_of names) word (walk_at rows last) m.0 m.1 in
        let fault : Kinds → Held × Step → Kinds = λ f m. or_else f (step_fault shape 1 m.0 m.1) in
        record { walk = ap step met; free = ap₂ fault (name_free word whole long) met }

    -- `--name=value`
    module _ (none : has_row o.name (all_rows rows last) ≡ false) where
      joined_met : (word : Text) → bytes_eq word (codes "--") ≡ false → long_of word ≡ Some (o.name, Some o.value) →
          word_met (rules_of names) [] false idle 1 word (held_at rows last) ≡ idle_at (all_rows rows last ++ row o ∷ [])
      joined_met word whole long =
          let h = held_at rows last in
          let by : Option Rule → Held × Step = λ r. after_flag (rules_of names) idle word (long_met (rules_of names) r (Some o.value) h).0 (long_met (rules_of names) r (Some o.value) h).1 in
          let of_word : Bool → Option (Text × Option Text) → Held × Step = λ b p. if b then (h, trailing 1) else long_or_other (rules_of names) idle word p h in
          let use_on : List Row → Held × Step = λ rs. idle_at (used (built_option o.name) (o.value ∷ []) rs) in
          ap₂ of_word whole long ∙ ap by (rule_by_long o.name named) ∙ ap use_on (settled_is rows last open_) ∙ ap idle_at (used_row o (all_rows rows last) none)

      joined_free : (word : Text) → bytes_eq word (codes "--") ≡ false → long_of word ≡ Some (o.name, Some o.value) → word_fault shape [] false idle word (held_at rows last) ≡ []
      joined_free word whole long =
          let h = held_at rows last in
          let by : Option Rule → Kinds = λ r. long_fault (rules_of names) false r (Some o.value) h in
          let of_word : Bool → Option (Text × Option Text) → Kinds = λ b p. if b then [] else flag_word_fault (rules_of names) false p word h in
          let then_use : Kinds → List Row → Kinds = λ f rs. or_else f (use_fault false (built_option o.name) (o.value ∷ []) rs) in
          ap₂ of_word whole long ∙ ap by (rule_by_long o.name named) ∙ ap₂ then_use (settle_free rows last open_) (settled_is rows last open_) ∙ use_free o (all_rows rows last) none

      pub joined_turns : (word : Text) → bytes_eq word (codes "--") ≡ false → long_of word ≡ Some (o.name, Some o.value) → Turns (walk_at rows last) word (walk_at (all_rows rows last ++ row o ∷ []) None)
      unfolding walked
      joined_turns word whole long =
          let met = joined_met word whole long in
          let step : Held × Step → Walk = λ m. after_step (rules_of names) word (walk_at rows last) m.0 m.1 in
          let fault : Kinds → Held × Step → Kinds = λ f m. or_else f (step_fault shape 1 m.0 m.1) in
          record { walk = ap step met; free = ap₂ fault (joined_free word whole long) met }

  -- the value, behind its option's name
  module _ (rows : List Row) (o : Named) (named : is_named names o.name ≡ true) (value : IsValueWord o.value) where
    value_met : word_met (rules_of names) [] false (option o.name) 1 o.value (waits_at rows o.name) ≡ (held_at rows (Some o), next idle)
    value_met =
        let h = waits_at rows o.name in
        let of_word : Bool → Option (Text × Option Text) → Held × Step = λ b p. if b then (h, trailing 1) else long_or_other (rules_of names) (option o.name) o.value p h in
        let of_short : Option Text → Held × Step = λ s. short_or_plain (rules_of names) (option o.name) o.value s h in
        let by : Option Rule → Held × Step = λ r. ((option_word r o.name o.value h).0, next (option_word r o.name o.value h).1) in
        let full : Bool → Held × Step = λ b. (held_at rows (Some o), next (if nat_lt (if b then 1 else 0) 1 then option o.name else idle)) in
        ap₂ of_word value.whole value.long ∙ ap of_short value.short ∙ ap by (rule_by_id o.name named) ∙ ap full (same_name o.name)

    value_free : word_fault shape [] false (option o.name) o.value (waits_at rows o.name) ≡ []
    value_free =
        let h = waits_at rows o.name in
        let of_word : Bool → Option (Text × Option Text) → Kinds = λ b p. if b then [] else flag_word_fault (rules_of names) false p o.value h in
        let of_short : Option Text → Kinds = λ s. option_map_or (λ flags. bundle_fault (rules_of names) false flags h) s [] in
        ap₂ of_word value.whole value.long ∙ ap of_short value.short

    pub value_turns : Turns (wait_at rows o.name) o.value (walk_at rows (Some o))
    unfolding walked
    value_turns =
        let step : Held × Step → Walk = λ m. after_step (rules_of names) o.value (wait_at rows o.name) m.0 m.1 in
        let fault : Kinds → Held × Step → Kinds = λ f m. or_else f (step_fault shape 1 m.0 m.1) in
        record { walk = ap step value_met; free = ap₂ fault value_free value_met }

  -- ---- words one behind another

  -- the walk over the words comes there, without a fault, whatever follows
  pub record Goes (from : Walk) (words : List Text) (to : Walk) : Type 0 where
    pub walk : (rest : List Text) → fold (walked (rules_of names) []) from (words ++ rest) ≡ fold (walked (rules_of names) []) to rest
    pub free : (rest : List Text) → walk_fault shape [] from (words ++ rest) ≡ walk_fault shape [] to rest

  one_word : (from to : Walk) (word : Text) → Turns from word to → Goes from (word ∷ []) to
  unfolding walk_fault
  one_word from to word turns = record {
    walk = λ rest. ap (λ (w : Walk). fold (walked (rules_of names) []) w rest) turns.walk;
    free = λ rest. ap₂ (λ (f : Kinds) (w : Walk). or_else f (walk_fault shape [] w rest)) turns.free turns.walk;
  }

  two_words : (from between to : Walk) (first second : Text) → Turns from first between → Turns between second to → Goes from (first ∷ second ∷ []) to
  two_words from between to first second one two =
      let a = one_word from between first one in
      let b = one_word between to second two in
      record { walk = λ rest. a.walk (second ∷ rest) ∙ b.walk rest; free = λ rest. a.free (second ∷ rest) ∙ b.free rest }

  -- the walk ends where all of these rows are found
  pub record Ends (from : Walk) (words : List Text) (found : List Row) : Type 0 where
    pub rows : List Row
    pub last : Option Named
    pub is_open : IsOpen rows last
    pub found_are : all_rows rows last ≡ found
    pub goes : Goes from words (walk_at rows last)

  module _ (are : EachName IsOptionName names) where
    option_ends : (rows : List Row) (last : Option Named) → IsOpen rows last → (o : Named) → is_named names o.name ≡ true → has_row o.name (all_rows rows last) ≡ false →
        (b : Bool) → o.value ≢ [] → (b ≡ false → slice_index o.value 0 ≢ 45) → Ends (walk_at rows last) (spelling o.name o.value b) (all_rows rows last ++ row o ∷ [])
    option_ends rows last open_ o named none true some minus =
        let name = at_name IsOptionName names o.name are named in
        let turns = joined_turns rows last open_ o named none (codes "--" ++ (o.name ++ (codes "=" ++ o.value))) (name.joined_is o.value) (name.joined o.value) in
        record { rows = all_rows rows last ++ row o ∷ []; last = None; is_open = tt; found_are = refl; goes = one_word _ _ _ turns }
    option_ends rows last open_ o named none false some minus =
        let name = at_name IsOptionName names o.name are named in
        let first = name_turns rows last open_ o named (codes "--" ++ o.name) name.alone_is name.alone in
        let second = value_turns (all_rows rows last) o named (value_word o.value some (minus refl)) in
        record { rows = all_rows rows last; last = Some o; is_open = (named, none); found_are = refl; goes = two_words _ _ _ _ _ first second }

    pub walks : (options : List Spelled) (rows : List Row) (last : Option Named) → IsOpen rows last → Fits names (all_rows rows last) options →
        Ends (walk_at rows last) (flat_map words_of options) (all_rows rows last ++ map row (map (λ s. s.of) options))
    walks [] rows last open_ fits = record { rows = rows; last = last; is_open = open_; found_are = sym (append-nil (all_rows rows last)); goes = record { walk = λ rest. refl; free = λ rest. refl } }
    walks (s ∷ options) rows last open_ fits =
        let here = option_ends rows last open_ s.of fits.0 fits.1 s.as_one fits.2.some fits.2.minus in
        let behind = walks options here.rows here.last here.is_open (subst (λ (rs : List Row). Fits names rs options) (sym here.found_are) fits.3) in
        record {
          rows = behind.rows;
          last = behind.last;
          is_open = behind.is_open;
          found_are = behind.found_are ∙ ap (λ (rs : List Row). rs ++ map row (map (λ s. s.of) options)) here.found_are ∙ append_assoc (all_rows rows last) (row s.of ∷ []) (map row (map (λ s. s.of) options));
          goes = record {
            walk = λ rest. ap (fold (walked (rules_of names) []) (walk_at rows last)) (append_assoc (words_of s) (flat_map words_of options) rest) ∙ here.goes.walk (flat_map words_of options ++ rest) ∙ behind.goes.walk rest;
            free = λ rest. ap (walk_fault shape [] (walk_at rows last)) (append_assoc (words_of s) (flat_map words_of options) rest) ∙ here.goes.free (flat_map words_of options ++ rest) ∙ behind.goes.free rest;
          };
        }
