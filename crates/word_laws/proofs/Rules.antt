-- The options of a command, as clap finds them by name, and what it finds for them.
use Rattle.std.proofs.Common.{◌≡◌, ◌∙◌, ℕ, List, [], ◌∷◌, ◌++◌, map, cond, Bool, true, false, ◌||◌, Option, Some, None, refl, ap, subst}
use Rattle.std.specs.List.{list_any, find, fold}
use Rattle.std.specs.Option.{option_map, option_and_then}
use Rattle.std.specs.Prelude.{slice_get}
use Rattle.std.specs.Str.{bytes_eq}
use Rattle.std.proofs.lemmas.Slice.Eq.{bytes_eq-Decides}
use Rattle.clap.specs.Walk.{Row, Rule, Text, arg_by_id, arg_by_index, arg_by_long, arg_by_short, at_row, first_of, has_row, with_default}
use Rattle.clap.specs.Simple.{filled}
use Rattle.clap.specs.declared.builder.value_parser.Reading.TheVariants as reading
use Rattle.clap.specs.declared.parser.matches.ValueSource.TheVariants.{CommandLine}
use Rattle.gh_words.specs.Words.{option_of}
use Rattle.word_laws.specs.Writing.{Named}

-- an option as clap has built it
abbrev pub built_option : Text → Rule
built_option name = filled (option_of name)

abbrev pub rules_of : List Text → List Rule
rules_of names = map built_option names

-- one of the names
abbrev pub is_named : List Text → Text → Bool
is_named names name = list_any (λ n. bytes_eq n name) names

-- what holds of each of them holds of one
abbrev pub EachName : (Text → Type 0) → List Text → Type 0
EachName P [] = Unit {0}
EachName P (name ∷ names) = P name × EachName P names

pub at_name : (P : Text → Type 0) (names : List Text) (name : Text) → EachName P names → is_named names name ≡ true → P name
at_name P [] name each e = cc
at_name P (n ∷ names) name each e = by (λ k. at_name P names name each.1 k) (bytes_eq n name) refl e
  where
    by : (is_named names name ≡ true → P name) → (b : Bool) → bytes_eq n name ≡ b → (b || is_named names name) ≡ true → P name
    by others true here e = subst P ((bytes_eq-Decides n name).0 here) each.0
    by others false here e = others e

abbrev pub rule_if : Bool → Text → Option Rule
rule_if true name = Some (built_option name)
rule_if false name = None

pub by_id : (names : List Text) (name : Text) → arg_by_id (rules_of names) name ≡ rule_if (is_named names name) name
by_id [] name = refl
by_id (n ∷ names) name = by (by_id names name) (bytes_eq n name) refl
  where
    by : arg_by_id (rules_of names) name ≡ rule_if (is_named names name) name → (b : Bool) → bytes_eq n name ≡ b →
        cond b (Some (built_option n)) (arg_by_id (rules_of names) name) ≡ rule_if (b || is_named names name) name
    by others true e = ap (λ (m : Text). Some (built_option m)) ((bytes_eq-Decides n name).0 e)
    by others false e = others

pub by_long : (names : List Text) (name : Text) → arg_by_long (rules_of names) name ≡ rule_if (is_named names name) name
by_long [] name = refl
by_long (n ∷ names) name = by (by_long names name) (bytes_eq n name) refl
  where
    by : arg_by_long (rules_of names) name ≡ rule_if (is_named names name) name → (b : Bool) → bytes_eq n name ≡ b →
        cond (b || false) (Some (built_option n)) (arg_by_long (rules_of names) name) ≡ rule_if (b || is_named names name) name
    by others true e = ap (λ (m : Text). Some (built_option m)) ((bytes_eq-Decides n name).0 e)
    by others false e = others

pub by_short : (names : List Text) (x : ℕ) → arg_by_short (rules_of names) x ≡ None
by_short [] x = refl
by_short (n ∷ names) x = by_short names x

pub by_index : (names : List Text) (i : ℕ) → arg_by_index (rules_of names) i ≡ None
by_index [] i = refl
by_index (n ∷ names) i = by_index names i

-- ---- rows

-- what is found for an option
abbrev pub row : Named → Row
row o = record { id = o.name; values = o.value ∷ []; count = None; source = Some CommandLine; reading = reading.AsWritten }

-- where no row has the name, a change adds one
pub at_none : (name : Text) (change : Row → List Row) (missing rows : List Row) → has_row name rows ≡ false → at_row name change missing rows ≡ rows ++ missing
at_none name change missing [] none = refl
at_none name change missing (r ∷ rows) none = by (λ e. at_none name change missing rows e) (bytes_eq r.id name) none
  where
    by : (has_row name rows ≡ false → at_row name change missing rows ≡ rows ++ missing) → (b : Bool) → (b || has_row name rows) ≡ false →
        cond b (change r ++ rows) (r ∷ at_row name change missing rows) ≡ r ∷ (rows ++ missing)
    by others true none = cc
    by others false none = ap (λ (rs : List Row). r ∷ rs) (others none)

pub first_of_rows : (name : Text) (os : List Named) → first_of name (map row os) ≡ option_map (λ o. o.value) (find (λ o. bytes_eq o.name name) os)
first_of_rows name [] = refl
first_of_rows name (o ∷ os) = by (first_of_rows name os) (bytes_eq o.name name)
  where
    by : first_of name (map row os) ≡ option_map (λ o. o.value) (find (λ o. bytes_eq o.name name) os) → (b : Bool) → option_and_then (λ (r : Row). slice_get r.values 0) (cond b (Some (row o)) (find (λ r. bytes_eq r.id name) (map row os)))
        ≡ option_map (λ (o : Named). o.value) (cond b (Some o) (find (λ o. bytes_eq o.name name) os))
    by others true = refl
    by others false = others

-- ---- no option has a default

pub no_default : (rows : List Row) (name : Text) → with_default rows (built_option name) ≡ rows
no_default rows name = by (has_row name rows)
  where
    by : (b : Bool) → cond b rows rows ≡ rows
    by true = refl
    by false = refl

pub no_defaults : (names : List Text) (rows : List Row) → fold with_default rows (rules_of names) ≡ rows
no_defaults [] rows = refl
no_defaults (n ∷ names) rows = ap (λ (rs : List Row). fold with_default rs (rules_of names)) (no_default rows n) ∙ no_defaults names rows
