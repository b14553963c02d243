-- What the words of a run ask for, and facts of what is known of it.
use Rattle.std.specs.Prelude.{ℕ, List, Option, Some, IfSome}
use Rattle.gh_base.specs.declared.kinds.Form.{Form}
use Rattle.gh_words.specs.Words.{Asked, Serve, Convert, Generate, Roads, Prep, Check, Both, Turns}
use Rattle.map_roads.specs.Statuses.{IsMap}
use Rattle.gh_serve.specs.Statuses.{IsScriptText, AreFewLabels}

-- a fact of the map's name and form, if the words ask for a map to be served
abbrev pub IfServes : Option Asked → (List ℕ → Form → Type 0) → Type 0
IfServes (Some (Serve name form)) P = P name form
IfServes other P = Unit {0}

-- a fact of the map's name and of both forms, if they ask for it to be converted
abbrev pub IfConverts : Option Asked → (List ℕ → Form → Form → Type 0) → Type 0
IfConverts (Some (Convert name form to)) P = P name form to
IfConverts other P = Unit {0}

-- a fact of the map's name and form, if they ask for its roads
abbrev pub IfTellsRoads : Option Asked → (List ℕ → Form → Type 0) → Type 0
IfTellsRoads (Some (Roads name form)) P = P name form
IfTellsRoads other P = Unit {0}

-- a fact of the map's name and form and of the number of landmarks, if they ask for a preparation
abbrev pub IfPreps : Option Asked → (List ℕ → Form → ℕ → Type 0) → Type 0
IfPreps (Some (Prep name form count)) P = P name form count
IfPreps other P = Unit {0}

-- a fact of the map's name and form, if they ask for one to be checked
abbrev pub IfChecks : Option Asked → (List ℕ → Form → Type 0) → Type 0
IfChecks (Some (Check name form)) P = P name form
IfChecks other P = Unit {0}

-- how query lines are answered: by searches from both ends, or under the map's turn restrictions
pub data Way : Type 0 where
  FromBothEnds : Way
  UnderTurns : Way

-- a fact of that, of the map's name and form and of the number of landmarks, if they ask for query lines to be answered
abbrev pub IfAnswers : Option Asked → (Way → List ℕ → Form → ℕ → Type 0) → Type 0
IfAnswers (Some (Both name form count)) P = P FromBothEnds name form count
IfAnswers (Some (Turns name form count)) P = P UnderTurns name form count
IfAnswers other P = Unit {0}

-- a fact of the map's name, if they ask for any of these
abbrev pub IfReads : Option Asked → (List ℕ → Type 0) → Type 0
IfReads (Some (Serve name form)) P = P name
IfReads (Some (Convert name form to)) P = P name
IfReads (Some (Roads name form)) P = P name
IfReads (Some (Prep name form count)) P = P name
IfReads (Some (Check name form)) P = P name
IfReads (Some (Both name form count)) P = P name
IfReads (Some (Turns name form count)) P = P name
IfReads other P = Unit {0}

-- a fact of the size, if they ask for a run made of one
abbrev pub IfGenerates : Option Asked → (ℕ → Type 0) → Type 0
IfGenerates (Some (Generate size)) P = P size
IfGenerates other P = Unit {0}

-- a fact of the map's bytes too, where a map is to be served and what its name holds is known
abbrev pub IfMapServed : Option Asked → (List ℕ → Option (List ℕ)) → (List ℕ → Form → List ℕ → Type 0) → Type 0
IfMapServed asked holds P = IfServes asked (λ name form. IfSome (holds name) (P name form))

-- of the script's bytes, where these are known
abbrev pub IfScriptServed : Option Asked → Option (List ℕ) → (List ℕ → Type 0) → Type 0
IfScriptServed asked left P = IfServes asked (λ name form. IfSome left P)

-- of the bytes of both, where both are known
abbrev pub IfBothServed : Option Asked → (List ℕ → Option (List ℕ)) → Option (List ℕ) → (List ℕ → Form → List ℕ → List ℕ → Type 0) → Type 0
IfBothServed asked holds left P = IfMapServed asked holds (λ name form held. IfSome left (P name form held))

-- alike where a map is to be converted
abbrev pub IfMapConverted : Option Asked → (List ℕ → Option (List ℕ)) → (List ℕ → Form → Form → List ℕ → Type 0) → Type 0
IfMapConverted asked holds P = IfConverts asked (λ name form to. IfSome (holds name) (P name form to))

-- alike where its roads are to be told
abbrev pub IfRoadsTold : Option Asked → (List ℕ → Option (List ℕ)) → (List ℕ → Form → List ℕ → Type 0) → Type 0
IfRoadsTold asked holds P = IfTellsRoads asked (λ name form. IfSome (holds name) (P name form))

-- alike where it is to be prepared
abbrev pub IfMapPrepared : Option Asked → (List ℕ → Option (List ℕ)) → (List ℕ → Form → ℕ → List ℕ → Type 0) → Type 0
IfMapPrepared asked holds P = IfPreps asked (λ name form count. IfSome (holds name) (P name form count))

-- alike where a store is to be checked over it
abbrev pub IfMapChecked : Option Asked → (List ℕ → Option (List ℕ)) → (List ℕ → Form → List ℕ → Type 0) → Type 0
IfMapChecked asked holds P = IfChecks asked (λ name form. IfSome (holds name) (P name form))

-- and of the store's bytes, where these are known too
abbrev pub IfStoreChecked : Option Asked → (List ℕ → Option (List ℕ)) → Option (List ℕ) → (List ℕ → Form → List ℕ → List ℕ → Type 0) → Type 0
IfStoreChecked asked holds left P = IfMapChecked asked holds (λ name form held. IfSome left (P name form held))

-- alike where query lines are to be answered over it
abbrev pub IfMapAsked : Option Asked → (List ℕ → Option (List ℕ)) → (Way → List ℕ → Form → ℕ → List ℕ → Type 0) → Type 0
IfMapAsked asked holds P = IfAnswers asked (λ way name form count. IfSome (holds name) (P way name form count))

-- of the lines' bytes, where these are known
abbrev pub IfLinesAsked : Option Asked → Option (List ℕ) → (List ℕ → Type 0) → Type 0
IfLinesAsked asked left P = IfAnswers asked (λ way name form count. IfSome left P)

-- of the bytes of both
abbrev pub IfAllAsked : Option Asked → (List ℕ → Option (List ℕ)) → Option (List ℕ) → (Way → List ℕ → Form → ℕ → List ℕ → List ℕ → Type 0) → Type 0
IfAllAsked asked holds left P = IfMapAsked asked holds (λ way name form count held. IfSome left (P way name form count held))

-- map and script are right, and ask for no more labels than a run takes
pub record IsServable (form : Form) (map_bytes script_bytes : List ℕ) : Type 0 where
  pub map : IsMap form map_bytes
  pub script : IsScriptText script_bytes
  pub labels : AreFewLabels form map_bytes script_bytes
