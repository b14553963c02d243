-- Written scripts are read again.
use Rattle.std.proofs.Common.{◌≡◌, ◌≢◌, ◌∙◌, ℕ, suc, ◌+◌, ◌-◌, ◌^◌, ◌<◌, ◌≤◌, List, [], ◌∷◌, ◌++◌, map, length, get_or, take, Bool, true, false, eqb, ltb, Option, Some, None, Result, Ok, Err, IsTrue, refl, ap, sym, subst, arith, append_assoc, append-nil, length-append}
use Rattle.std.specs.Prelude.{All, codes, decimal, slice_get, slice_index_or, position}
use Rattle.std.specs.List.{AllPairs, position_or_len}
use Rattle.std.specs.Str.{bytes_eq}
use Rattle.std.proofs.Math.Seq.{take-append_seam, get_or-append_seam}
use Rattle.std.proofs.lemmas.Bool.Decides.{nat_tests}
use Rattle.std.proofs.lemmas.List.{get_or_append_left}
use Rattle.std.proofs.lemmas.List.Sums.{position_or_len_is}
use Rattle.std.proofs.lemmas.Option.{slice_get-get_or}
use Rattle.gh_base.specs.Parts.{parts_of}
use Rattle.gh_base.specs.declared.query.Vehicle.TheVariants.{Car, Bike, Foot}
use Rattle.model_eval.specs.Models.{no_model}
use Rattle.weighting.specs.declared.profile.Profile.{Profile}
use Rattle.plain_map.specs.Printing.{lines_text}
use Rattle.plain_map.proofs.Splits.{Each, Without}
use Rattle.plain_map.proofs.PrintedWords.{AllItems, all_items}
use Rattle.script_text.specs.declared.fault.ScriptFault.{ScriptFault}
use Rattle.script_text.specs.declared.line.Said.{Said}
use Rattle.script_text.specs.declared.line.Said.TheVariants as said
use Rattle.script_text.specs.declared.script.Command.{Command}
use Rattle.script_text.specs.declared.script.Line.{Line}
use Rattle.script_text.specs.declared.script.Script.{Script}
use Rattle.script_text.specs.declared.script.ScriptRead.{ScriptRead}
use Rattle.script_text.specs.declared.so_far.SoFar.{SoFar}
use Rattle.script_text.specs.Commands.{with_default, place_in}
use Rattle.script_text.specs.Grammar.{and_so, reads_from, script_from, script_of, nothing}
use Rattle.script_text.specs.Headers.{actor_in}
use Rattle.script_text.specs.Lines.{all_lines, line_at, with_said}
use Rattle.script_text.specs.Names.{is_name}
use Rattle.script_text.specs.Scripts.{IsScript, IsLine, IsProfile, AreProfiles, AreActors, AreLines, lines_of, turns_of}
use Rattle.script_laws.specs.Writing.{spaced, vehicle_word, command_words, profile_line, actor_line, command_line, phases_lines, script_lines, script_text, IsSayable, IsWritable}
use Rattle.script_laws.proofs.Words.{IsGraphic, word_graphic}
use Rattle.script_laws.proofs.Numbers.{decimal_graphic}
use Rattle.script_laws.proofs.Names.{word_of}
use Rattle.script_laws.proofs.CommandLines.{command_line_again}
use Rattle.script_laws.proofs.HeaderLines.{vehicle_graphic, profile_line_again, journal_line_again, actor_line_again, sync_line_again}
use Rattle.script_laws.proofs.Newlines.{in_line, spaced_in_line, command_in_line, lines_parted, items_append}

-- these lines make this of what stood before, whatever follows them
abbrev Becomes : SoFar → List (List ℕ) → SoFar → Type 0
Becomes s lines t = (number : ℕ) (rest : List (List ℕ)) (answer : Result SoFar ScriptFault) → ((k : ℕ) → reads_from k t rest ≡ answer) → reads_from number s (lines ++ rest) ≡ answer

one_more : (s t : SoFar) (line : List ℕ) (lines : List (List ℕ)) (said : Said) → line_at s line ≡ Ok said → Becomes (with_said s said) lines t → Becomes s (line ∷ lines) t
one_more s t line lines said e f number rest answer g = rw e (f (number + 1) rest answer g)

-- ---- names that are new

not_below : (n : ℕ) → ltb n n ≡ false
not_below n = grind (arith, nat_tests)

nowhere : {X : Type 0} (p : X → Bool) (xs : List X) (d : X) → ((j : ℕ) → j < length xs → p (get_or xs j d) ≡ false) → position p xs ≡ None
nowhere p xs d h =
    let at : position_or_len p xs ≡ length xs = position_or_len_is p xs (length xs) d (omega arith) h (λ lt. absurd (omega arith)) in
    rw (at, not_below (length xs)) refl

before_differ : {X : Type 0} (R : X → X → Type 0) (before : List X) (x : X) (after : List X) (d : X) → AllPairs R (before ++ x ∷ after) → (j : ℕ) → j < length before → R (get_or before j d) x
before_differ R before x after d h j lt =
    let all = h j (length before) d lt (omega (arith, length-append before (x ∷ after))) in
    subst (λ y. R y x) (get_or_append_left before (x ∷ after) d j lt) (subst (λ y. R (get_or (before ++ x ∷ after) j d) y) (get_or-append_seam before x after d) all)

seam : {X : Type 0} (P : X → Type 0) (before : List X) (x : X) (after : List X) → All P (before ++ x ∷ after) → P x
seam P before x after h = subst P (get_or-append_seam before x after x) (h (length before) x (omega (arith, length-append before (x ∷ after))))

new_profile : (before : List Profile) (p : Profile) (after : List Profile) → AllPairs (λ (a b : Profile). bytes_eq a.name b.name ≡ false) (before ++ p ∷ after) → place_in before p.name ≡ None
new_profile before p after h = nowhere (λ (a : Profile). bytes_eq a.name p.name) before p (before_differ (λ (a b : Profile). bytes_eq a.name b.name ≡ false) before p after p h)

new_actor : (before : List (List ℕ)) (name : List ℕ) (after : List (List ℕ)) → AllPairs (λ (a b : List ℕ). bytes_eq a b ≡ false) (before ++ name ∷ after) → actor_in before name ≡ None
new_actor before name after h = nowhere (λ (a : List ℕ). bytes_eq a name) before name (before_differ (λ (a b : List ℕ). bytes_eq a b ≡ false) before name after name h)

-- ---- headers

abbrev declared : List Profile → SoFar
declared profiles = record { profiles = profiles; journal = None; actors = []; done = []; phase = [] }

profile_is : (p : Profile) → p.model ≡ no_model → record { name = p.name; vehicle = p.vehicle; model = no_model } ≡ p
profile_is p e = ap (λ m. record { name = p.name; vehicle = p.vehicle; model = m }) (sym e)

profiles_become : (before after : List Profile) → AreProfiles (before ++ after) → All (λ (p : Profile). p.model ≡ no_model) (before ++ after) → Becomes (declared before) (map profile_line after) (declared (before ++ after))
profiles_become before [] are models = subst (λ (all : List Profile). Becomes (declared before) [] (declared all)) (sym (append-nil before)) (λ number rest answer g. g number)
profiles_become before (p ∷ after) are models =
    let is : IsProfile p = seam IsProfile before p after are.each in
    let model = seam (λ (q : Profile). q.model ≡ no_model) before p after models in
    let new = new_profile before p after are.different in
    let few : length before < 8 = omega (arith, are.few, length-append before (p ∷ after)) in
    let said_p = subst (λ (q : Profile). line_at (declared before) (profile_line p) ≡ Ok (said.Profile q)) (profile_is p model) (profile_line_again (declared before) refl refl p.name p.vehicle is.name new few) in
    let again = append_assoc before (p ∷ []) after in
    one_more (declared before) (declared (before ++ p ∷ after)) (profile_line p) (map profile_line after) (said.Profile p) said_p
    (subst (λ (all : List Profile). Becomes (declared (before ++ p ∷ [])) (map profile_line after) (declared all)) again
    (profiles_become (before ++ p ∷ []) after (subst AreProfiles (sym again) are) (subst (λ (all : List Profile). All (λ (q : Profile). q.model ≡ no_model) all) (sym again) models)))

module _ (profiles : List Profile) (capacity : ℕ) where
  abbrev manned : List (List ℕ) → SoFar
  manned actors = record { profiles = profiles; journal = Some capacity; actors = actors; done = []; phase = [] }

  actors_become : (before after : List (List ℕ)) → AreActors (before ++ after) → Becomes (manned before) (map actor_line after) (manned (before ++ after))
  actors_become before [] are = subst (λ (all : List (List ℕ)). Becomes (manned before) [] (manned all)) (sym (append-nil before)) (λ number rest answer g. g number)
  actors_become before (name ∷ after) are =
      let is : IsTrue (is_name name) = seam (λ (n : List ℕ). IsTrue (is_name n)) before name after are.each in
      let new = new_actor before name after are.different in
      let few : length before < 16 = omega (arith, are.few, length-append before (name ∷ after)) in
      let again = append_assoc before (name ∷ []) after in
      one_more (manned before) (manned (before ++ name ∷ after)) (actor_line name) (map actor_line after) (said.Actor name) (actor_line_again (manned before) refl refl name is new few)
      (subst (λ (all : List (List ℕ)). Becomes (manned (before ++ name ∷ [])) (map actor_line after) (manned all)) again
      (actors_become (before ++ name ∷ []) after (subst AreActors (sym again) are)))

-- ---- phases

lines_of_append : (a b : List (List Line)) → lines_of (a ++ b) ≡ lines_of a ++ lines_of b
lines_of_append [] b = refl
lines_of_append (phase ∷ a) b = ap (λ (xs : List Line). phase ++ xs) (lines_of_append a b) ∙ sym (append_assoc phase (lines_of a) (lines_of b))

default_of : (profiles : List Profile) → 0 < length profiles → with_default profiles ≡ profiles
default_of [] h = absurd (omega arith)
default_of (p ∷ ps) h = refl

module _ (profiles : List Profile) (capacity : ℕ) (actors : List (List ℕ)) (some : 0 < length profiles) (are : AreProfiles profiles) (names : AreActors actors) (total : List Line) (lines_are : AreLines (length profiles) (length actors) total) (says : All (λ (l : Line). IsSayable (length profiles) l.command) total) where
  abbrev state : List (List Line) → List Line → SoFar
  state done phase = record { profiles = profiles; journal = Some capacity; actors = actors; done = done; phase = phase }

  line_here : (before : List Line) (line : Line) (after : List Line) → total ≡ before ++ line ∷ after → IsLine (length profiles) (length actors) line × IsSayable (length profiles) line.command × (line.number ≡ turns_of line.actor before + 1) × (length before < 65536)
  line_here before line after e =
      let each = subst (λ (xs : List Line). All (IsLine (length profiles) (length actors)) xs) e lines_are.each in
      let said = subst (λ (xs : List Line). All (λ (l : Line). IsSayable (length profiles) l.command) xs) e says in
      let inside : length before < length (before ++ line ∷ after) = omega (arith, length-append before (line ∷ after)) in
      let few : length total < 65537 = omega (arith, lines_are.few) in
      let shorter : length before < 65536 = omega (arith, few, inside, ap (λ (xs : List Line). length xs) e) in
      let number = subst (λ (xs : List Line). (k : ℕ) (d : Line) → k < length xs → (slice_index_or xs k d).number ≡ turns_of (slice_index_or xs k d).actor (take k xs) + 1) e lines_are.numbered (length before) line inside in
      let at = subst (λ (x : Line). x.number ≡ turns_of x.actor (take (length before) (before ++ line ∷ after)) + 1) (get_or-append_seam before line after line) number in
      let own = subst (λ (xs : List Line). line.number ≡ turns_of line.actor xs + 1) (take-append_seam before (line ∷ after)) at in
      (seam (IsLine (length profiles) (length actors)) before line after each, seam (λ (l : Line). IsSayable (length profiles) l.command) before line after said, own, shorter)

  line_reads : (done : List (List Line)) (phase : List Line) (line : Line) → IsLine (length profiles) (length actors) line → IsSayable (length profiles) line.command → length (lines_of done ++ phase) < 65536 →
      line_at (state done phase) (command_line profiles actors line) ≡ Ok (said.Command line.actor line.command)
  line_reads done phase line is sayable few =
      let d = default_of profiles some in
      let there : slice_get actors line.actor ≡ Some (slice_index_or actors line.actor []) = slice_get-get_or actors line.actor [] is.actor in
      let read = command_line_again (state done phase) line.actor (slice_index_or actors line.actor []) names there few line.command in
      let read_so = subst (λ (ps : List Profile). AreProfiles ps → IsSayable (length ps) line.command → line_at (state done phase) (command_line ps actors line) ≡ Ok (said.Command line.actor line.command)) d read in
      read_so are sayable

  number_is : (line : Line) (n : ℕ) → line.number ≡ n → record { actor = line.actor; number = n; command = line.command } ≡ line
  number_is line n e = ap (λ (k : ℕ). record { actor = line.actor; number = k; command = line.command }) (sym e)

  lines_become : (done : List (List Line)) (phase lines more : List Line) → total ≡ (lines_of done ++ phase) ++ (lines ++ more) → Becomes (state done phase) (map (command_line profiles actors) lines) (state done (phase ++ lines))
  lines_become done phase [] more e = subst (λ (all : List Line). Becomes (state done phase) [] (state done all)) (sym (append-nil phase)) (λ number rest answer g. g number)
  lines_become done phase (line ∷ lines) more e =
      let h = line_here (lines_of done ++ phase) line (lines ++ more) e in
      let again = append_assoc phase (line ∷ []) lines in
      let behind : total ≡ (lines_of done ++ (phase ++ line ∷ [])) ++ (lines ++ more) = e ∙ (sym (append_assoc (lines_of done ++ phase) (line ∷ []) (lines ++ more)) ∙ ap (λ (xs : List Line). xs ++ (lines ++ more)) (append_assoc (lines_of done) phase (line ∷ []))) in
      let rest = subst (λ (all : List Line). Becomes (state done (phase ++ line ∷ [])) (map (command_line profiles actors) lines) (state done all)) again (lines_become done (phase ++ line ∷ []) lines more behind) in
      one_more (state done phase) (state done (phase ++ line ∷ lines)) (command_line profiles actors line) (map (command_line profiles actors) lines) (said.Command line.actor line.command) (line_reads done phase line h.0 h.1 h.3)
      (subst (λ (l : Line). Becomes (state done (phase ++ l ∷ [])) (map (command_line profiles actors) lines) (state done (phase ++ line ∷ lines))) (sym (number_is line (turns_of line.actor (lines_of done ++ phase) + 1) h.2)) rest)

  ends_so : (done : List (List Line)) (phase : List Line) (k : ℕ) → reads_from k (state done phase) ([] ∷ []) ≡ Ok (state done phase)
  unfolding line_at
  ends_so done phase k = refl

  abbrev ended : List (List Line) → ScriptRead
  ended phases = record { profiles = profiles; script = record { capacity = capacity; actors = actors; phases = phases } }

  -- reads what is left as these phases
  abbrev Ends : SoFar → List (List ℕ) → List (List Line) → Type 0
  Ends s lines phases = (t : SoFar) × ((number : ℕ) → reads_from number s (lines ++ [] ∷ []) ≡ Ok t) × (script_from t ≡ ended phases)

  last_phase : (done : List (List Line)) (phase : List Line) → script_from (state done phase) ≡ ended (done ++ phase ∷ [])
  last_phase done phase = ap (λ (ps : List Profile). record { profiles = ps; script = record { capacity = capacity; actors = actors; phases = done ++ phase ∷ [] } }) (default_of profiles some)

  phases_end : (done : List (List Line)) (phase : List Line) (phases : List (List Line)) → total ≡ lines_of done ++ (phase ++ lines_of phases) → Ends (state done []) (phases_lines profiles actors (phase ∷ phases)) (done ++ phase ∷ phases)
  phases_end done phase [] e =
      let become = lines_become done [] phase [] (e ∙ ap (λ (xs : List Line). xs ++ (phase ++ [])) (sym (append-nil (lines_of done)))) in
      (state done phase, λ number. become number ([] ∷ []) (Ok (state done phase)) (ends_so done phase), last_phase done phase)
  phases_end done phase (next ∷ phases) e =
      let become = lines_become done [] phase (lines_of (next ∷ phases)) (e ∙ ap (λ (xs : List Line). xs ++ (phase ++ lines_of (next ∷ phases))) (sym (append-nil (lines_of done)))) in
      let behind : total ≡ lines_of (done ++ phase ∷ []) ++ (next ++ lines_of phases) = e ∙ (sym (append_assoc (lines_of done) phase (lines_of (next ∷ phases))) ∙ ap (λ (xs : List Line). xs ++ lines_of (next ∷ phases)) (ap (λ (xs : List Line). lines_of done ++ xs) (sym (append-nil phase)) ∙ sym (lines_of_append done (phase ∷ [])))) in
      let rest = phases_end (done ++ phase ∷ []) next phases behind in
      let more = map (command_line profiles actors) phase in
      let tail = phases_lines profiles actors (next ∷ phases) in
      let sync : (k : ℕ) → reads_from k (state done phase) ((codes "sync" ∷ tail) ++ [] ∷ []) ≡ reads_from (k + 1) (state (done ++ phase ∷ []) []) (tail ++ [] ∷ []) = λ k. rw (sync_line_again (state done phase)) refl in (
        rest.0,
        λ number. subst (λ (ls : List (List ℕ)). reads_from number (state done []) ls ≡ Ok rest.0) (sym (append_assoc more (codes "sync" ∷ tail) ([] ∷ [])))
            (become number ((codes "sync" ∷ tail) ++ [] ∷ []) (Ok rest.0) (λ k. sync k ∙ rest.1 (k + 1))),
        rest.2 ∙ ap ended (append_assoc done (phase ∷ []) (next ∷ phases)),
      )

  all_phases : (phases : List (List Line)) → 0 < length phases → total ≡ lines_of phases → Ends (state [] []) (phases_lines profiles actors phases) phases
  all_phases [] h e = absurd (omega arith)
  all_phases (phase ∷ phases) h e = phases_end [] phase phases e

  -- ---- no line has a newline

  items_of : (P : Line → Type 0) (a b : List Line) → AllItems P (a ++ b) → AllItems P a × AllItems P b
  items_of P [] b h = (tt, h)
  items_of P (x ∷ a) b h = let r = items_of P a b h.1 in ((h.0, r.0), r.1)

  line_in_line : (line : Line) → line.actor < length actors → IsSayable (length profiles) line.command → Without 10 (command_line profiles actors line)
  line_in_line line there sayable =
      let name = word_of (slice_index_or actors line.actor []) (names.each line.actor [] there) in
      spaced_in_line (slice_index_or actors line.actor [] ∷ command_words profiles line.command) (in_line (slice_index_or actors line.actor []) name.graphic, command_in_line profiles are line.command sayable)

  abbrev IsGood : Line → Type 0
  IsGood line = (line.actor < length actors) × IsSayable (length profiles) line.command

  phase_in_line : (phase : List Line) → AllItems IsGood phase → AllItems (Without 10) (map (command_line profiles actors) phase)
  phase_in_line [] h = tt
  phase_in_line (line ∷ phase) h = (line_in_line line h.0.0 h.0.1, phase_in_line phase h.1)

  phases_in_line : (phases : List (List Line)) → AllItems IsGood (lines_of phases) → AllItems (Without 10) (phases_lines profiles actors phases)
  phases_in_line [] h = tt
  phases_in_line (phase ∷ []) h = phase_in_line phase (items_of IsGood phase [] h).0
  phases_in_line (phase ∷ next ∷ phases) h =
      let r = items_of IsGood phase (lines_of (next ∷ phases)) h in
      items_append (Without 10) (map (command_line profiles actors) phase) (codes "sync" ∷ phases_lines profiles actors (next ∷ phases)) (phase_in_line phase r.0) (in_line (codes "sync") (word_graphic (codes "sync") refl), phases_in_line (next ∷ phases) r.1)

  good : AllItems IsGood total
  good = all_items IsGood total (λ k d lt. ((lines_are.each k d lt).actor, says k d lt))

profiles_in_line : (profiles : List Profile) → All IsProfile profiles → AllItems (Without 10) (map profile_line profiles)
profiles_in_line [] h = tt
profiles_in_line (p ∷ ps) h = (
  spaced_in_line (codes "profile" ∷ p.name ∷ vehicle_word p.vehicle ∷ []) (in_line (codes "profile") (word_graphic (codes "profile") refl), (in_line p.name (word_of p.name (h 0 p (omega arith)).name).graphic, (in_line (vehicle_word p.vehicle) (vehicle_graphic p.vehicle), tt))),
  profiles_in_line ps (λ k d lt. h (suc k) d (omega arith)),
)

actors_in_line : (actors : List (List ℕ)) → All (λ (n : List ℕ). IsTrue (is_name n)) actors → AllItems (Without 10) (map actor_line actors)
actors_in_line [] h = tt
actors_in_line (a ∷ rest) h = (
  spaced_in_line (codes "actor" ∷ a ∷ []) (in_line (codes "actor") (word_graphic (codes "actor") refl), (in_line a (word_of a (h 0 a (omega arith))).graphic, tt)),
  actors_in_line rest (λ k d lt. h (suc k) d (omega arith)),
)

-- ---- the whole text

module _ (profiles : List Profile) (script : Script) (is : IsScript profiles script) (writable : IsWritable profiles script) where
  lines_in_line : AllItems (Without 10) (script_lines profiles script)
  lines_in_line =
      let journal = in_line (decimal script.capacity) (decimal_graphic script.capacity (omega (arith, is.capacity.few))) in
      let first = spaced_in_line (codes "journal" ∷ decimal script.capacity ∷ []) (in_line (codes "journal") (word_graphic (codes "journal") refl), (journal, tt)) in
      let total = lines_of script.phases in
      let goods = good profiles script.capacity script.actors is.some is.profiles_are is.actors total is.lines writable.commands in
      let phases = phases_in_line profiles script.capacity script.actors is.some is.profiles_are is.actors total is.lines writable.commands script.phases goods in
      items_append (Without 10) (map profile_line profiles) (spaced (codes "journal" ∷ decimal script.capacity ∷ []) ∷ (map actor_line script.actors ++ phases_lines profiles script.actors script.phases))
      (profiles_in_line profiles is.profiles_are.each)
      (first, items_append (Without 10) (map actor_line script.actors) (phases_lines profiles script.actors script.phases) (actors_in_line script.actors is.actors.each) phases)

  read_lines : (t : SoFar) → ((k : ℕ) → reads_from k (manned profiles script.capacity script.actors) (phases_lines profiles script.actors script.phases ++ [] ∷ []) ≡ Ok t) → reads_from 1 nothing (script_lines profiles script ++ [] ∷ []) ≡ Ok t
  read_lines t phases =
      let tail = phases_lines profiles script.actors script.phases in
      let heads = map actor_line script.actors in
      let journal = spaced (codes "journal" ∷ decimal script.capacity ∷ []) in
      let by_actors : (k : ℕ) → reads_from k (manned profiles script.capacity []) ((heads ++ tail) ++ [] ∷ []) ≡ Ok t =
      λ k. subst (λ (ls : List (List ℕ)). reads_from k (manned profiles script.capacity []) ls ≡ Ok t) (sym (append_assoc heads tail ([] ∷ [])))
      (actors_become profiles script.capacity [] script.actors is.actors k (tail ++ [] ∷ []) (Ok t) phases) in
      let by_journal : (k : ℕ) → reads_from k (declared profiles) (journal ∷ ((heads ++ tail) ++ [] ∷ [])) ≡ Ok t =
      λ k. rw (journal_line_again (declared profiles) refl refl script.capacity refl is.capacity.some is.capacity.few) (by_actors (k + 1)) in
      subst (λ (ls : List (List ℕ)). reads_from 1 nothing ls ≡ Ok t) (sym (append_assoc (map profile_line profiles) (journal ∷ (heads ++ tail)) ([] ∷ [])))
      (profiles_become [] profiles is.profiles_are writable.models 1 (journal ∷ ((heads ++ tail) ++ [] ∷ [])) (Ok t) by_journal)

  pub script_again : script_of (script_text profiles script) ≡ Ok (record { profiles = profiles; script = script })
  unfolding script_of
  script_again =
      let total = lines_of script.phases in
      let ends = all_phases profiles script.capacity script.actors is.some is.profiles_are is.actors total is.lines writable.commands script.phases writable.some refl in
      rw (lines_parted (script_lines profiles script) lines_in_line, read_lines ends.0 ends.1) (ap Ok ends.2)
