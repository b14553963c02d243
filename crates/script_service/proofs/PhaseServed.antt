-- A phase more of a script was answered, and written whole or in part.
use Rattle.std.proofs.Common.{◌≡◌, ◌∙◌, ℕ, ◌+◌, ◌<◌, ◌≤◌, List, [], ◌∷◌, ◌++◌, length, Option, All, arith, ap, sym, subst, refl, inl, inr}
use Rattle.std.specs.Io.KnownBytes.{Appends}
use Rattle.std.proofs.KnownBytes.{Appends-nil, Appends-trans}
use Rattle.gh_base.specs.Causes.{AppendsFront, Rose}
use Rattle.traffic_core.specs.declared.entry.Entry.{Entry}
use Rattle.traffic_core.specs.Lands.{Land}
use Rattle.script_text.specs.declared.script.Script.{Script}
use Rattle.script_service.specs.Answering.{Answered, joined, lines}
use Rattle.script_service.specs.Fitting.{Begins, by_actor}
use Rattle.script_service.specs.Writing.{BeginsText, BeginsOrFits, Fits, journal_text, lines_text}
use Rattle.script_service.specs.Going.{Serves}
use Rattle.traffic_share.specs.Seats.{Place}
use Rattle.script_service.specs.Actors.{Acting, Know, parts_in}
use Rattle.script_service.specs.Underway.{AreReady, HasPhase, HasServed, IsUnderway, phase_of}
use Rattle.script_service.proofs.PhaseMore.{begins_more, begins_none, joined_more}
use Rattle.script_service.proofs.WrittenTexts.{front_behind, text_more}

pub rose_later : (a b c : ℕ) → a ≤ b → Rose b c → Rose a c
rose_later a b c before rose = omega arith

pub underway_none : (land : Land) (script : Script) (journal : List Entry) (actors : List Acting) (old : Option (List ℕ)) → journal ≡ [] → Know land [] [] actors → IsUnderway land script journal actors 0 old old
underway_none land script journal actors old none knows = record {
  phases = [];
  begins = subst (λ (j : List Entry). Begins land script [] j 0) (sym none) (begins_none land script);
  knows = subst (λ (j : List Entry). Know land j [] actors) (sym none) knows;
  written = Appends-nil old;
}

-- of a phase that was answered
pub record IsServed (land : Land) (script : Script) (phases : List (List Answered)) (part : List Answered) (i : ℕ) (ys : List Entry) (after : List Acting) : Type 0 where
  pub begins : Begins land script (phases ++ part ∷ []) ys (i + 1)
  pub knows : Know land ys (joined phases ++ part) after

module _ (land : Land) (script : Script) (i : ℕ) (service later : Place) (before after : List Acting) (ready : AreReady script i service before) (below : i < length script.phases)
    (phase : HasPhase land script i service later before after) where
  pub is_served : (phases : List (List Answered)) → Begins land script phases service.entries i → Know land service.entries (joined phases) before →
      IsServed land script phases (parts_in (phase_of script i) after) i later.entries after
  is_served phases begins knows =
      let part : List Answered = parts_in (phase_of script i) after in
      let counted = begins.journal_is.count in
      let within : All (λ (a : Answered). a.at ≤ length service.entries) (joined phases) = λ k d h. let was = begins.sees.within k d h in omega arith in
      let both = phase.serves (joined phases) within knows in
      let served : Serves land script.capacity (joined phases) service.entries later.entries part = both.0 in
      let in_order : lines part ≡ by_actor (length script.actors) (phase_of script i) = phase.order ∙ ap (λ (n : ℕ). by_actor n (phase_of script i)) ready.len in
      record {
        begins = begins_more land script phases part service.entries later.entries i begins below in_order served.starts served.goes served.fills phase.room;
        knows = both.1;
      }

  pub underway_more : (old mid new : Option (List ℕ)) → IsUnderway land script service.entries before i old mid → (text : List ℕ) → text ≡ lines_text script.actors (parts_in (phase_of script i) after) →
      Appends mid new text → IsUnderway land script later.entries after (i + 1) old new
  underway_more old mid new underway text is written =
      let part : List Answered = parts_in (phase_of script i) after in
      let served = is_served underway.phases underway.begins underway.knows in
      let part_written : Appends mid new (lines_text script.actors part) = subst (λ (t : List ℕ). Appends mid new t) is written in
      record {
        phases = underway.phases ++ part ∷ [];
        begins = served.begins;
        knows = subst (λ (l : List Answered). Know land later.entries l after) (sym (joined_more underway.phases part)) served.knows;
        written = subst (λ (t : List ℕ). Appends old new t) (sym (text_more script.actors underway.phases part)) (Appends-trans old mid new _ _ underway.written part_written);
      }

  -- where its text was not written whole
  pub front_more : (old mid new : Option (List ℕ)) → IsUnderway land script service.entries before i old mid → (text : List ℕ) → text ≡ lines_text script.actors (parts_in (phase_of script i) after) →
      AppendsFront mid new text → (whole : List ℕ) × BeginsOrFits land script whole × AppendsFront old new whole
  front_more old mid new underway text is written =
      let part : List Answered = parts_in (phase_of script i) after in
      let served = is_served underway.phases underway.begins underway.knows in
      let part_written : AppendsFront mid new (lines_text script.actors part) = subst (λ (t : List ℕ). AppendsFront mid new t) is written in
      let begins : BeginsText land script (lines_text script.actors (joined underway.phases) ++ lines_text script.actors part) = record {
        phases = underway.phases ++ part ∷ [];
        journal = later.entries;
        count = i + 1;
        within = omega arith;
        begins = served.begins;
        text_is = sym (text_more script.actors underway.phases part);
      } in (
        lines_text script.actors (joined underway.phases) ++ lines_text script.actors part,
        inl begins,
        front_behind old mid new (lines_text script.actors (joined underway.phases)) (lines_text script.actors part) underway.written part_written,
      )

-- before the first phase
pub nothing_begun : (land : Land) (script : Script) (old : Option (List ℕ)) → (text : List ℕ) × BeginsText land script text × Appends old old text
nothing_begun land script old = (
  [],
  record {
    phases = [];
    journal = [];
    count = 0;
    within = omega arith;
    begins = begins_none land script;
    text_is = refl;
  },
  Appends-nil old,
)

-- all phases were answered and written
pub all_begun : (land : Land) (script : Script) (journal : List Entry) (old new : Option (List ℕ)) → HasServed land script journal (length script.phases) old new → (text : List ℕ) × BeginsText land script text × Appends old new text
all_begun land script journal old new served = (
  lines_text script.actors (joined served.phases),
  record {
    phases = served.phases;
    journal = journal;
    count = length script.phases;
    within = omega arith;
    begins = served.begins;
    text_is = refl;
  },
  served.written,
)

fits : (land : Land) (script : Script) (journal : List Entry) (old mid : Option (List ℕ)) (served : HasServed land script journal (length script.phases) old mid) (text : List ℕ) → text ≡ journal_text script.actors land.profiles journal →
    Fits land script (lines_text script.actors (joined served.phases) ++ text)
fits land script journal old mid served text is = record {
  phases = served.phases;
  journal = journal;
  begins = served.begins;
  text_is = ap (λ (t : List ℕ). lines_text script.actors (joined served.phases) ++ t) is;
}

-- and the journal behind them
pub whole_written : (land : Land) (script : Script) (journal : List Entry) (old mid new : Option (List ℕ)) → HasServed land script journal (length script.phases) old mid → (text : List ℕ) →
    text ≡ journal_text script.actors land.profiles journal → Appends mid new text → (whole : List ℕ) × Fits land script whole × Appends old new whole
whole_written land script journal old mid new served text is written = (
  lines_text script.actors (joined served.phases) ++ text,
  fits land script journal old mid served text is,
  Appends-trans old mid new (lines_text script.actors (joined served.phases)) text served.written written,
)

-- or a front of it
pub journal_front : (land : Land) (script : Script) (journal : List Entry) (old mid new : Option (List ℕ)) → HasServed land script journal (length script.phases) old mid → (text : List ℕ) →
    text ≡ journal_text script.actors land.profiles journal → AppendsFront mid new text → (whole : List ℕ) × BeginsOrFits land script whole × AppendsFront old new whole
journal_front land script journal old mid new served text is written = (
  lines_text script.actors (joined served.phases) ++ text,
  inr (fits land script journal old mid served text is),
  front_behind old mid new (lines_text script.actors (joined served.phases)) text served.written written,
)
