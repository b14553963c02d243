-- A script that was answered, with its replies kept.
use Rattle.std.specs.Prelude.{◌≡◌, ◌<◌, ℕ, List, length, map, slice_index_or}
use Rattle.std.specs.List.{flat_map}
use Rattle.traffic_core.specs.declared.entry.Entry.{Entry}
use Rattle.traffic_core.specs.Lands.{Land}
use Rattle.script_text.specs.declared.reply.Reply.{Reply}
use Rattle.script_text.specs.declared.script.Script.{Script}
use Rattle.script_service.specs.declared.actor.Heard.{Heard}
use Rattle.script_service.specs.declared.collecting.Answers.{Answers}
use Rattle.script_service.specs.Answering.{Answered, joined}
use Rattle.script_service.specs.Fitting.{Begins}
use Rattle.script_service.specs.Actors.{Acting, Know}

-- the replies alone
abbrev pub replies : List Answered → List Reply
replies answered = map (λ (a : Answered). a.reply) answered

abbrev pub replies_heard : List Heard → List Reply
replies_heard heard = map (λ (h : Heard). h.told.reply) heard

-- what was heard are the replies of phases and a journal that answer the whole script, and there are as many entries as are told
pub record AreAnswers (land : Land) (script : Script) (answers : Answers) : Type 0 where
  pub phases : List (List Answered)
  pub journal : List Entry
  pub begins : Begins land script phases journal (length script.phases)
  pub replies_are : replies_heard answers.heard.items ≡ replies (joined phases)
  pub entries : answers.entries ≡ length journal

-- what actors were told in a phase, actor by actor
abbrev pub heard_by : List Acting → List Heard
heard_by actors = flat_map (λ (a : Acting). a.part) actors

-- the actor is as it was, but for what it was told in the phase
pub record HasHandedOver (before after : Acting) : Type 0 where
  pub seat : after.seat ≡ before.seat
  pub knows : after.knows ≡ before.knows

pub record HasHanded (before after : List Acting) : Type 0 where
  pub len : length after ≡ length before
  pub each : (i : ℕ) (d : Acting) → i < length before → HasHandedOver (slice_index_or before i d) (slice_index_or after i d)

-- with this journal, so many phases were answered, what was heard are their replies, and the actors know what they were answered
pub record HasCollected (land : Land) (script : Script) (journal : List Entry) (actors : List Acting) (count : ℕ) (heard : List Heard) : Type 0 where
  pub phases : List (List Answered)
  pub begins : Begins land script phases journal count
  pub knows : Know land journal (joined phases) actors
  pub replies_are : replies_heard heard ≡ replies (joined phases)
