-- The turns of a call that appends: where another's entry came it goes on, and where its own did it is accepted.
use Rattle.std.proofs.Common.{◌≡◌, ℕ, ◌+◌, [], ◌∷◌, ◌++◌, length, ◌∙◌, arith, length-append}
use Rattle.traffic_core.specs.declared.entry.Entry.{Entry}
use Rattle.traffic_share.specs.Seats.{Place, HasSameSeat, Accepts}
use Rattle.traffic_share.specs.Notes.{IsOther, GoesOn}
use Rattle.traffic_share.proofs.ListsThatBegin.{grew_push}

-- another's entry came
pub goes_on : (mine : Entry) (number : ℕ) (before now next : Place) → GoesOn mine number before now → HasSameSeat now next
    → IsOther mine now.entries next.entries → GoesOn mine number before next
goes_on mine number before now next so same came = record {
  cells = same.cells ∙ so.cells;
  actor = same.actor ∙ so.actor;
  last = same.last ∙ so.last;
  grew = grew_push mine came.found before.entries now.entries next.entries so.grew came.is came.other;
}

-- its own entry came
abbrev pub accepted_at : (mine : Entry) (number : ℕ) (before now next : Place) (at : ℕ) → GoesOn mine number before now
    → next.entries ≡ now.entries ++ mine ∷ [] → at ≡ length now.entries + 1 → Accepts mine before.entries next.entries at
accepted_at mine number before now next at so is place = record {
  front = now.entries;
  is = is;
  begins = so.grew;
  place = rw is (omega (arith, length-append now.entries (mine ∷ [])));
}
