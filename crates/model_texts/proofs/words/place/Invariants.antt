use Rattle.std.proofs.Common.{◌≡◌, drop}
use Rattle.model_texts.specs.Words.{place_from}
use Rattle.model_texts.proofs.words.place.Given as goal

abbrev pub invariant-loop-area : goal.invariant-loop-area
invariant-loop-area l = record {
  left : place_from l.n (drop l.area-index l.areas) l.id ≡ place_from 0 l.areas l.id;
  count : l.n ≡ l.area-index;
}
