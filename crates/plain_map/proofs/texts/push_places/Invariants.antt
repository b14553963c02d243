use Rattle.std.proofs.Common.{◌≡◌, ◌<◌, ◌≤◌, ◌^◌, ◌++◌}
use Rattle.plain_map.specs.Printing.{places_text}
use Rattle.plain_map.proofs.texts.push_places.Given as goal

-- what is written, and what the places that are left will be
abbrev pub invariant-digits : goal.invariant-digits
invariant-digits l = record {
  small : l.left < 10 ^ l.places;
  few : l.places ≤ 7;
  written : l.out.items ++ places_text l.places l.left ≡ l.fn.out.items ++ places_text 7 l.n;
}

abbrev pub decreases-digits : goal.decreases-digits
decreases-digits l = l.places
