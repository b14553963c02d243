-- What is given of a map among the words.
use Rattle.gh_words.specs.declared.counted.CountedMap.{CountedMap}
use Rattle.gh_words.specs.declared.on_map.MapAt.{MapAt}
use Rattle.gh_words.specs.Words as words

-- where a map is, as contracts see it
abbrev pub map_at_by : MapAt → words.MapAt
map_at_by at = record { map = at.map.now; form = at.form }

-- with a number of landmarks
abbrev pub counted_by : CountedMap → words.CountedMap
counted_by at = record { map = at.map.now; form = at.form; count = at.count }
