use Rattle.std.proofs.Common.{◌≡◌, ◌++◌, map, drop}
use Rattle.gh_base.specs.declared.map.OsmTag.{OsmTag}
use Rattle.pbf_wire.specs.Writing.{index_of, words_of}
use Rattle.pbf_writer.specs.Strings.{spelled, grown, IsText}
use Rattle.pbf_writer.proofs.ways.place_tags.Given as goal

-- the strings so far, the places so far, and those of the tags that are left
abbrev pub invariant-loop-tag : goal.invariant-loop-tag
invariant-loop-tag l = record {
  words : grown (spelled l.strings.words) (words_of (drop l.tag-index l.tags)) ≡ grown (spelled l.fn.strings.words) (words_of l.tags);
  text : IsText l.fn.strings → IsText l.strings;
  keys : l.keys.items ++ map (λ (tag : OsmTag). index_of (grown (spelled l.fn.strings.words) (words_of l.tags)) tag.key) (drop l.tag-index l.tags) ≡ map (λ (tag : OsmTag). index_of (grown (spelled l.fn.strings.words) (words_of l.tags)) tag.key) l.tags;
  values : l.values.items ++ map (λ (tag : OsmTag). index_of (grown (spelled l.fn.strings.words) (words_of l.tags)) tag.value) (drop l.tag-index l.tags) ≡ map (λ (tag : OsmTag). index_of (grown (spelled l.fn.strings.words) (words_of l.tags)) tag.value) l.tags;
}
