use Rattle.pbf_writer.proofs.Grown.{next_tag, words_more, keys_more, values_more}
use Rattle.pbf_writer.proofs.ways.place_tags.Goals as goal

pub loop-tag-preserved : goal.loop-tag-preserved
loop-tag-preserved c =
    let tag = c.tag-item.result in
    let left = next_tag c.args.tags.now c.loop-tag.tag-index c.tag-item.result c.loop-tag-test.true c.tag-item.is in
    record {
      words = words_more _ _ c.tag-item.result _ _ _ _ _ _ left c.as_str.ensures c.as_str-in-loop-tag.ensures c.in_ok-place.ensures.words c.in_ok-place-2.ensures.words c.loop-tag.invariant.words;
      text = λ old. c.in_ok-place-2.ensures.text (c.in_ok-place.ensures.text (c.loop-tag.invariant.text old));
      keys = keys_more _ _ c.tag-item.result _ _ _ _ _ _ _ _ left c.as_str.ensures c.in_ok-place.ensures.words c.loop-tag.invariant.words c.in_ok-place.ensures.place c.in_ok-push.ensures.items c.loop-tag.invariant.keys;
      values = values_more _ _ c.tag-item.result _ _ _ _ _ _ _ _ _ _ left c.as_str.ensures c.as_str-in-loop-tag.ensures c.in_ok-place.ensures.words c.in_ok-place-2.ensures.words c.loop-tag.invariant.words c.in_ok-place-2.ensures.place c.in_ok-push-2.ensures.items c.loop-tag.invariant.values;
    }
