use Rattle.pbf_writer.proofs.Tables.{spelled_after, place_after, text_after}
use Rattle.pbf_writer.proofs.strings.Strings.place.Goals as goal

pub returns-in_ok-put_bytes-clause-words : goal.returns-in_ok-put_bytes-clause-words
returns-in_ok-put_bytes-clause-words c = spelled_after c.args.self.now.words.keys c.insert_full.new.self.keys c.args.word c.in_ok-place.ensures.keys

pub returns-in_ok-put_bytes-clause-text : goal.returns-in_ok-put_bytes-clause-text
returns-in_ok-put_bytes-clause-text c = text_after c.args.self.now.words.keys c.insert_full.new.self.keys c.args.word c.in_ok-place.is_new _ _ _ c.in_ok-place.ensures.keys c.in_ok-place.ensures.added c.if-is_new.true c.as_bytes.ensures.value c.in_ok-put_bytes.ensures.put

pub returns-in_ok-put_bytes-clause-place : goal.returns-in_ok-put_bytes-clause-place
returns-in_ok-put_bytes-clause-place c = place_after c.args.self.now.words.keys c.insert_full.new.self.keys c.args.word c.in_ok-place.place c.in_ok-place.ensures.keys c.in_ok-place.ensures.index

pub returns-else-is_new-clause-words : goal.returns-else-is_new-clause-words
returns-else-is_new-clause-words c = spelled_after c.args.self.now.words.keys c.insert_full.new.self.keys c.args.word c.in_ok-place.ensures.keys

pub returns-else-is_new-clause-place : goal.returns-else-is_new-clause-place
returns-else-is_new-clause-place c = place_after c.args.self.now.words.keys c.insert_full.new.self.keys c.args.word c.in_ok-place.place c.in_ok-place.ensures.keys c.in_ok-place.ensures.index
