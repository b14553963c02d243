use Rattle.pbf_file_laws.proofs.Runs.{message_read}
use Rattle.pbf_file_laws.proofs.laws.messages_are_read.Goals as goal

pub returns : goal.returns
returns c = λ bytes content at entries stands written. message_read bytes content at entries stands written
