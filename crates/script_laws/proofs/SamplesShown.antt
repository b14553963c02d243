-- The texts compute.
use Rattle.std.proofs.Common.{◌≡◌, refl}
use Rattle.std.specs.Fmt.{digits}
use Rattle.script_text.specs.Entries.{entry_line}
use Rattle.script_text.specs.Replies.{edge_text, reply_line}
use Rattle.script_laws.specs.Samples.{RepliesAreSo, EntriesAreSo}

pub replies_so : RepliesAreSo
unfolding reply_line edge_text digits
replies_so = refl

pub entries_so : EntriesAreSo
unfolding entry_line edge_text digits
entries_so = refl
