-- What a reference that may be there shows.
use Rattle.std.specs.Prelude.{Option, Some, None}
use denote.Ref.{Bor}

-- what the reference shows, or none where there is no reference
abbrev pub seen : {X : Type 0} → Option (Bor X) → Option X
seen None = None
seen (Some shown) = Some shown.now
