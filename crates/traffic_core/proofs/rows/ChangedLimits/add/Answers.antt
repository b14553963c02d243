use Rattle.std.proofs.Common.{ℕ, ◌≡◌, ◌<◌, length, ◌∙◌, arith, None}
use Rattle.std.proofs.lemmas.List.{get_or_read}
use Rattle.traffic_core.specs.Rows.{head_of}
use Rattle.traffic_core.proofs.WithRows.{with_rows-push}
use Rattle.traffic_core.proofs.LinkedRows.{linked_pushed}
use Rattle.traffic_core.proofs.rows.ChangedLimits.add.Goals as goal

pub returns-clause-limits : goal.returns-clause-limits
returns-clause-limits c limits =
    rw (c.push_reserved.ensures.items, ← c.self.view_is) (with_rows-push limits c.self.inside.rows.items _)

pub invariant_of-self : goal.invariant_of-self
invariant_of-self c =
    let len : c.len.result ≡ length c.self.inside.heads.items = c.len.ensures ∙ c.self.inside.heads.ok.0 in
    let head : c.head_of_place-head.result ≡ head_of (length c.self.inside.heads.items) c.args.place = rw len at c.head_of_place-head.ensures.head in
    let inside : c.head_of_place-head.result < length c.self.inside.heads.items = rw len at c.head_of_place-head.ensures.within in
    rw c.push_reserved.ensures.items (
      linked_pushed c.self.inside.heads.items c.self.inside.rows.items _ c.head_of_place-head.result c.len-number.result head (c.len-number.ensures ∙ c.self.inside.rows.ok.0)
          (rw (← c.self.view_is) at c.requires.fresh)
          (get_or_read c.self.inside.heads.items c.head_of_place-head.result c.index-next.result.now inside c.index-next.ensures None) c.self.invariant.0,
      omega (arith, c.self.invariant.1, c.push_reserved.ensures.capacity),
    )
