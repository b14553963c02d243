use Rattle.std.proofs.Common.{◌≡◌, ◌<◌, [], length, Contains, below_more, sym, subst, ◌∙◌, inl, inr, refl, arith}
use Rattle.std.proofs.lemmas.List.{get_or_past, get_or_read}
use Rattle.std.proofs.lemmas.List.Elements.{All-contains, All-contains_itself, All-weaker}
use Rattle.std.proofs.lemmas.Bool.{cases_lt, false≢true}
use Rattle.gh_base.specs.declared.edges.Hop.{Hop}
use Rattle.alt_search.specs.Rows.{network_in}
use Rattle.alt_search.proofs.adjacency.lead_to_rows.Goals as goal

pub loop-row-preserved : goal.loop-row-preserved
loop-row-preserved c =
    let rows = c.args.rows.now in
    let i = c.loop-row.row-index in
    let same : (network_in rows).hops i ≡ c.as_slice.result.now = sym (get_or_read rows i c.row-item.result c.loop-row-test.true c.row-item.is []) ∙ sym c.as_slice.ensures in
    below_more (λ node. (hop : Hop) → Contains ((network_in rows).hops node) hop → hop.to.0 < length rows) i c.loop-row.invariant
    (λ hop h. All-contains (λ (x : Hop). x.to.0 < length rows) c.as_slice.result.now hop (c.lead_below.ensures.0 c.if-not-lead_below.false) (subst (λ xs. Contains xs hop) same h))

pub returns : goal.returns
returns c = let rows = c.args.rows.now in (
  λ _ node hop h.
      elim (cases_lt node c.loop-row.row-index) [
        | inl l ↦ let b = c.loop-row.invariant node l hop h in omega arith
        | inr g ↦ absurd (let e = subst (λ xs. Contains xs hop) (get_or_past rows node [] (omega (arith, c.loop-row-test.false))) h in omega (arith, e.1))
      ],
  λ _. refl,
)

pub returns-then-not-lead_below : goal.returns-then-not-lead_below
returns-then-not-lead_below c =
    let rows = c.args.rows.now in
    let i = c.loop-row.row-index in
    let row = c.as_slice.result.now in
    let same : (network_in rows).hops i ≡ row = sym (get_or_read rows i c.row-item.result c.loop-row-test.true c.row-item.is []) ∙ sym c.as_slice.ensures in (
      λ no. absurd (false≢true no),
      λ leads. rw c.if-not-lead_below.true at c.lead_below.ensures.1
          (All-weaker (Contains row) (λ (x : Hop). x.to.0 < length rows) (λ x h. leads i x (subst (λ xs. Contains xs x) (sym same) h)) row (All-contains_itself row)),
    )
