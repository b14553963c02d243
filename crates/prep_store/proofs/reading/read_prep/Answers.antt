use Rattle.std.proofs.Common.{◌≡◌, ◌≤◌, ◌*◌, ℕ, length, refl, inr, inl, sym, subst, ap, ◌∙◌, arith}
use Rattle.std.specs.Prelude.{IfSome}
use Rattle.base_graph.specs.Graphs.{Graph, IsGraph}
use Rattle.landmark_prep.specs.Preparations.{Preparation}
use Rattle.traffic_core.specs.Truth.{IsTrueOver}
use Rattle.prep_store.specs.Stores.{IsStored, roads_at, back_at}
use Rattle.prep_store.specs.FirstFaults.{IsCut}
use Rattle.prep_store.specs.Readings.{place}
use Rattle.prep_store.proofs.Telling.{fails_behind}
use Rattle.prep_store.proofs.Wholes.{IsFirstOf, are_taken, first_fault, head_fails, parts_fail, end_fails, stored_all, stored_whole, are_parts}
use Rattle.prep_store.proofs.Faulting.{length-words}
use Rattle.prep_store.proofs.Shown.{stored_true}
use Rattle.prep_store.proofs.reading.read_prep.Goals as goal

pub returns-in_err-head-clause-first : goal.returns-in_err-head-clause-first
returns-in_err-head-clause-first g c = first_fault c.args.ground.now c.from_residual.result c.from_residual.ensures.1 refl (head_fails c.args.ground.now c.in_err-head.ensures.fails)

pub returns-in_err-snapshot-clause-first : goal.returns-in_err-snapshot-clause-first
returns-in_err-snapshot-clause-first g c =
    let land = c.args.ground.now in
    let head = c.in_ok-head.ensures in
    let profile = c.in_ok-head.head.profile in
    let count = c.in_ok-head.head.count in
    let fault = c.in_err-snapshot.field-0.0 in
    let edges : c.edge_count.result ≡ length land.graph.edges = c.edge_count.ensures ∙ ap (λ (gr : Graph). length gr.edges) c.graph.ensures in
    first_fault land c.from_residual-in_err-snapshot.result c.from_residual-in_err-snapshot.ensures.1 refl
    (fails_behind {Outer = IsFirstOf land} head.text c.in_err-snapshot.ensures.fails (λ total bytes rest e f same.
    inr (inl (
      profile,
      count,
      rest,
      record { bytes_are = e; there = head.there; word = head.word; some = head.some; few = head.few },
      subst (λ (n : ℕ). IsCut (8 * n) (length bytes) rest fault) edges (subst (λ (n : ℕ). IsCut (8 * c.edge_count.result) n rest fault) same f),
    ))))

pub read_parts-requires-clause-small : goal.read_parts-requires-clause-small
read_parts-requires-clause-small g c =
    let limits = c.in_ok-snapshot in
    omega (arith, c.in_ok-head.ensures.text.counted, limits.ensures.text.counted, length-words limits.snapshot, limits.ensures.long)

pub returns-in_err-placing-clause-first : goal.returns-in_err-placing-clause-first
returns-in_err-placing-clause-first g c =
    let land = c.args.ground.now in
    let head = c.in_ok-head in
    let limits = c.in_ok-snapshot in
    let front = are_taken land head.head.profile head.head.count limits.snapshot (c.edge_count.ensures ∙ ap (λ (gr : Graph). length gr.edges) c.graph.ensures) head.ensures.text head.ensures.there head.ensures.word head.ensures.some head.ensures.few
    limits.ensures.text limits.ensures.long limits.ensures.each in
    first_fault land c.from_residual-in_err-placing.result c.from_residual-in_err-placing.ensures.1 refl (parts_fail front c.in_err-placing.ensures.fails)

pub returns-in_err-read_end-clause-first : goal.returns-in_err-read_end-clause-first
returns-in_err-read_end-clause-first g c =
    let land = c.args.ground.now in
    let seen = place g.S.Source.left g.S.Source.faults g.S.Source.mark in
    let head = c.in_ok-head in
    let limits = c.in_ok-snapshot in
    let front = are_taken land head.head.profile head.head.count limits.snapshot (c.edge_count.ensures ∙ ap (λ (gr : Graph). length gr.edges) c.graph.ensures) head.ensures.text head.ensures.there head.ensures.word head.ensures.some head.ensures.few
    limits.ensures.text limits.ensures.long limits.ensures.each in
    let read = c.in_ok-placing.ensures.read in
    let f = c.in_err-read_end.ensures.fails in
    first_fault land c.from_residual-in_err-read_end.result c.from_residual-in_err-read_end.ensures.1 refl
    (end_fails land _ _ _ _ head.head.profile head.head.count limits.snapshot front _ c.in_ok-placing.field-0.placing.grain read.0 c.in_ok-placing.field-0.labels read.1 read.2 {e = seen c.read_end.new.source 0} (record { told = f.told; rose = f.rose; later = f.later; mark = f.mark }))

pub of_parts-requires : goal.of_parts-requires
of_parts-requires g c =
    let land = c.args.ground.now in
    let head = c.in_ok-head in
    let snapshot = c.in_ok-snapshot.snapshot in
    let parts = c.in_ok-placing in
    let small : length land.graph.places ≤ 4294967295 = omega (arith, c.graph.result.now.facts.few_places, ap (λ (gr : Graph). length gr.places) c.graph.ensures) in
    are_parts (roads_at land head.head.profile snapshot) (back_at land head.head.profile snapshot) head.head.count parts.field-0.placing.grain parts.field-0.placing.landmarks parts.ensures.read.0 parts.field-0.labels
    parts.ensures.read.2 head.ensures.some head.ensures.few small parts.ensures.coarse

pub returns-clause-stored : goal.returns-clause-stored
returns-clause-stored g c =
    let land = c.args.ground.now in
    let head = c.in_ok-head in
    let limits = c.in_ok-snapshot in
    let front = are_taken land head.head.profile head.head.count limits.snapshot (c.edge_count.ensures ∙ ap (λ (gr : Graph). length gr.edges) c.graph.ensures) head.ensures.text head.ensures.there head.ensures.word head.ensures.some head.ensures.few
    limits.ensures.text limits.ensures.long limits.ensures.each in
    let read = c.in_ok-placing.ensures.read in
    subst (λ (p : Preparation). IfSome (g.S.Source.left c.args.source.now) (IsStored land p)) (sym c.of_parts.ensures)
    (stored_all land _ _ _ _ head.head.profile head.head.count limits.snapshot front _ c.in_ok-placing.field-0.placing.grain read.0 c.in_ok-placing.field-0.labels read.1 read.2 (g.S.Source.left c.read_end.new.source) c.in_ok-read_end.ensures.taken.bytes c.in_ok-read_end.ensures.end)

pub returns-clause-true_over : goal.returns-clause-true_over
returns-clause-true_over g c =
    let land = c.args.ground.now in
    let head = c.in_ok-head in
    let limits = c.in_ok-snapshot in
    let front = are_taken land head.head.profile head.head.count limits.snapshot (c.edge_count.ensures ∙ ap (λ (gr : Graph). length gr.edges) c.graph.ensures) head.ensures.text head.ensures.there head.ensures.word head.ensures.some head.ensures.few
    limits.ensures.text limits.ensures.long limits.ensures.each in
    let read = c.in_ok-placing.ensures.read in
    let graph : IsGraph land.graph = subst (λ (gr : Graph). IsGraph gr) c.graph.ensures c.graph.result.now.facts in
    subst (λ (p : Preparation). IsTrueOver land p) (sym c.of_parts.ensures)
    (stored_true land _ _ graph (stored_whole land _ _ _ _ head.head.profile head.head.count limits.snapshot front _ c.in_ok-placing.field-0.placing.grain read.0 c.in_ok-placing.field-0.labels read.1 read.2))
