use Rattle.std.proofs.Common.{◌++◌, ℕ, refl, sym, ap, inl, inr, arith}
use Rattle.byteorder.specs.Endian.{big_bytes}
use Rattle.prep_store.specs.declared.fault.PrepFault.TheVariants as faults
use Rattle.prep_store.specs.Stores.{items_text}
use Rattle.prep_store.specs.FirstFaults.{FailsInList}
use Rattle.prep_store.proofs.Telling.{taken_then, taken_as, fails_as, fails_at, fails_behind, out_of_memory, handed_on}
use Rattle.prep_store.proofs.ListFaults.{length-items}
use Rattle.prep_store.proofs.lists.read_list.Goals as goal

pub returns-in_err-count-clause-fails : goal.returns-in_err-count-clause-fails
returns-in_err-count-clause-fails g c =
    handed_on (FailsInList (g.V.RoadView.network c.args.out.now) c.args.grain c.args.landmark.0 c.args.which) c.from_residual.result c.from_residual.ensures.1 (fails_as c.in_err-count.ensures.fails (λ total rest f. inl f))

pub returns-then-count-eq0-clause-fails : goal.returns-then-count-eq0-clause-fails
returns-then-count-eq0-clause-fails g c =
    let count = c.in_ok-count.ensures in
    fails_at (faults.Order c.args.which.landmark c.args.which.back 0) count.number refl (λ total rest after e. inr (inl (c.in_ok-count.count, count.word, (after, e, inl (c.if-count-eq0.true, refl)))))

pub returns-in_err-listing-clause-fails : goal.returns-in_err-listing-clause-fails
returns-in_err-listing-clause-fails g c =
    handed_on (FailsInList (g.V.RoadView.network c.args.out.now) c.args.grain c.args.landmark.0 c.args.which) c.from_residual-in_err-listing.result c.from_residual-in_err-listing.ensures.1 (out_of_memory c.in_ok-count.ensures.number)

pub returns-in_err-read_items-clause-fails : goal.returns-in_err-read_items-clause-fails
returns-in_err-read_items-clause-fails g c =
    let network = g.V.RoadView.network c.args.out.now in
    let count = c.in_ok-count.ensures in
    handed_on (FailsInList network c.args.grain c.args.landmark.0 c.args.which) c.from_residual-in_err-read_items.result c.from_residual-in_err-read_items.ensures.1
    (fails_behind count.number (c.in_err-read_items.ensures.fails network c.requires.turned (g.met.V.RoadView.leads c.args.out.now)) (λ total rest after e f. inr (inl (c.in_ok-count.count, count.word, (after, e, inr f)))))

pub returns-in-None-clause-text : goal.returns-in-None-clause-text
returns-in-None-clause-text g c =
    taken_as (ap (λ (n : ℕ). big_bytes 4 n ++ items_text c.read_items.new.listing.items) (sym c.in_ok-read_items.ensures.each)) (taken_then c.in_ok-count.ensures.number c.in_ok-read_items.ensures.text)

pub returns-in-None-clause-evidence : goal.returns-in-None-clause-evidence
returns-in-None-clause-evidence g c =
    let network = g.V.RoadView.network c.args.out.now in
    let each = c.in_ok-read_items.ensures.each in
    record {
      some = grind (arith, each, c.if-count-eq0.false);
      order = c.in_ok-read_items.ensures.order network c.requires.turned (g.met.V.RoadView.leads c.args.out.now);
      closed = c.in-None.ensures.none;
    }

pub returns-in-None-clause-bounded : goal.returns-in-None-clause-bounded
returns-in-None-clause-bounded g c =
    omega (arith, c.in_ok-count.ensures.number.counted, c.in_ok-read_items.ensures.text.counted, length-items c.read_items.new.listing.items, c.in_ok-read_items.ensures.each, c.in_ok-count.ensures.word)

pub returns-in-Some-clause-fails : goal.returns-in-Some-clause-fails
returns-in-Some-clause-fails g c =
    let network = g.V.RoadView.network c.args.out.now in
    let items = c.read_items.new.listing.items in
    let each = c.in_ok-read_items.ensures.each in
    fails_at (faults.Open c.args.which.landmark c.args.which.back c.in-Some.edge)
    (taken_as (ap (λ (n : ℕ). big_bytes 4 n ++ items_text items) (sym each)) (taken_then c.in_ok-count.ensures.number c.in_ok-read_items.ensures.text)) refl (λ total rest after e. inr (inr (record {
      items = items;
      after = after;
      bytes = e;
      word = omega (arith, each, c.in_ok-count.ensures.word);
      some = grind (arith, each, c.if-count-eq0.false);
      order = c.in_ok-read_items.ensures.order network c.requires.turned (g.met.V.RoadView.leads c.args.out.now);
      edge = c.in-Some.edge;
      opens = c.in-Some.ensures.some;
      is = refl;
    })))
