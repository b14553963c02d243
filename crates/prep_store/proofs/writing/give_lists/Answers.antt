use Rattle.std.proofs.Common.{◌++◌, [], arith}
use Rattle.std.proofs.KnownBytes.{Appends-nil, Appends-trans}
use Rattle.plain_map.proofs.Sent.{on_err}
use Rattle.prep_store.proofs.Listings.{given_none, given_next, pair_cut, all_given}
use Rattle.prep_store.proofs.writing.give_lists.Goals as goal

pub places-init : goal.places-init
places-init g c =
    let prep = c.args.prep.now in
    record {
      given = ([], given_none (g.V.RoadView.network c.args.out.now) (g.W.RoadView.network c.args.back.now) prep.grain prep.landmarks prep.labels, Appends-nil (g.K.Sink.held c.args.sink.now));
      later = omega arith;
    }

pub give_pair-requires-clause-node : goal.give_pair-requires-clause-node
give_pair-requires-clause-node g c = c.requires.nodes c.places.place c.landmark_at-landmark.result.0 c.landmark_at-landmark.ensures

pub places-preserved : goal.places-preserved
places-preserved g c =
    let prep = c.args.prep.now in
    let i = c.places.invariant in
    let f = i.given in
    let p = c.in_ok-give_pair.ensures.ok in
    record {
      given = (
        f.0 ++ p.text,
        given_next (g.V.RoadView.network c.args.out.now) (g.W.RoadView.network c.args.back.now) prep.grain prep.landmarks prep.labels c.places.place c.landmark_at-landmark.result.0 f.0 p.text c.landmark_at-landmark.ensures c.requires.table f.1 p.so,
        Appends-trans (g.K.Sink.held c.args.sink.now) (g.K.Sink.held c.places.sink) (g.K.Sink.held c.give_pair.new.sink) f.0 p.text f.2 p.given,
      );
      later = omega (arith, i.later, c.give_pair.ensures.later);
    }

pub returns-in_err-give_pair-clause-err : goal.returns-in_err-give_pair-clause-err
returns-in_err-give_pair-clause-err g c =
    let prep = c.args.prep.now in
    let f = c.places.invariant.given in
    on_err c.from_residual.result (pair_cut (g.V.RoadView.network c.args.out.now) (g.W.RoadView.network c.args.back.now) prep.grain prep.landmarks prep.labels c.places.place c.landmark_at-landmark.result.0 f.0
    c.landmark_at-landmark.ensures c.requires.table f.1 f.2 c.in_err-give_pair.ensures.err)

pub returns-clause-ok : goal.returns-clause-ok
returns-clause-ok g c =
    let prep = c.args.prep.now in
    let f = c.places.invariant.given in
    record {
      text = f.0;
      so = all_given (g.V.RoadView.network c.args.out.now) (g.W.RoadView.network c.args.back.now) prep.grain prep.landmarks prep.labels c.places.place f.0 (omega (arith, c.landmark_count-place-end.ensures)) c.requires.table f.1;
      given = f.2;
    }
