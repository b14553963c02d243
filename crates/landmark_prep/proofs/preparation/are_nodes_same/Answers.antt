use Rattle.std.proofs.lemmas.Slice.Eq.{slice_eq-Decides}
use Rattle.landmark_prep.proofs.Unpacking.{node_by_number}
use Rattle.landmark_prep.proofs.preparation.are_nodes_same.Goals as goal

pub returns : goal.returns
returns c =
    let same = slice_eq-Decides node_by_number c.as_slice.result.now c.as_slice-2.result.now c.eq.result c.eq.ensures in
    rw (c.as_slice.ensures, c.as_slice-2.ensures) at same
