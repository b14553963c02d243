use Rattle.std.proofs.Common.{◌≡◌, ℕ, map, ap, ◌∙◌, sym}
use Rattle.gh_base.specs.declared.edges.NodeId.{NodeId}
use Rattle.landmark_prep.specs.Packing.{unpacked_labels}
use Rattle.landmark_prep.specs.Preparations.{Preparation}
use Rattle.landmark_prep.proofs.Unique.{same_parts}
use Rattle.landmark_prep.proofs.Unpacking.{same_nodes, same_table}
use Rattle.landmark_prep.proofs.preparation.Prep.is_same.Goals as goal

pub returns-then-not-are_nodes_same : goal.returns-then-not-are_nodes_same
returns-then-not-are_nodes_same c = (
  λ t. absurd (cc),
  λ same.
      let views = c.self.view_is ∙ same ∙ sym c.other.view_is in
      let nodes = same_nodes c.self.inside.landmarks c.other.inside.landmarks (ap (λ (p : Preparation). p.landmarks) views) in
      absurd (let t = c.are_nodes_same.ensures.1 nodes in let f = c.if-not-are_nodes_same.true in cc),
)

pub returns : goal.returns
returns c = (
  λ t.
      let grain = c.if-self-other-2.false in
      let nodes = c.are_nodes_same.ensures.0 c.if-not-are_nodes_same.false in
      let labels = ap (λ (g : ℕ). map (unpacked_labels g) c.self.inside.labels) grain ∙ ap (map (unpacked_labels c.other.inside.grain)) (c.is_same.ensures.0 t) in
      sym c.self.view_is ∙ same_parts _ _ c.if-self-other.false (c.are_limits_same.ensures.0 c.if-not-are_limits_same.false) (ap (map (λ (node : NodeId). node.0)) nodes) grain labels ∙ c.other.view_is,
  λ same.
      let views = c.self.view_is ∙ same ∙ sym c.other.view_is in
      let labels : map (unpacked_labels c.self.inside.grain) c.self.inside.labels ≡ map (unpacked_labels c.other.inside.grain) c.other.inside.labels = ap (λ (p : Preparation). p.labels) views in
      c.is_same.ensures.1 (same_table c.self.inside.grain c.self.inside.labels c.other.inside.labels c.self.invariant.fine (rw (← c.if-self-other-2.false) at labels)),
)
