-- Where nodes stand, one node after another.
use Rattle.std.specs.Ordering.{int_eq}
use Rattle.std.specs.Option.{is_some}
use Rattle.std.proofs.Common.{◌≡◌, ℕ, ◌+◌, ◌<◌, Bool, true, false, cond, List, ℤ, [], ◌∷◌, ◌++◌, length, take, drop, get_or, Option, Some, None, inl, inr, refl, sym, ap, ◌∙◌}
use Rattle.std.proofs.lemmas.Bool.{cases_Bool, false≢true, false_from_ne_true}
use Rattle.std.proofs.lemmas.Bool.Decides.{Decides-int_eq}
use Rattle.std.proofs.lemmas.List.{take_more, drop_more}
use Rattle.gh_base.specs.declared.map.OsmNode.{OsmNode}
use Rattle.gh_base.specs.declared.map.Point.{Point}
use Rattle.map_import.specs.declared.faults.ImportFault.TheVariants as fault
use Rattle.map_import.specs.Roads.{place_in}
use Rattle.map_import.specs.Refusals.{twice_behind}
use Rattle.map_import.proofs.Numbers.{same_id}

none_of : {A : Type 0} (o : Option A) → is_some o ≡ false → o ≡ None
none_of None e = refl
none_of (Some x) e = absurd (false≢true (sym e))

place_push : (nodes : List OsmNode) (node : OsmNode) (id : ℤ) → is_some (place_in nodes node.id) ≡ false
    → place_in (nodes ++ node ∷ []) id ≡ cond (int_eq node.id id) (Some node.place) (place_in nodes id)
place_push [] node id none = refl
place_push (x ∷ nodes) node id none =
    elim (cases_Bool (int_eq x.id node.id)) [
      | inl h ↦ let wrong : true ≡ false = rw h at none in absurd (false≢true (sym wrong))
      | inr h ↦
          let rest : is_some (place_in nodes node.id) ≡ false = rw h at none in
          elim (cases_Bool (int_eq x.id id)) [
            | inl g ↦
                let apart : int_eq node.id id ≡ false =
                false_from_ne_true (int_eq node.id id) (λ t. false≢true (sym h ∙ (Decides-int_eq x.id node.id).1 (same_id x.id id g ∙ sym (same_id node.id id t)))) in
                rw (g, apart) refl
            | inr g ↦ rw g (place_push nodes node id rest)
          ]
    ]

taken : (nodes : List OsmNode) (i : ℕ) (node : OsmNode) → i < length nodes → node ≡ get_or nodes i node → take (i + 1) nodes ≡ take i nodes ++ node ∷ []
taken nodes i node h e = take_more nodes i node h ∙ ap (λ (n : OsmNode). take i nodes ++ n ∷ []) (sym e)

pub place_more : (nodes : List OsmNode) (i : ℕ) (node : OsmNode) (f g : ℤ → Option Point)
    → i < length nodes → node ≡ get_or nodes i node → ((id : ℤ) → f id ≡ place_in (take i nodes) id) → is_some (f node.id) ≡ false
    → ((id : ℤ) → g id ≡ cond (int_eq node.id id) (Some node.place) (f id)) → (id : ℤ) → g id ≡ place_in (take (i + 1) nodes) id
place_more nodes i node f g h e before none after id =
    after id ∙ ap (cond (int_eq node.id id) (Some node.place)) (before id)
    ∙ sym (place_push (take i nodes) node id (ap is_some (sym (before node.id)) ∙ none))
    ∙ ap (λ (l : List OsmNode). place_in l id) (sym (taken nodes i node h e))

-- the search for a second node of an id, at one node
twice_at : (nodes : List OsmNode) (i : ℕ) (node : OsmNode) → i < length nodes → node ≡ get_or nodes i node
    → twice_behind (take i nodes) (drop i nodes)
    ≡ cond (is_some (place_in (take i nodes) node.id)) (Some (fault.TwiceNode node.id)) (twice_behind (take i nodes ++ node ∷ []) (drop (i + 1) nodes))
twice_at nodes i node h e =
    ap (twice_behind (take i nodes)) (drop_more nodes i node h)
    ∙ ap (λ (n : OsmNode). twice_behind (take i nodes) (n ∷ drop (i + 1) nodes)) (sym e)

pub twice_more : (nodes : List OsmNode) (i : ℕ) (node : OsmNode) (f : ℤ → Option Point)
    → i < length nodes → node ≡ get_or nodes i node → ((id : ℤ) → f id ≡ place_in (take i nodes) id) → is_some (f node.id) ≡ false
    → twice_behind (take (i + 1) nodes) (drop (i + 1) nodes) ≡ twice_behind (take i nodes) (drop i nodes)
twice_more nodes i node f h e before none =
    let new : is_some (place_in (take i nodes) node.id) ≡ false = ap is_some (sym (before node.id)) ∙ none in
    ap (λ (l : List OsmNode). twice_behind l (drop (i + 1) nodes)) (taken nodes i node h e)
    ∙ sym (twice_at nodes i node h e ∙ ap (λ (b : Bool). cond b (Some (fault.TwiceNode node.id)) (twice_behind (take i nodes ++ node ∷ []) (drop (i + 1) nodes))) new)

pub twice_here : (nodes : List OsmNode) (i : ℕ) (node : OsmNode) (f : ℤ → Option Point)
    → i < length nodes → node ≡ get_or nodes i node → ((id : ℤ) → f id ≡ place_in (take i nodes) id) → is_some (f node.id) ≡ true
    → twice_behind (take i nodes) (drop i nodes) ≡ Some (fault.TwiceNode node.id)
twice_here nodes i node f h e before some =
    let old : is_some (place_in (take i nodes) node.id) ≡ true = ap is_some (sym (before node.id)) ∙ some in
    twice_at nodes i node h e ∙ ap (λ (b : Bool). cond b (Some (fault.TwiceNode node.id)) (twice_behind (take i nodes ++ node ∷ []) (drop (i + 1) nodes))) old
