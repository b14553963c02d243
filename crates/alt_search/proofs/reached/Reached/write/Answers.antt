use Rattle.std.proofs.Common.{◌≡◌, ◌<◌, ◌-◌, ◌+◌, ℕ, Some, length, length-set, ap, refl, ◌∙◌, arith}
use Rattle.std.specs.Prelude.{slice_index, slice_set}
use Rattle.alt_search.specs.Kept.{reach_of}
use Rattle.alt_search.proofs.Keeping.{length-reaches_in, room_for, kept_over, kept_anew}
use Rattle.alt_search.proofs.reached.Reached.write.Goals as goal

pub invariant_of-self : goal.invariant_of-self
invariant_of-self c =
    let i = c.self.invariant in
    let inside : c.args.kept.node < length c.self.inside.slots = omega (arith, c.requires, length-reaches_in c.self.inside.kept.items c.self.inside.slots, ap length c.self.view_is) in
    let slot : slice_index c.self.inside.slots c.args.kept.node ≡ (c.get-slot.result - 1) + 1 = omega (arith, c.get-slot.ensures, c.if-slot-ne0.true) in
    record { few = i.few; fits = i.fits; paired = (kept_over c.args.kept (c.get-slot.result - 1) i.paired inside slot refl).0 }

pub returns-then-slot-ne0 : goal.returns-then-slot-ne0
returns-then-slot-ne0 c =
    let i = c.self.invariant in
    let inside : c.args.kept.node < length c.self.inside.slots = omega (arith, c.requires, length-reaches_in c.self.inside.kept.items c.self.inside.slots, ap length c.self.view_is) in
    let slot : slice_index c.self.inside.slots c.args.kept.node ≡ (c.get-slot.result - 1) + 1 = omega (arith, c.get-slot.ensures, c.if-slot-ne0.true) in
    (kept_over c.args.kept (c.get-slot.result - 1) i.paired inside slot refl).1 ∙ ap (λ xs. slice_set xs c.args.kept.node (Some (reach_of c.args.kept))) c.self.view_is

pub push_reserved-requires : goal.push_reserved-requires
push_reserved-requires c =
    let i = c.self.invariant in
    let inside : c.args.kept.node < length c.self.inside.slots = omega (arith, c.requires, length-reaches_in c.self.inside.kept.items c.self.inside.slots, ap length c.self.view_is) in
    let none : slice_index c.self.inside.slots c.args.kept.node ≡ 0 = omega (arith, c.get-slot.ensures, c.if-slot-ne0.false) in
    omega (arith, room_for i.paired c.args.kept.node inside none, i.fits, c.self.inside.kept.ok.0)

pub overflow_cast-len : goal.overflow_cast-len
overflow_cast-len c =
    let i = c.self.invariant in
    let inside : c.args.kept.node < length c.self.inside.slots = omega (arith, c.requires, length-reaches_in c.self.inside.kept.items c.self.inside.slots, ap length c.self.view_is) in
    let none : slice_index c.self.inside.slots c.args.kept.node ≡ 0 = omega (arith, c.get-slot.ensures, c.if-slot-ne0.false) in
    omega (arith, room_for i.paired c.args.kept.node inside none, i.few, c.self.inside.kept.ok.0, c.push_reserved.ensures.len, c.len.ensures)

pub invariant_of-self-2 : goal.invariant_of-self-2
invariant_of-self-2 c =
    let i = c.self.invariant in
    let inside : c.args.kept.node < length c.self.inside.slots = omega (arith, c.requires, length-reaches_in c.self.inside.kept.items c.self.inside.slots, ap length c.self.view_is) in
    let none : slice_index c.self.inside.slots c.args.kept.node ≡ 0 = omega (arith, c.get-slot.ensures, c.if-slot-ne0.false) in
    let len : c.len.result ≡ length c.self.inside.kept.items + 1 = omega (arith, c.self.inside.kept.ok.0, c.push_reserved.ensures.len, c.len.ensures) in
    let slots : c.set.new.self ≡ slice_set c.self.inside.slots c.args.kept.node (length c.self.inside.kept.items + 1) = c.set.ensures ∙ ap (λ (n : ℕ). slice_set c.self.inside.slots c.args.kept.node n) len in
    let many : length c.set.new.self ≡ length c.self.inside.slots = ap length slots ∙ length-set c.self.inside.slots c.args.kept.node (length c.self.inside.kept.items + 1) in
    record {
      few = omega (arith, many, i.few);
      fits = omega (arith, many, i.fits, c.push_reserved.ensures.capacity);
      paired = (kept_anew c.args.kept i.paired inside none c.push_reserved.ensures.items slots).0;
    }

pub returns : goal.returns
returns c =
    let i = c.self.invariant in
    let inside : c.args.kept.node < length c.self.inside.slots = omega (arith, c.requires, length-reaches_in c.self.inside.kept.items c.self.inside.slots, ap length c.self.view_is) in
    let none : slice_index c.self.inside.slots c.args.kept.node ≡ 0 = omega (arith, c.get-slot.ensures, c.if-slot-ne0.false) in
    let len : c.len.result ≡ length c.self.inside.kept.items + 1 = omega (arith, c.self.inside.kept.ok.0, c.push_reserved.ensures.len, c.len.ensures) in
    let slots : c.set.new.self ≡ slice_set c.self.inside.slots c.args.kept.node (length c.self.inside.kept.items + 1) = c.set.ensures ∙ ap (λ (n : ℕ). slice_set c.self.inside.slots c.args.kept.node n) len in
    (kept_anew c.args.kept i.paired inside none c.push_reserved.ensures.items slots).1 ∙ ap (λ xs. slice_set xs c.args.kept.node (Some (reach_of c.args.kept))) c.self.view_is
