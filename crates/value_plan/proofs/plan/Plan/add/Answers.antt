use Rattle.std.proofs.Common.{◌≡◌, ℕ, ◌+◌, ◌≤◌, List, [], ◌∷◌, ◌++◌, sym, ap, ◌∙◌, subst, arith}
use Rattle.value_plan.specs.Slots.{Place, AreSideBySide, behind, bits_of, width}
use Rattle.value_plan.proofs.SideBySide.{bits_of-push, one_more}
use Rattle.value_plan.proofs.plan.Plan.add.Goals as goal

pub invariant_of-self-2 : goal.invariant_of-self-2
invariant_of-self-2 c =
    let slots = c.self.inside.slots in
    let used = c.self.inside.used in
    let at : ℕ → Place = λ n. record { first = n; bits = c.args.bits; directed = c.args.directed } in
    let slot : c.new-slot.result ≡ behind slots c.args.bits c.args.directed = c.new-slot.ensures ∙ ap at (sym c.self.invariant.sum) in
    let whole : c.push.new.self ≡ slots ++ behind slots c.args.bits c.args.directed ∷ [] = c.in_ok-push.ensures.ok ∙ ap (λ (p : Place). slots ++ p ∷ []) slot in
    let few : used + c.width_of-width.result ≤ 128 = omega arith in
    subst (λ (ps : List Place). AreSideBySide ps (used + c.width_of-width.result)) (sym whole)
    (one_more slots used (used + c.width_of-width.result) c.args.bits c.args.directed c.self.invariant (ap (λ (n : ℕ). used + n) c.width_of-width.ensures) few)

pub returns-clause-sum : goal.returns-clause-sum
returns-clause-sum c =
    ap bits_of c.in_ok-push.ensures.ok
    ∙ (bits_of-push c.self.inside.slots c.new-slot.result
    ∙ (ap (λ (slots : List Place). bits_of slots + width c.new-slot.result) c.self.view_is
    ∙ ap (λ (slot : Place). bits_of c.args.self.now + width slot) c.new-slot.ensures))
