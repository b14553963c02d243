use Rattle.std.proofs.Common.{ℕ, subst, arith}
use Rattle.landmark_choice.specs.Grouping.{AreSizes}
use Rattle.landmark_choice.proofs.Largest.{fullest, no_root, some_of_four, none_then}
use Rattle.landmark_choice.proofs.parts.fullest.Goals as goal

pub returns-clause-largest : goal.returns-clause-largest
returns-clause-largest c = λ network left grouped.
    let sizes = c.in_ok-sizes.sizes.items in
    some_of_four c.greatest.result _ _ _ _ _
    (λ node within root most first.
    fullest network c.args.above.now sizes left grouped (omega (arith, c.in_ok-sizes.ensures.long, grouped.long))
    (subst (λ (n : ℕ). AreSizes grouped.leader n sizes) grouped.long (c.in_ok-sizes.ensures.each grouped.leader grouped.leads))
    c.sizes.new.above node.0 (c.sizes.ensures.same grouped.leader grouped.leads) c.sizes.auto.above within root most first)
    c.greatest.ensures.within c.greatest.ensures.leader (rw c.deref.ensures.value at c.greatest.ensures.most) (rw c.deref.ensures.value at c.greatest.ensures.first)

pub returns-clause-none : goal.returns-clause-none
returns-clause-none c = λ leader h. none_then c.greatest.result _ _ (λ none. let e = no_root c.sizes.new.above leader (c.sizes.ensures.same leader h) none in omega arith) c.greatest.ensures.none
