use Rattle.std.proofs.Common.{◌≡◌, ◌++◌, ℕ, replicate, ap, ◌∙◌, arith}
use Rattle.search_queue.proofs.pages.add_page.Goals as goal

pub returns-clause-items : goal.returns-clause-items
returns-clause-items c =
    let end : c.loop.counter ≡ 1024 = omega (arith, c.loop-test.false) in
    c.loop.invariant.items ∙ ap (λ (n : ℕ). c.args.words.now.items ++ replicate n 0) end
