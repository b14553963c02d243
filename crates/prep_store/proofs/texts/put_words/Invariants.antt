use Rattle.std.proofs.Common.{◌≡◌, ◌++◌, drop}
use Rattle.prep_store.specs.Stores.{words}
use Rattle.prep_store.proofs.texts.put_words.Given as goal

-- what is left to append
abbrev pub invariant-loop-number : goal.invariant-loop-number
invariant-loop-number l = l.out.items ++ words (drop l.number-index l.numbers) ≡ l.fn.out.items ++ words l.numbers
