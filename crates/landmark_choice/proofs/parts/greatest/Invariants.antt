use Rattle.std.proofs.Common.{◌≡◌, ◌≢◌, ◌<◌, ◌≤◌, ℕ, IfSome, IfNone, slice_index}
use Rattle.landmark_choice.proofs.parts.greatest.Given as goal

-- the greatest so far
abbrev pub invariant-loop-one : goal.invariant-loop-one
invariant-loop-one l = record {
  none : IfNone l.best ((one : ℕ) → one < l.one → slice_index l.above one ≢ one);
  within : IfSome l.best (λ best. best < l.one);
  leader : IfSome l.best (λ best. slice_index l.above best ≡ best);
  most : IfSome l.best (λ best. (one : ℕ) → one < l.one → slice_index l.above one ≡ one → slice_index l.sizes one ≤ slice_index l.sizes best);
  first : IfSome l.best (λ best. (one : ℕ) → one < best → slice_index l.above one ≡ one → slice_index l.sizes one < slice_index l.sizes best);
}
