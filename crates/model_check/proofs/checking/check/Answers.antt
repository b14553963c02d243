use Rattle.std.proofs.Common.{◌≡◌, None}
use Rattle.gh_base.specs.declared.kinds.Part.TheVariants.{Speed, Priority}
use Rattle.model_eval.specs.Slowing.{offender_among}
use Rattle.model_check.proofs.Offenders.{none_slows}
use Rattle.model_check.proofs.checking.check.Goals as goal

pub of-requires-clause-slow : goal.of-requires-clause-slow
of-requires-clause-slow c =
    let speed : offender_among Speed 1 c.args.query.speed ≡ None = cc (c.as_slice.ensures, c.in-None.ensures) in
    let priority : offender_among Priority 1 c.args.query.priority ≡ None = cc (c.as_slice-2.ensures, c.in-None-first_offence.ensures) in
    record {
      speed = none_slows Speed 1 c.args.query.speed speed;
      priority = none_slows Priority 1 c.args.query.priority priority;
    }
