use Rattle.std.proofs.Common.{length, append_assoc, inl, inr}
use Rattle.byteorder.specs.Endian.{big_bytes}
use Rattle.prep_store.specs.FirstFaults.{FailsBehindProfile, FailsBehindMagic, FailsInHead}
use Rattle.prep_store.proofs.Telling.{taken_then, taken_as, fails_as, fails_behind, handed_on}
use Rattle.prep_store.proofs.head.read_head.Goals as goal

pub returns-in_err-read_magic-clause-fails : goal.returns-in_err-read_magic-clause-fails
returns-in_err-read_magic-clause-fails g c =
    handed_on (FailsInHead c.args.ground.now) c.from_residual.result c.from_residual.ensures.1 (fails_as c.in_err-read_magic.ensures.fails (λ total rest f. inl f))

pub returns-in_err-profile-clause-fails : goal.returns-in_err-profile-clause-fails
returns-in_err-profile-clause-fails g c =
    handed_on (FailsInHead c.args.ground.now) c.from_residual-in_err-profile.result c.from_residual-in_err-profile.ensures.1
    (fails_behind c.in_ok-read_magic.ensures.text c.in_err-profile.ensures.fails (λ total rest after e f. inr (after, e, inl f)))

pub returns-in_err-read_sizes-clause-fails : goal.returns-in_err-read_sizes-clause-fails
returns-in_err-read_sizes-clause-fails g c =
    let land = c.args.ground.now in
    let profile = c.in_ok-profile.ensures in
    handed_on (FailsInHead land) c.from_residual-in_err-read_sizes.result c.from_residual-in_err-read_sizes.ensures.1
    (fails_behind {Inner = FailsBehindMagic land} c.in_ok-read_magic.ensures.text
    (fails_behind profile.text c.in_err-read_sizes.ensures.fails (λ total rest after e f. inr (c.in_ok-profile.profile, profile.there, profile.word, (after, e, inl f))))
    (λ total rest after e f. inr (after, e, f)))

pub returns-in_err-count-clause-fails : goal.returns-in_err-count-clause-fails
returns-in_err-count-clause-fails g c =
    let land = c.args.ground.now in
    let profile = c.in_ok-profile.ensures in
    handed_on (FailsInHead land) c.from_residual-in_err-count.result c.from_residual-in_err-count.ensures.1
    (fails_behind {Inner = FailsBehindMagic land} c.in_ok-read_magic.ensures.text
    (fails_behind {Inner = FailsBehindProfile land} profile.text (fails_behind c.in_ok-read_sizes.ensures.text c.in_err-count.ensures.fails (λ total rest after e f. inr (after, e, f)))
    (λ total rest after e f. inr (c.in_ok-profile.profile, profile.there, profile.word, (after, e, f))))
    (λ total rest after e f. inr (after, e, f)))

pub returns-clause-text : goal.returns-clause-text
returns-clause-text g c =
    let land = c.args.ground.now in
    taken_then c.in_ok-read_magic.ensures.text (taken_then c.in_ok-profile.ensures.text
    (taken_as (append_assoc (big_bytes 4 (length land.graph.places)) (big_bytes 4 (length land.graph.edges)) (big_bytes 4 c.in_ok-count.count)) (taken_then c.in_ok-read_sizes.ensures.text c.in_ok-count.ensures.text)))
