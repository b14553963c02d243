use Rattle.std.proofs.Common.{◌≡◌, ◌/◌, set, ap, ◌∙◌, arith}
use Rattle.std.specs.Int.{w16, to_le_bytes}
use Rattle.data_access.specs.Bytes.{bytes_of, bytes_with}
use Rattle.data_access.proofs.OtherBytes.{u16_read, u16_others}
use Rattle.data_access.proofs.WordBytes.{below, writes_low, writes_high}
use Rattle.data_access.proofs.segments.Segments.set_u16.Goals as goal
use Rattle.data_access.proofs.segments.Segments.set_u16.Goals.{then-at-eq0, else-at-eq0}

pub get-word-requires : goal.get-word-requires
get-word-requires c = below c.self.inside.words c.args.self.now c.args.at c.self.view_is c.requires.inside

pub set-requires : goal.set-requires
set-requires c = below c.self.inside.words c.args.self.now c.args.at c.self.view_is c.requires.inside

pub returns : goal.returns
returns c =
    let new = bytes_of c.set.new.self in
    let written : new ≡ bytes_with c.args.self.now c.args.at (to_le_bytes w16 c.args.value) =
    elim c.if-at-eq0.branch [
      | then-at-eq0 w ↦ writes_low c.self.inside.words c.set.new.self c.args.self.now c.args.at c.args.value c.self.view_is (omega arith) c.requires.inside (omega arith)
          (c.set.ensures ∙ ap (set c.self.inside.words (c.args.at / 4)) (w.changed-is ∙ omega (arith, c.get-word.ensures, c.from-half.ensures)))
      | else-at-eq0 w ↦ writes_high c.self.inside.words c.set.new.self c.args.self.now c.args.at c.args.value c.self.view_is c.requires.aligned (omega arith) c.requires.inside
          (c.set.ensures ∙ ap (set c.self.inside.words (c.args.at / 4)) (w.changed-is ∙ omega (arith, c.get-word.ensures, c.from-half.ensures)))
    ] in
    record {
      bytes = written;
      read = u16_read c.args.self.now new c.args.at c.args.value written c.requires.inside (omega arith);
      others = λ other apart. u16_others c.args.self.now new c.args.at c.args.value other written c.requires.inside apart;
    }
