use Rattle.std.proofs.Common.{◌≡◌, arith}
use Rattle.std.specs.Int.{w32, to_le_bytes}
use Rattle.data_access.specs.Bytes.{bytes_of, bytes_with}
use Rattle.data_access.proofs.OtherBytes.{u32_read, u32_others}
use Rattle.data_access.proofs.WordBytes.{below, writes_u32}
use Rattle.data_access.proofs.segments.Segments.set_u32.Goals as goal

pub set-requires : goal.set-requires
set-requires c = below c.self.inside.words c.args.self.now c.args.at c.self.view_is (omega arith)

pub returns : goal.returns
returns c =
    let new = bytes_of c.set.new.self in
    let written : new ≡ bytes_with c.args.self.now c.args.at (to_le_bytes w32 c.args.value) =
    writes_u32 c.self.inside.words c.set.new.self c.args.self.now c.args.at c.args.value c.self.view_is c.requires.aligned c.requires.inside c.set.ensures in
    record {
      bytes = written;
      read = u32_read c.args.self.now new c.args.at c.args.value written c.requires.inside (omega arith);
      others = λ other apart. u32_others c.args.self.now new c.args.at c.args.value other written c.requires.inside apart;
    }
