use Rattle.std.proofs.Common.{◌≤◌, ◌-◌, ◌%◌, arith}
use Rattle.std.proofs.lemmas.List.{take-replicate}
use Rattle.layout.specs.Bytes.{zeros}
use Rattle.fuse.specs.Directory.{padding}
use Rattle.fuse.proofs.directory.padding.Goals as goal

pub returns-clause-value : goal.returns-clause-value
unfolding padding zeros
returns-clause-value c =
    let few : (8 - c.args.count % 8) % 8 ≤ 8 = omega arith in
    take-replicate ((8 - c.args.count % 8) % 8) 8 0 few
