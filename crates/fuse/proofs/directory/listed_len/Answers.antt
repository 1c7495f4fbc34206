use Rattle.std.proofs.Common.{List, ℕ, length, ap, arith}
use Rattle.layout.proofs.ZeroLaws.{length-zeros}
use Rattle.fuse.specs.Directory.{listed_of, padding}
use Rattle.fuse.proofs.DirectoryLaws.{length-listed_text}
use Rattle.fuse.proofs.directory.listed_len.Goals as goal

pub returns-clause-value : goal.returns-clause-value
returns-clause-value c =
    let behind = ap (λ (l : List ℕ). length l) c.padding.ensures.value in
    omega (arith, length-listed_text (listed_of c.args.listed.now), behind, length-zeros (padding (length c.args.listed.now.name.now)))
