use Rattle.std.proofs.Common.{◌∙◌, ap, sym}
use Rattle.layout.proofs.Formats.{some_is}
use Rattle.inofile.proofs.settled.read_inode.Goals as goal

pub returns-then-inode-limits_under-clause-read : goal.returns-then-inode-limits_under-clause-read
returns-then-inode-limits_under-clause-read c = λ i is small spelled.
    some_is c.in-Some.inode i
    (c.in-Some.ensures.only i (record { sizes = c.args.geometry; are_sizes = c.inodes.ensures.within; fits = is }) (is.layout ∙ sym c.layout.ensures) (c.part.ensures ∙ spelled))
