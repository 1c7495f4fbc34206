use Rattle.std.proofs.Common.{ap, ◌∙◌, rules}
use Rattle.layout.specs.declared.inode.Inode.{Inode}
use Rattle.planning.proofs.inode_map.settled_map.Goals as goal

pub returns-in_err-inode-clause-damaged : goal.returns-in_err-inode-clause-damaged
returns-in_err-inode-clause-damaged g c = λ disk settled shows are bad. c.in_err-inode.ensures.damaged _ disk settled shows (search rules) are

pub returns-in_default : goal.returns-in_default
returns-in_default g c =
    let reads = c.settled_inode.ensures.reads in
    record {
      reads = record { count = reads.count; counted = tt; device = λ fault. absurd cc; reads = reads.reads; same = reads.same };
      read = λ disk settled shows are. tt;
      size = tt;
      damaged = λ disk settled shows are bad. c.in_default.not-InodeMap (ap (λ (i : Inode). i.kind) (c.in_ok-inode.ensures.read _ disk settled shows are) ∙ are.fits 1);
      why = λ bad. absurd cc;
    }

pub returns-in-InodeMap-clause-read : goal.returns-in-InodeMap-clause-read
returns-in-InodeMap-clause-read g c = λ disk settled shows are. c.in_ok-inode.ensures.read _ disk settled shows are
