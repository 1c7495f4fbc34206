use Rattle.std.proofs.Common.{arith}
use Rattle.layout.specs.Root.{IsRoot}
use Rattle.images.proofs.WithinLaws.{root_plain}
use Rattle.planning.proofs.ChangeLaws.{no_further}
use Rattle.planning.proofs.points.next_root.Goals as goal

pub returns-else-fits-clause-damaged : goal.returns-else-fits-clause-damaged
returns-else-fits-clause-damaged c = λ is root kind inode.
    let next : IsRoot (record { version = 2; generation = c.args.generation; geometry = c.args.root.now.geometry; inode_file = c.args.inode_file; snapshots = c.args.root.now.snapshots }) = record {
      head = record {
        known = record { least = omega arith; most = omega arith };
        first = omega (arith, c.get.ensures.value, c.get.ensures.within.0);
        last = omega (arith, c.get.ensures.value, c.get.ensures.within.1);
        sizes = root.head.sizes;
        layout = root_plain c.args.root.now root;
      };
      kind = kind;
      inode_file = inode;
      slots = root.slots;
      snapshots = root.snapshots;
      few = no_further c.args.root.now.snapshots root.slots;
    } in
    let no = c.if-fits.false in
    let yes = c.fits.ensures.1 next in
    absurd (cc)
