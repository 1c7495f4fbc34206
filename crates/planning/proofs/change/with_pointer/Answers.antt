use Rattle.std.proofs.Common.{rules, ◌≡◌, length, ◌-◌, arith}
use Rattle.std.specs.Prelude.{slice_set}
use Rattle.images.proofs.WithinLaws.{root_plain}
use Rattle.planning.proofs.ChangeLaws.{no_further}
use Rattle.planning.proofs.change.with_pointer.Goals as goal

pub returns-clause-root : goal.returns-clause-root
returns-clause-root c =
    let r = c.requires.root in
    let slots : length (slice_set c.args.root.now.snapshots (c.args.slot - 1) c.args.pointer) ≡ 30 = search rules in
    record {
      head = record { known = record { least = omega arith; most = omega arith }; first = r.head.first; last = r.head.last; sizes = r.head.sizes; layout = root_plain c.args.root.now r };
      kind = r.kind;
      inode_file = r.inode_file;
      slots = slots;
      snapshots = search rules;
      few = no_further (slice_set c.args.root.now.snapshots (c.args.slot - 1) c.args.pointer) slots;
    }
