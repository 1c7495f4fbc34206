use Rattle.std.proofs.Common.{refl, arith}
use Rattle.checker.specs.declared.fault.FileNode.{FileNode}
use Rattle.checker.proofs.OwnerLaws.{node_more}
use Rattle.checker.proofs.owners.node_at.Goals as goal

pub loop-stored-preserved : goal.loop-stored-preserved
loop-stored-preserved c =
    let node : FileNode = record { number = c.args.number; height = c.args.height; index = c.in-Some.stored.index } in record {
      within = omega (arith, c.in-Some.ensures.found.1);
      none = node_more c.args.nodes.now c.args.shared.now c.args.number c.args.height c.loop-stored.from c.loop-stored.invariant.none c.in-Some.stored.index c.in-Some.stored.place node
          refl refl refl c.in-Some.ensures.before c.in-Some.ensures.found.2 (c.is_other.ensures.same c.if-is_other.false);
    }
