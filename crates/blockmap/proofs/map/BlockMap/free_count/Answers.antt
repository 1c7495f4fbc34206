use Rattle.std.proofs.Common.{subst, sym, ◌∙◌, arith, refl, rules, false}
use Rattle.std.specs.Prelude.{IsTrue}
use Rattle.blockmap.specs.Maps.{IsFree}
use Rattle.blockmap.proofs.MapLemmas.{free_here, free_not}
use Rattle.blockmap.proofs.map.BlockMap.free_count.Goals.{then-is_free, else-is_free}
use Rattle.blockmap.proofs.map.BlockMap.free_count.Goals as goal

-- false isn't true
untrue : IsTrue false → ⊥
untrue is = search (rules, is)

pub loop-b-init : goal.loop-b-init
loop-b-init c = record { count = c.free_in_parts-free.ensures.free; most = c.free_in_parts-free.ensures.most }

pub loop-b-preserved : goal.loop-b-preserved
loop-b-preserved c =
    let so_far = c.loop-b.invariant in
    let parts = c.args.self.now.parts.items in
    elim c.if-is_free.branch [
      | then-is_free w ↦ record {
        count = w.free-is ∙ free_here parts c.loop-b.b c.loop-b.free so_far.count (subst (IsFree parts) c.new.ensures (w.if-is_free.ensures.0 refl));
        most = omega (arith, w.free-is, so_far.most);
      }
      | else-is_free w ↦ record {
        count = w.free-is ∙ free_not parts c.loop-b.b c.loop-b.free so_far.count (λ free. untrue (w.if-is_free.ensures.1 (subst (IsFree parts) (sym c.new.ensures) free)));
        most = omega (arith, w.free-is, so_far.most);
      }
    ]
