use Rattle.std.proofs.Common.{arith, ◌≤◌, ◌-◌, ◌^◌, ℕ, List, sym, subst}
use Rattle.layout.specs.Directory.{HoldsEntries}
use Rattle.entries.specs.Entries.{without}
use Rattle.entries.proofs.ChangeLaws.{removed_tally}
use Rattle.entries.proofs.summary.Summary.remove.Goals as goal

pub returns-clause-tells : goal.returns-clause-tells
returns-clause-tells c = λ told is.
    let s = c.args.self.now in
    let name = c.args.name.now in
    let limit : c.args.inodes ≤ 2 ^ 32 = omega arith in
    let es = told.block.0 in
    let had = told.block.1 in
    let one = c.in-Some.ensures.fewer es had in
    let has : HoldsEntries c.args.inodes c.close_up.new.bytes (without name es) = subst (λ (b : List ℕ). HoldsEntries c.args.inodes b (without name es)) (sym c.close_up.ensures) (c.in-Some.ensures.found es had) in
    record {
      block = (without name es, has);
      tally = removed_tally c.args.inodes c.args.bytes.now c.close_up.new.bytes s.marks.value s.names s.used (s.names - 1) (s.used - c.in-Some.count) c.in-Some.count name es limit told.tally had has one (omega (arith, told.tally.names es had, one.names)) (omega (arith, told.tally.used es had, one.used));
    }
