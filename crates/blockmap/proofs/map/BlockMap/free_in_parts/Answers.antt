use Rattle.std.proofs.Common.{◌*◌, ◌+◌, ◌≤◌, arith}
use Rattle.std.proofs.lemmas.List.Sums.{count_by-le-length}
use Rattle.std.specs.Prelude.{◌==◌, ℕ}
use Rattle.blockmap.proofs.MapLemmas.{free_none, free_part}
use Rattle.blockmap.proofs.map.BlockMap.free_in_parts.Goals as goal

pub loop-j-init : goal.loop-j-init
loop-j-init c = record { count = free_none c.args.self.now.parts.items; most = omega arith }

pub loop-j-preserved : goal.loop-j-preserved
loop-j-preserved c =
    let so_far = c.loop-j.invariant in
    let part = c.index.result.now in
    let within : 1024 * (c.loop-j.j + 1) ≤ c.args.self.now.count = omega (arith, c.requires, c.loop-j-test.true) in
    let more = free_part c.args.self.now.parts.items c.loop-j.j part (omega (arith, within, c.args.self.now.covers)) c.index.ensures c.free_count-free.ensures.size in
    let most = count_by-le-length (λ (e : ℕ). e == 0) part.settled in
    record {
      count = omega (arith, more, so_far.count, c.free_count-free.ensures.free);
      most = omega (arith, most, so_far.most, c.free_count-free.ensures.free, c.free_count-free.ensures.size);
    }
