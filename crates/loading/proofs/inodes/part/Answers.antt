use Rattle.std.proofs.Common.{◌≡◌, ℕ, ◌+◌, ◌-◌, ◌*◌, take, drop, ap, arith}
use Rattle.loading.proofs.inodes.part.Goals as goal

pub returns : goal.returns
returns c = ap (λ (n : ℕ). take n (drop (192 * c.args.index) c.args.bytes.now)) (same (192 * c.args.index))
  where
    same : (at : ℕ) → at + 192 - at ≡ 192
    same at = omega arith
