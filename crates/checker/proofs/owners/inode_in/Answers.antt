use Rattle.std.proofs.Common.{◌≡◌, ◌∙◌, ℕ, ◌+◌, ◌-◌, ◌*◌, ◌%◌, take, drop, ap, arith}
use Rattle.checker.proofs.owners.inode_in.Goals as goal

pub returns-clause-only : goal.returns-clause-only
returns-clause-only c = λ i fits small part kind.
    let at = 192 * (c.args.number % 21) in
    let long : at + 192 - at ≡ 192 = omega arith in
    c.inode_at.ensures.only i fits small (ap (λ (n : ℕ). take n (drop at c.args.bytes.now)) long ∙ part) kind
