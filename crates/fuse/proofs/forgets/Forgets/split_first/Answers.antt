use Rattle.std.proofs.Common.{ℕ, List, length, ap, ◌∙◌, arith}
use Rattle.std.proofs.lemmas.List.{length-drop}
use Rattle.fuse.proofs.ForgetLaws.{too_short, front_is, forgets_none, forgets_some}
use Rattle.fuse.proofs.forgets.Forgets.split_first.Goals as goal

pub returns-in_err-node-clause-none : goal.returns-in_err-node-clause-none
returns-in_err-node-clause-none c =
    let bytes = c.args.self.now.bytes.now in
    rw c.from_residual.ensures (forgets_none bytes (omega (arith, too_short 8 bytes c.in_err-node.ensures)))

pub returns-in_err-lookups-clause-none : goal.returns-in_err-lookups-clause-none
returns-in_err-lookups-clause-none c =
    let bytes = c.args.self.now.bytes.now in
    let behind = c.in_ok-node.bytes.now in
    let first = front_is 8 bytes c.in_ok-node.node behind c.in_ok-node.ensures in
    let left = ap (λ (l : List ℕ). length l) first.rest_is ∙ length-drop 8 bytes in
    rw c.from_residual-in_err-lookups.ensures (forgets_none bytes (omega (arith, left, too_short 8 behind c.in_err-lookups.ensures)))

pub returns-clause-some : goal.returns-clause-some
returns-clause-some c =
    let bytes = c.args.self.now.bytes.now in
    let behind = c.in_ok-node.bytes.now in
    forgets_some bytes c.in_ok-node.node behind c.in_ok-lookups.lookups c.in_ok-lookups.bytes.now
    (front_is 8 bytes c.in_ok-node.node behind c.in_ok-node.ensures)
    (front_is 8 behind c.in_ok-lookups.lookups c.in_ok-lookups.bytes.now c.in_ok-lookups.ensures)
