use Rattle.std.proofs.Common.{◌≡◌, ◌∙◌, ◌≤◌, ℕ, length, take, ap, arith}
use Rattle.std.specs.Prelude.{min}
use Rattle.std.proofs.lemmas.List.{length-take-le, take_at, take_min}
use Rattle.checker.proofs.fault.SnapshotName.new.Goals as goal

pub returns : goal.returns
returns c =
    let name = c.args.name.now in
    let n = c.min-length.result in
    let put = c.copy_from_slice.new.self in
    let cut : put ≡ take n name = c.copy_from_slice.ensures.after in
    let is : n ≡ min 63 (length name) = omega arith in
    let within : n ≤ length name = omega arith in
    take_at put _ n (ap length cut ∙ length-take-le n name within) ∙ cut
    ∙ ap (λ (k : ℕ). take k name) is ∙ take_min 63 name
