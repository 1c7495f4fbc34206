use Rattle.loading.proofs.EndLaws.{behind_zero, zeros_behind}
use Rattle.checker.proofs.numbers.is_ended.Goals as goal

pub returns : goal.returns
returns c = (
  (λ yes. zeros_behind c.args.bytes.now c.told-bytes ((c.is_zero_from.ensures).0 yes)),
  (λ zero. (c.is_zero_from.ensures).1 (behind_zero c.args.bytes.now zero)),
)
