use Rattle.std.proofs.Common.{ℕ, ◌*◌, ap, ◌∙◌, length}
use Rattle.std.proofs.lemmas.Nat.{xor_comm}
use Rattle.std.specs.Prelude.{bit_xor}
use Rattle.sums.specs.Numbers.{number_of}
use Rattle.sums.specs.Sums.{bit_steps}
use Rattle.sums.proofs.ChangeLaws.{remainder_of_number}
use Rattle.sums.proofs.laws.sums_are_of_one_division.Goals as goal

pub returns : goal.returns
returns c = λ bytes are. ap (λ (x : ℕ). bit_xor x 0xffffffff)
    (remainder_of_number 0xffffffff bytes are ∙ ap (λ (x : ℕ). bit_steps (8 * length bytes) x) (xor_comm 0xffffffff (number_of bytes)))
