-- CRC-32C. A number is a polynomial over two elements, its highest power in its lowest bit, and is
-- divided bit by bit.
use Rattle.std.specs.Prelude.{ℕ, zero, suc, ◌*◌, ◌/◌, ◌%◌, List, [], ◌∷◌, bit_xor}
use Rattle.sums.specs.declared.sum.TheConstants.{POLYNOMIAL}

-- a step of the division: the highest power goes out, and takes the divisor with it
abbrev pub bit_step : ℕ → ℕ
bit_step x = bit_xor (x / 2) (x % 2 * POLYNOMIAL)

-- so many steps
unfoldable pub bit_steps : ℕ → ℕ → ℕ
bit_steps zero x = x
bit_steps (suc n) x = bit_steps n (bit_step x)

-- the remainder behind these bytes, from that before them
unfoldable pub remainder_from : ℕ → List ℕ → ℕ
remainder_from r [] = r
remainder_from r (byte ∷ bytes) = remainder_from (bit_steps 8 (bit_xor r byte)) bytes

-- the sum of bytes: the remainder begins with ones, and is inverted at the end
abbrev pub sum_of : List ℕ → ℕ
sum_of bytes = bit_xor (remainder_from 0xffffffff bytes) 0xffffffff
