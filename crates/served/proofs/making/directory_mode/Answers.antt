use Rattle.std.proofs.Common.{◌<◌, ◌^◌, arith}
use Rattle.std.proofs.lemmas.Nat.{or_lt}
use Rattle.std.proofs.lemmas.Bool.{false≢true}
use Rattle.served.proofs.making.directory_mode.Goals as goal

-- a bit more is a mode still
pub returns-in-None : goal.returns-in-None
returns-in-None c =
    let few : c.bits.result < 2 ^ 12 = omega (arith, c.bits.ensures.fits) in
    let more = or_lt 12 c.bits.result 1024 few (omega arith) in
    absurd (false≢true (c.in-None.ensures.fits.1 (omega (arith, more))))
