use Rattle.std.proofs.Common.{◌<◌, arith}
use Rattle.inode.proofs.HeldLaws.{based_sound, based_whole}
use Rattle.inode.proofs.laws.based_trees_are_sound.Goals as goal

pub returns-clause-all : goal.returns-clause-all
returns-clause-all c = λ detail. based_sound

pub returns-clause-at : goal.returns-clause-at
returns-clause-at c = λ detail s disk i t k sound readable based unchanged lt.
    let low : k < t.count = omega (arith, lt, t.fits.1) in
    (based_sound s disk i t sound based k low, based_whole s disk i t sound readable based k low)
