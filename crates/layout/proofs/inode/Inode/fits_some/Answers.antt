use Rattle.std.proofs.Common.{subst, sym}
use Rattle.layout.specs.Limits.{Sizes}
use Rattle.layout.specs.Inode.{IsInode}
use Rattle.layout.proofs.InodeLaws.{likely_inode}
use Rattle.layout.proofs.inode.Inode.fits_some.Goals as goal

pub returns-in-Some : goal.returns-in-Some
returns-in-Some c =
    let i = c.args.self.now in
    let found = c.in-Some.ensures.found in (
      λ yes. record { sizes = c.in-Some.geometry; are_sizes = found.1; fits = c.fits.ensures.0 yes },
      λ some. c.fits.ensures.1 (subst (λ (s : Sizes). IsInode s i) (sym found.0) (likely_inode i some).1),
    )

pub returns-in-None : goal.returns-in-None
returns-in-None c =
    (λ no. absurd cc, λ some. absurd (c.in-None.ensures.none some.fits.size (likely_inode c.args.self.now some).0))
