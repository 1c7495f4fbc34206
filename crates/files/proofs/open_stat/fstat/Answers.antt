use Rattle.std.proofs.Common.{ℕ, sym, subst, ◌∙◌}
use Rattle.layout.specs.StateLimits.{limits_of}
use Rattle.calls.specs.Stat.{TellsStat}
use Rattle.files.proofs.NameLaws.{stat_told}
use Rattle.files.proofs.Preparing.{sees}
use Rattle.files.proofs.open_stat.fstat.Goals as goal

pub returns : goal.returns
returns g c = sees c.stat_number.ensures.told (λ disk settled v stands volume mounted fits r tells.
    stat_told c.args.table.now v c.args.fd (limits_of c.args.inodes.now.geometry) c.in-Some.file r volume c.volumes_tell_links.ensures fits (sym c.get.ensures.file ∙ c.in-Some.is)
    (subst (λ (n : ℕ). TellsStat v n r) c.new.ensures tells))
