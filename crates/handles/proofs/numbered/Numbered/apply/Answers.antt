use Rattle.std.proofs.Common.{◌≡◌, ◌≤◌, length, ap, subst, sym, arith}
use Rattle.model.specs.declared.limits.Limits.{Limits}
use Rattle.mount.specs.Batching.{AppliesInBatches, Shows}
use Rattle.handles.specs.Given.{GivesFresh}
use Rattle.handles.proofs.GivenLaws.{fresh_are_given}
use Rattle.handles.proofs.numbered.Numbered.apply.Goals as goal

pub returns-clause-applies : goal.returns-clause-applies
returns-clause-applies g c =
    subst (λ w. AppliesInBatches {G = g.S.Station} c.args.self.now.files w c.args.command.now c.apply-reply.result) (sym c.keep.ensures.files) c.apply-reply.ensures

pub returns-clause-keeps : goal.returns-clause-keeps
returns-clause-keeps g c = λ s t kept names allowed shows.
    let gives : GivesFresh s t c.args.command.now c.apply-reply.result = fresh_are_given allowed.0 s t c.args.command.now c.apply-reply.result allowed.1 in
    let numbers : length c.keep.new.self.generations.given.items ≡ length c.args.self.now.generations.given.items = c.keep.ensures.numbers in
    let inodes : t.limits.inodes ≡ s.limits.inodes = ap (λ (limits : Limits). limits.inodes) gives.limits in
    let wide : s.limits.inodes ≤ length c.args.self.now.generations.given.items = names.wide in (
      record { kept = kept; shows = shows; wide = omega (arith, wide, numbers, inodes) },
      c.keep.ensures.goes s t kept (c.number_for-number.ensures.gives s names.kept names.shows) names.wide gives
          (subst (λ w. Shows {G = g.S.Station} w t kept) c.keep.ensures.files shows),
    )
