use Rattle.std.proofs.Common.{refl, sym, subst}
use Rattle.entries.specs.Known.{Summarizes}
use Rattle.entries.proofs.known.Known.remove.Goals as goal

pub returns-clause-knows : goal.returns-clause-knows
returns-clause-knows c = λ block next knows is then others.
    let told = subst (λ b. Summarizes c.args.inodes b c.in-Some.summary) is (c.in-Some.ensures.told c.args.inodes block knows) in
    let tells = c.if-remove.ensures.tells told refl in
    c.keep.ensures c.args.inodes next (c.take.ensures.left c.args.inodes block next knows others) (subst (λ b. Summarizes c.args.inodes b c.remove.new.self) (sym then) tells)

pub returns-2-clause-knows : goal.returns-2-clause-knows
returns-2-clause-knows c = λ block next knows is then others. c.take.ensures.left c.args.inodes block next knows others
