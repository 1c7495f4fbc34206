use Rattle.std.proofs.Common.{Bool, false, sym, subst}
use Rattle.std.specs.Fn.{FnReturnsAt}
use Rattle.std.specs.Prelude.{MatchResult}
use Rattle.session.specs.UnderWay.{HasStopped, IsUnderWay}
use Rattle.session.specs.declared.durability.Durability.{Durability}
use Rattle.session.proofs.in_batches.go_on.Goals as goal

pub returns-in-Together-clause-goes_on : goal.returns-in-Together-clause-goes_on
returns-in-Together-clause-goes_on g c first o dialog under_way =
    let under = λ (d : Durability). IsUnderWay {G = g.S.Station} d first c.args.files.now o (g.O.Write.contents c.args.out.now.inner) c.args.kept.now dialog c.args.done.is_promise in
    let new = c.go_on_together.new in
    let bytes = g.O.Write.contents new.out.inner in
    let cut = λ (b : Bool). FnReturnsAt g.C.Fn c.args.was_cut.now new.files.fs.system.blocks.buffers.station b in
    subst (λ (d : Durability). MatchResult c.go_on_together.result (λ x. IsUnderWay {G = g.S.Station} d first new.files o bytes new.kept dialog false) (HasStopped {G = g.S.Station} d first new.files o bytes cut dialog)) (sym c.in-Together.is)
    (c.go_on_together.ensures.goes_on first o dialog c.args.done.is_promise (subst under c.in-Together.is under_way))

pub returns-in-Deferred-clause-goes_on : goal.returns-in-Deferred-clause-goes_on
returns-in-Deferred-clause-goes_on g c first o dialog under_way =
    let under = λ (d : Durability). IsUnderWay {G = g.S.Station} d first c.args.files.now o (g.O.Write.contents c.args.out.now.inner) c.args.kept.now dialog c.args.done.is_promise in
    let new = c.go_on_deferred.new in
    let bytes = g.O.Write.contents new.out.inner in
    let cut = λ (b : Bool). FnReturnsAt g.C.Fn c.args.was_cut.now new.files.fs.system.blocks.buffers.station b in
    subst (λ (d : Durability). MatchResult c.go_on_deferred.result (λ x. IsUnderWay {G = g.S.Station} d first new.files o bytes new.kept dialog false) (HasStopped {G = g.S.Station} d first new.files o bytes cut dialog)) (sym c.in-Deferred.is)
    (c.go_on_deferred.ensures.goes_on first o dialog (subst under c.in-Deferred.is under_way))
