use Rattle.std.proofs.Common.{Bool, true, false, Some, None, ℕ, List, Option, inl, inr, sym, ◌∙◌, subst}
use Rattle.std.specs.Fn.{FnReturnsAt}
use Rattle.session.specs.Reading.{IsHeardAs}
use Rattle.session.specs.Scripts.{IsBadLine, IsLineOf}
use Rattle.session.specs.declared.reading.Heard.{Heard}
use Rattle.session.proofs.ShellLemmas.{long_comes}
use Rattle.session.proofs.TalkLemmas.{nothing_done, stopped_here}
use Rattle.session.proofs.settling.do_line.Goals as goal

pub returns-in-TooLong-clause-goes_on : goal.returns-in-TooLong-clause-goes_on
returns-in-TooLong-clause-goes_on g c d first o dialog line under_way heard =
    let files = c.args.files.now in
    let cut = λ (b : Bool). FnReturnsAt g.C.Fn c.args.was_cut.now files.fs.system.blocks.buffers.station b in
    let here = subst (λ (h : Heard). IsHeardAs line h) c.in-TooLong.is heard in
    nothing_done d first o files (g.O.Write.contents c.args.out.now.inner) c.args.kept.now c.do_nothing.new.kept dialog under_way cut line c.do_nothing.result (long_comes line _ here.0 here.1) (c.do_nothing.ensures.nothing line here.1)

pub returns-in-Ok-None-clause-goes_on : goal.returns-in-Ok-None-clause-goes_on
returns-in-Ok-None-clause-goes_on g c d first o dialog line under_way heard =
    let files = c.args.files.now in
    let cut = λ (b : Bool). FnReturnsAt g.C.Fn c.args.was_cut.now files.fs.system.blocks.buffers.station b in
    let here = (subst (λ (h : Heard). IsHeardAs line h) c.in-Line.is heard).0 in
    let of = rw c.in-Ok-None.field-0-is at c.in-Ok-None.ensures.command in
    let skipped = subst (λ (l : List ℕ). IsLineOf l None) (c.deref.ensures.value ∙ here) of in
    nothing_done d first o files (g.O.Write.contents c.args.out.now.inner) c.args.kept.now c.do_nothing-in-Ok-None.new.kept dialog under_way cut line c.do_nothing-in-Ok-None.result (inl skipped) (c.do_nothing-in-Ok-None.ensures.nothing line (sym skipped))

pub returns-in-Err-NotACommand-clause-goes_on : goal.returns-in-Err-NotACommand-clause-goes_on
returns-in-Err-NotACommand-clause-goes_on g c d first o dialog line under_way heard =
    let files = c.args.files.now in
    let cut = λ (b : Bool). FnReturnsAt g.C.Fn c.args.was_cut.now files.fs.system.blocks.buffers.station b in
    let here = (subst (λ (h : Heard). IsHeardAs line h) c.in-Line.is heard).0 in
    let bad = subst IsBadLine (c.deref.ensures.value ∙ here) (c.in-Err-NotACommand.ensures.bad search) in
    nothing_done d first o files (g.O.Write.contents c.args.out.now.inner) c.args.kept.now c.do_nothing-in-Err-NotACommand.new.kept dialog under_way cut line c.do_nothing-in-Err-NotACommand.result (inr (inl bad)) (c.do_nothing-in-Err-NotACommand.ensures.nothing line (sym bad.kept))

pub returns-in-Err-NoMemory-clause-goes_on : goal.returns-in-Err-NoMemory-clause-goes_on
returns-in-Err-NoMemory-clause-goes_on g c d first o dialog line under_way heard =
    let files = c.args.files.now in
    let cut = λ (b : Bool). FnReturnsAt g.C.Fn c.args.was_cut.now files.fs.system.blocks.buffers.station b in
    stopped_here d first o files files (g.O.Write.contents c.args.out.now.inner) (g.O.Write.contents c.args.out.now.inner) c.args.kept.now c.args.kept.now dialog false under_way cut

pub returns-in-Ok-Some-clause-goes_on : goal.returns-in-Ok-Some-clause-goes_on
returns-in-Ok-Some-clause-goes_on g c d first o dialog line under_way heard =
    let here = (subst (λ (h : Heard). IsHeardAs line h) c.in-Line.is heard).0 in
    let of = rw c.in-Ok-Some.field-0-is at c.in-Ok-Some.ensures.command in
    let read = c.deref.ensures.value ∙ here in
    c.do_command.ensures.goes_on d first o dialog line under_way (rw read at of)
