use Rattle.std.proofs.Common.{Bool, Some, List, ℕ, ◌∙◌, subst}
use Rattle.std.specs.Fn.{FnReturnsAt}
use Rattle.session.specs.Reading.{IsHeardAs}
use Rattle.session.specs.Scripts.{IsBadLine, IsLineOf}
use Rattle.session.specs.declared.reading.Heard.{Heard}
use Rattle.session.proofs.ShellLemmas.{bad_said, command_said, command_unsaid, long_said}
use Rattle.session.proofs.line_by_line.answer_heard.Goals as goal

pub returns-in-Ok-clause-answers : goal.returns-in-Ok-clause-answers
returns-in-Ok-clause-answers g c line heard =
    let before = λ (b : Bool). FnReturnsAt g.C.Fn c.args.was_cut.now c.args.fs.now.system.blocks.buffers.station b in
    let now = λ (b : Bool). FnReturnsAt g.C.Fn c.args.was_cut.now c.answer.new.fs.system.blocks.buffers.station b in
    let here = (subst (λ (h : Heard). IsHeardAs line h) c.in-Line.is heard).0 in
    let of = rw c.in-Ok-Some.field-0-is at c.in-Ok-Some.ensures.command in
    command_said c.args.fs.now c.answer.new.fs line c.in-Ok-Some.command before now _ _ c.in-Ok.field-0 (subst (λ (l : List ℕ). IsLineOf l (Some c.in-Ok-Some.command)) (c.deref.ensures.value ∙ here) of) c.in-Ok.ensures.shows

pub returns-in-Ok-Some-clause-answers : goal.returns-in-Ok-Some-clause-answers
returns-in-Ok-Some-clause-answers g c line heard =
    let before = λ (b : Bool). FnReturnsAt g.C.Fn c.args.was_cut.now c.args.fs.now.system.blocks.buffers.station b in
    let now = λ (b : Bool). FnReturnsAt g.C.Fn c.args.was_cut.now c.answer.new.fs.system.blocks.buffers.station b in
    command_unsaid c.args.fs.now c.answer.new.fs line c.in-Ok-Some.command before now _ _ c.in-Err.status c.in-Err.ensures.shows

pub returns-in-Err-NotACommand-clause-answers : goal.returns-in-Err-NotACommand-clause-answers
returns-in-Err-NotACommand-clause-answers g c line heard =
    let cut = λ (b : Bool). FnReturnsAt g.C.Fn c.args.was_cut.now c.args.fs.now.system.blocks.buffers.station b in
    let here = (subst (λ (h : Heard). IsHeardAs line h) c.in-Line.is heard).0 in
    let bad = subst IsBadLine (c.deref.ensures.value ∙ here) (c.in-Err-NotACommand.ensures.bad search) in
    bad_said c.args.fs.now line cut _ _ _ bad c.show_bad-in-Err-NotACommand.ensures.shows

pub returns-in-TooLong-clause-answers : goal.returns-in-TooLong-clause-answers
returns-in-TooLong-clause-answers g c line heard =
    let cut = λ (b : Bool). FnReturnsAt g.C.Fn c.args.was_cut.now c.args.fs.now.system.blocks.buffers.station b in
    let here = subst (λ (h : Heard). IsHeardAs line h) c.in-TooLong.is heard in
    long_said c.args.fs.now line cut _ _ _ _ here.0 here.1 c.show_bad.ensures.shows
