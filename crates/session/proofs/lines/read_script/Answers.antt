use Rattle.std.proofs.Common.{◌≡◌, ◌+◌, ◌++◌, ◌∙◌, All, List, ap, drop, map, refl, subst, sym}
use Rattle.model.specs.declared.command.Command.{Command}
use Rattle.script.specs.Lines.{command_line, IsCommandInForm}
use Rattle.session.specs.Scripts.{lines_kept, lines_of}
use Rattle.session.proofs.ScriptLemmas.{is_first_bad, one_read}
use Rattle.session.proofs.lines.read_script.Goals as goal

pub returns-in-Err-NotACommand-clause-fault : goal.returns-in-Err-NotACommand-clause-fault
returns-in-Err-NotACommand-clause-fault c = (c.loop-i.i, refl, is_first_bad (λ line. line.now) c.deref-line-items.result.now _ (lines_of c.args.script.now) c.loop-i.i c.loop-i.commands.items (ap (λ ls. map (λ line. line.now) ls) c.deref-line-items.ensures.value ∙ c.in_ok-lines.ensures) c.loop-i-test.true (c.in-Err-NotACommand.ensures.bad search) c.loop-i.invariant.0 c.loop-i.invariant.1)

pub loop-i-preserved : goal.loop-i-preserved
loop-i-preserved c =
    let of = rw c.in-Ok-Some.field-0-is at c.in-Ok-Some.ensures.command in
    subst (λ (l : List Command). All IsCommandInForm l × (map command_line l ++ lines_kept (map (λ line. line.now) (drop (c.loop-i.i + 1) c.deref-line-items.result.now)) ≡ lines_kept (lines_of c.args.script.now))) (sym c.in_ok-push-in-Ok-Some.ensures.items)
    (one_read (λ line. line.now) c.deref-line-items.result.now _ (lines_kept (lines_of c.args.script.now)) c.loop-i.i c.loop-i.commands.items c.in-Ok-Some.command c.loop-i-test.true of c.loop-i.invariant.0 c.loop-i.invariant.1)
