use Rattle.std.proofs.Common.{◌≡◌, ◌++◌, All, drop, map}
use Rattle.script.specs.Lines.{command_line, IsCommandInForm}
use Rattle.session.specs.Scripts.{lines_kept, lines_of}
use Rattle.session.proofs.lines.read_script.Given as goal

abbrev pub invariant-loop-i : goal.invariant-loop-i
invariant-loop-i l = All IsCommandInForm l.commands.items × (map command_line l.commands.items ++ lines_kept (map (λ line. line.now) (drop l.i l.line-items)) ≡ lines_kept (lines_of l.script))
