use Rattle.std.proofs.Common.{◌≡◌, ◌∙◌, ap, subst, map, IfOk, eqb}
use Rattle.std.specs.List.{slice_split}
use Rattle.script.specs.Lines.{command_words}
use Rattle.script.proofs.LineLemmas.{line_spelled, parts_of_command}
use Rattle.script.proofs.UniqueLemmas.{reads_command}
use Rattle.script.proofs.read_command.Goals as goal

pub returns-clause-spelled : goal.returns-clause-spelled
returns-clause-spelled c =
    let words : map (λ word. word.now) c.as_slice.result.now ≡ slice_split (λ b. eqb b 32) c.args.line.now = ap (λ ws. map (λ word. word.now) ws) c.as_slice.ensures.value ∙ c.in_ok-words.ensures in
    line_spelled c.args.line.now c.read_words.result (subst (λ ws. IfOk c.read_words.result (λ command. ws ≡ command_words command)) words c.read_words.ensures.spelled)

pub returns-clause-read : goal.returns-clause-read
returns-clause-read c = λ command good e.
    reads_command (map (λ word. word.now) c.as_slice.result.now) c.read_words.result c.read_words.ensures command good (ap (λ ws. map (λ word. word.now) ws) c.as_slice.ensures.value ∙ c.in_ok-words.ensures ∙ ap (λ line. slice_split (λ b. eqb b 32) line) e ∙ parts_of_command command good)
