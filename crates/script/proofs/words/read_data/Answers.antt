use Rattle.std.proofs.Common.{◌≡◌, ◌==◌, ap, codes, false, length, rules, subst, sym, ◌∙◌}
use Rattle.std.specs.Char.{is_ascii_uppercase}
use Rattle.std.specs.List.{list_any}
use Rattle.script.specs.Words.{data_word, AreByteValues}
use Rattle.script.proofs.DataLemmas.{is_data, not_data, not_empty, not_lower}
use Rattle.script.proofs.words.read_data.Goals as goal
use Rattle.script.proofs.words.read_data.Goals.{then-is_empty-via-then-is_empty, then-is_empty-via-else-is_empty+then-has_capital}

pub returns-then-is_empty : goal.returns-then-is_empty
returns-then-is_empty c =
    let none : c.args.word.now ≡ codes "-" → ⊥ = search rules in
    record {
      spelled = tt;
      good = tt;
      refused = λ _.
          elim c.then-is_empty.branch [
            | then-is_empty-via-then-is_empty w ↦ λ bs _. not_empty c.args.word.now bs (sym c.is_empty.ensures ∙ w.if-is_empty.true)
            | then-is_empty-via-else-is_empty+then-has_capital w ↦
                not_data c.args.word.now none (not_lower c.args.word.now (sym w.has_capital.ensures ∙ w.if-has_capital.true))
          ];
    }

pub returns : goal.returns
returns c =
    let lower : list_any is_ascii_uppercase c.args.word.now ≡ false = sym c.has_capital.ensures ∙ c.if-has_capital.false in
    let some : (length c.args.word.now == 0) ≡ false = sym c.is_empty.ensures ∙ c.if-is_empty.false in
    let is = is_data c.args.word.now c.in_ok-decode.field-0.items some lower c.in_ok-decode.ensures.value in
    record {
      spelled = is.1 ∙ ap data_word (sym c.owned-2.ensures);
      good = subst AreByteValues (sym c.owned-2.ensures) is.0;
      refused = λ e. absurd (cc);
    }
