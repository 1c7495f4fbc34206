use Rattle.std.proofs.Common.{◌∙◌, arith, map, sym}
use Rattle.std.proofs.lemmas.List.{drop_all, length-map, map-append}
use Rattle.command_line.proofs.WaitLemmas.{others_end, others_past, others_with, text_of, wait_before, wait_end, wait_past, words_from}
use Rattle.command_line.proofs.waiting.split_words.Goals as goal
use Rattle.command_line.proofs.waiting.split_words.Goals.{then-is_wait, else-is_wait+in_ok-push}

pub loop-word-preserved : goal.loop-word-preserved
loop-word-preserved c =
    let at = c.loop-word in
    let from = words_from c.args.words.now at.word-index _ c.loop-word-test.true in
    elim c.if-is_wait.branch [
      | then-is_wait w ↦
          let is = sym c.says_wait-is_wait.ensures ∙ w.if-is_wait.true in
          record {
            value = rw (w.last-is, c.after-stand.ensures) (wait_past at.stand _ _ _ from _ _ is at.invariant.value);
            others = rw (w.others-is, c.after-stand.ensures) (others_past at.stand _ _ _ from _ _ is at.invariant.others);
          }
      | else-is_wait+in_ok-push w ↦
          let is = sym c.says_wait-is_wait.ensures ∙ w.if-is_wait.false in
          record {
            value = rw (w.last-is, c.after-stand.ensures) (wait_before at.stand _ _ _ from _ _ is at.invariant.value);
            others = rw (w.others-is, w.in_ok-push.ensures.items, map-append text_of at.others.items, c.as_read-read.ensures, c.after-stand.ensures) (others_with at.stand _ _ _ from _ _ is at.invariant.others);
          }
    ]

pub returns-clause-value : goal.returns-clause-value
returns-clause-value c =
    let at = c.loop-word in
    wait_end at.stand _ _ _ (drop_all at.word-index (map text_of c.args.words.now) (omega (arith, length-map c.args.words.now text_of, c.loop-word-test.false))) at.invariant.value

pub returns-clause-others : goal.returns-clause-others
returns-clause-others c =
    let at = c.loop-word in
    others_end at.stand _ _ _ (drop_all at.word-index (map text_of c.args.words.now) (omega (arith, length-map c.args.words.now text_of, c.loop-word-test.false))) at.invariant.others
