use Rattle.std.specs.Prelude.{◌≡◌, ◌++◌, drop, map, None, option_map}
use Rattle.command_line.specs.Waiting.{others_in, others_of, wait_in}
use Rattle.command_line.specs.declared.waiting.Stand.TheVariants.{Start}
use Rattle.command_line.proofs.waiting.split_words.Given as goal

abbrev pub invariant-loop-word : goal.invariant-loop-word
invariant-loop-word l = record {
  value : wait_in (option_map (λ w. w.now) l.last) l.stand (drop l.word-index (map (λ w. w.now) l.words))
      ≡ wait_in None Start (map (λ w. w.now) l.words);
  others : map (λ w. w.now) l.others.items ++ others_in l.stand (drop l.word-index (map (λ w. w.now) l.words))
      ≡ others_of (map (λ w. w.now) l.words);
}
