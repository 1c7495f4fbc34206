use Rattle.std.proofs.Common.{◌≡◌, ℕ, ◌+◌, ◌-◌, ◌≤◌, List, [], ◌++◌, length, take, drop, replicate, ap, ◌∙◌, append_assoc, arith}
use Rattle.std.proofs.lemmas.List.{length-take, length-drop, length-replicate, take_rest, drop_all, append-nil}
use Rattle.std.proofs.lemmas.List.Edits.{take-paste}
use Rattle.std.specs.List.{copy_within}
use Rattle.layout.specs.Bytes.{zeros}
use Rattle.layout.proofs.WritingLaws.{mid_written}
use Rattle.entries.proofs.entries.close_up.Goals as goal

pub returns : goal.returns
unfolding zeros
returns c =
    let at = c.args.at in
    let count = c.args.count in
    let old = c.args.bytes.now in
    let moved = c.copy_within.new.self in
    let end : ℕ = length old - count in
    let within : at + count ≤ length old = c.requires in
    let same : length moved ≡ length old = c.copy_within.ensures.len in
    let rest : ℕ = length old - (at + count) in
    let front : take end moved ≡ take at old ++ drop (at + count) old =
    let joined : at + rest ≡ end = omega arith in
    ap (take end) c.copy_within.ensures.after ∙ ap (λ (k : ℕ). take k (copy_within old (at + count) (length old) at)) (omega arith)
    ∙ take-paste old at (drop (at + count) old) rest (omega arith) (omega (arith, length-drop (at + count) old))
    ∙ ap (λ (r : List ℕ). take at old ++ r) (take_rest old (at + count)) in
    let part : length (take (length moved - end) (drop end moved)) ≡ count = omega (arith, length-take (length moved - end) (drop end moved), length-drop end moved) in
    let filled : c.fill.new.self ≡ replicate count 0 = c.fill.ensures.after (λ y h. h) ∙ ap (λ (n : ℕ). replicate n 0) part in
    let w = mid_written end (length moved) moved (replicate count 0) (omega (arith, length-replicate {A = ℕ} count 0)) (omega arith) in
    let none : drop (length moved) moved ≡ [] = drop_all (length moved) moved (omega arith) in
    rw filled (w.bytes_are ∙ rw (front, none, append-nil) (append_assoc (take at old) (drop (at + count) old) (replicate count 0)))
