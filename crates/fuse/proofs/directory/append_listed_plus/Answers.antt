use Rattle.std.proofs.Common.{◌++◌, List, ℕ, ap, ◌∙◌, append_assoc, arith}
use Rattle.std.proofs.lemmas.Result.{on_ok_weaker, on_err_weaker}
use Rattle.fuse.specs.Attributes.{entry_text}
use Rattle.fuse.specs.Directory.{listed_of, listed_text, listed_plus_text}
use Rattle.fuse.proofs.DirectoryLaws.{length-listed_plus_text, on_err}
use Rattle.fuse.proofs.directory.append_listed_plus.Goals as goal

pub returns-in_err-extend_from_slice-clause-full : goal.returns-in_err-extend_from_slice-clause-full
returns-in_err-extend_from_slice-clause-full c =
    on_err c.from_residual.result (omega (arith, c.in_err-extend_from_slice.ensures.full, length-listed_plus_text c.args.entry.now (listed_of c.args.listed.now)))

pub returns-clause-ok : goal.returns-clause-ok
unfolding listed_plus_text
returns-clause-ok c =
    let listed = listed_text (listed_of c.args.listed.now) in
    let front = c.in_ok-extend_from_slice.ensures.items ∙ ap (λ (l : List ℕ). c.args.out.now.items ++ l) c.entry_bytes.ensures in
    on_ok_weaker c.append_listed.result
    (λ behind. behind ∙ ap (λ (l : List ℕ). l ++ listed) front ∙ append_assoc c.args.out.now.items (entry_text c.args.entry.now) listed)
    c.append_listed.ensures.ok

pub returns-clause-full : goal.returns-clause-full
returns-clause-full c =
    let before = c.in_ok-extend_from_slice.ensures in
    on_err_weaker c.append_listed.result
    (λ room. omega (arith, room, before.len, before.capacity, length-listed_plus_text c.args.entry.now (listed_of c.args.listed.now)))
    c.append_listed.ensures.full
