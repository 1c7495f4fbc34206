use Rattle.std.proofs.Common.{List, ℕ, length, ap, arith}
use Rattle.layout.proofs.ZeroLaws.{length-zeros}
use Rattle.std.proofs.lemmas.Result.{on_err_weaker}
use Rattle.fuse.specs.Directory.{listed_of, listed_text, padding}
use Rattle.fuse.proofs.DirectoryLaws.{length-listed_text, on_err, wrote_three}
use Rattle.fuse.proofs.directory.append_listed.Goals as goal

pub returns-in_err-extend_from_slice-clause-full : goal.returns-in_err-extend_from_slice-clause-full
returns-in_err-extend_from_slice-clause-full c =
    on_err c.from_residual.result (omega (arith, c.in_err-extend_from_slice.ensures.full, length-listed_text (listed_of c.args.listed.now)))

pub returns-in_err-extend_from_slice-2-clause-full : goal.returns-in_err-extend_from_slice-2-clause-full
returns-in_err-extend_from_slice-2-clause-full c =
    let room = c.in_err-extend_from_slice-2.ensures.full in
    let before = c.in_ok-extend_from_slice.ensures in
    on_err c.from_residual-in_err-extend_from_slice-2.result (omega (arith, room, before.len, before.capacity, length-listed_text (listed_of c.args.listed.now)))

pub returns-clause-ok : goal.returns-clause-ok
unfolding listed_text
returns-clause-ok c =
    rw (← c.listed_head_bytes.ensures, ← c.padding.ensures.value)
    (wrote_three c.extend_from_slice-3.result c.args.out.now.items c.extend_from_slice.new.self.items c.extend_from_slice-2.new.self.items c.extend_from_slice-3.new.self.items
    c.listed_head_bytes.result c.args.listed.now.name.now c.padding.result.now
    c.in_ok-extend_from_slice.ensures.items c.in_ok-extend_from_slice-2.ensures.items c.extend_from_slice-3.ensures.items)

pub returns-clause-full : goal.returns-clause-full
returns-clause-full c =
    let first = c.in_ok-extend_from_slice.ensures in
    let second = c.in_ok-extend_from_slice-2.ensures in
    let behind = ap (λ (l : List ℕ). length l) c.padding.ensures.value in
    on_err_weaker c.extend_from_slice-3.result
    (λ room. omega (
      arith,
      room,
      first.len,
      first.capacity,
      second.len,
      second.capacity,
      behind,
      length-zeros (padding (length c.args.listed.now.name.now)),
      length-listed_text (listed_of c.args.listed.now),
    ))
    c.extend_from_slice-3.ensures.full
