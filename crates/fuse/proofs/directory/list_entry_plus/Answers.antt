use Rattle.std.proofs.Common.{refl, sym, ◌∙◌, arith}
use Rattle.fuse.specs.Directory.{listed_of}
use Rattle.fuse.proofs.DirectoryLaws.{length-listed_plus_text}
use Rattle.fuse.proofs.directory.list_entry_plus.Goals as goal

pub returns-then-not-has_room-clause-fits : goal.returns-then-not-has_room-clause-fits
returns-then-not-has_room-clause-fits c = (
  λ no. absurd cc,
  λ low. sym c.if-not-has_room.true ∙ c.has_room.ensures.1 (omega (arith, length-listed_plus_text c.args.entry.now (listed_of c.args.listed.now), c.listed_len-count.ensures.value, low)),
)

pub returns-in_err-append_listed_plus-clause-err : goal.returns-in_err-append_listed_plus-clause-err
returns-in_err-append_listed_plus-clause-err c =
    let room = c.in_ok-reserve.ensures in
    let full = c.in_err-append_listed_plus.ensures.full in
    absurd (omega (arith, room.ok, room.len, full, c.listed_len-count.ensures.value, length-listed_plus_text c.args.entry.now (listed_of c.args.listed.now)))

pub returns-clause-fits : goal.returns-clause-fits
returns-clause-fits c = (
  λ yes. let low = c.has_room.ensures.0 c.if-not-has_room.false in omega (arith, length-listed_plus_text c.args.entry.now (listed_of c.args.listed.now), c.listed_len-count.ensures.value, low),
  λ low. refl,
)
