use Rattle.std.proofs.Common.{◌*◌, ◌/◌, length, arith}
use Rattle.std.proofs.lemmas.List.Elements.{All-append}
use Rattle.memory_station.specs.Unsynced.{IsInRange}
use Rattle.memory_station.proofs.TiedLemmas.{tied_with-write, tied_with-write_failed}
use Rattle.memory_station.proofs.MediaLemmas.{parts_of-in_range, count-parts_of, listed-write}
use Rattle.memory_station.proofs.media.Media.write.Goals as goal

pub invariant_of-self-then-done-clause-in_range : goal.invariant_of-self-then-done-clause-in_range
invariant_of-self-then-done-clause-in_range c = rw c.in_ok-note_write.ensures.parts (All-append (IsInRange (512 * c.args.self.now.sectors)) _ _ c.args.self.now.in_range
    (parts_of-in_range _ c.args.first c.args.bytes.now (length c.args.bytes.now / 512) (omega arith) (omega arith)))

pub invariant_of-self-else-done-clause-in_range : goal.invariant_of-self-else-done-clause-in_range
invariant_of-self-else-done-clause-in_range c = rw c.in_ok-note_write.ensures.parts (All-append (IsInRange (512 * c.args.self.now.sectors)) _ _ c.args.self.now.in_range
    (parts_of-in_range _ c.args.first c.args.bytes.now (length c.args.bytes.now / 512) (omega arith) (omega arith)))

pub invariant_of-self-then-done-clause-tied : goal.invariant_of-self-then-done-clause-tied
invariant_of-self-then-done-clause-tied c =
    let call = c.in_ok-note_write.ensures.call in
    tied_with-write _ _ _ _ _ _ _ _ _ c.args.self.now.tied c.args.first call.0 c.args.bytes.now _ _ c.args.done
    call.2 call.1 c.in_ok-note_write.ensures.parts c.requires.power c.if-done.true
    (λ n. rw (c.in_ok-reserve.ensures.bytes, c.in_ok-reserve.ensures.bad) at (c.write.ensures.sectors n)) c.requires.whole

pub invariant_of-self-else-done-clause-tied : goal.invariant_of-self-else-done-clause-tied
invariant_of-self-else-done-clause-tied c =
    let call = c.in_ok-note_write.ensures.call in
    rw (c.in_ok-reserve.ensures.bytes, c.in_ok-reserve.ensures.bad) (tied_with-write_failed _ _ _ _ _ _ _ _ _ c.args.self.now.tied c.args.first call.0 c.args.bytes.now _ c.args.done
    call.2 call.1 c.in_ok-note_write.ensures.parts c.requires.power c.if-done.false c.requires.whole)

pub invariant_of-self-then-done-clause-listed : goal.invariant_of-self-then-done-clause-listed
invariant_of-self-then-done-clause-listed c =
    let call = c.in_ok-note_write.ensures.call in
    listed-write _ _ _ c.args.self.now.listed c.args.first call.0 c.args.bytes.now c.args.done _ call.2 call.1 c.in_ok-note_write.ensures.parts

pub invariant_of-self-else-done-clause-listed : goal.invariant_of-self-else-done-clause-listed
invariant_of-self-else-done-clause-listed c =
    let call = c.in_ok-note_write.ensures.call in
    listed-write _ _ _ c.args.self.now.listed c.args.first call.0 c.args.bytes.now c.args.done _ call.2 call.1 c.in_ok-note_write.ensures.parts

pub invariant_of-self-then-done-clause-room : goal.invariant_of-self-then-done-clause-room
invariant_of-self-then-done-clause-room c =
    let count = count-parts_of _ _ c.args.first c.args.bytes.now c.in_ok-note_write.ensures.parts in
    omega (arith, count, c.len.ensures, c.len-2.ensures, c.in_ok-reserve.ensures.room, c.write.ensures.room, c.args.self.now.unsynced.ok.0, c.note_write.new.unsynced.ok.0)

pub invariant_of-self-else-done-clause-room : goal.invariant_of-self-else-done-clause-room
invariant_of-self-else-done-clause-room c =
    let count = count-parts_of _ _ c.args.first c.args.bytes.now c.in_ok-note_write.ensures.parts in
    omega (arith, count, c.len.ensures, c.len-2.ensures, c.in_ok-reserve.ensures.room, c.args.self.now.unsynced.ok.0, c.note_write.new.unsynced.ok.0)
