use Rattle.std.proofs.Common.{◌+◌, Some, ap, ◌∙◌, arith}
use Rattle.std.proofs.Math.Path.{fun_ext}
use Rattle.descriptors.specs.Openings.{open_description, opened_files}
use Rattle.descriptors.specs.Shared.{shared_at}
use Rattle.descriptors.specs.Slots.{slot_at}
use Rattle.descriptors.specs.Tables.{open_at, put_open}
use Rattle.descriptors.specs.declared.shared.SharedFile.{SharedFile}
use Rattle.descriptors.proofs.FitLemmas.{fits_opened}
use Rattle.descriptors.proofs.OpenLemmas.{consistent_same, described_opened, opened_consistent, opened_files_then, opened_same, slot_free}
use Rattle.descriptors.proofs.TableLemmas.{openings_within}
use Rattle.descriptors.proofs.table.Descriptors.open.Goals as goal

pub open-requires-clause-free : goal.open-requires-clause-free
open-requires-clause-free c =
    let t = c.args.self.now in
    slot_free (slot_at t.slots) (shared_at t.files) t.consistent c.args.fd c.requires.free

pub invariant_of-self : goal.invariant_of-self
invariant_of-self c =
    let t = c.args.self.now in
    let file = c.args.file in
    let free = slot_free (slot_at t.slots) (shared_at t.files) t.consistent c.args.fd c.requires.free in
    let f : SharedFile = record { openings = c.openings.result + 1; size = file.size; links = file.links } in
    record {
      consistent = consistent_same (put_open c.args.fd (Some (open_description file)) (slot_at t.slots)) (slot_at c.open.new.self) (put_open file.number (Some f) (shared_at t.files)) (shared_at c.put.new.self)
          (λ k. c.open.ensures.slots k ∙ ap (λ o. put_open c.args.fd (Some o) (slot_at t.slots) k) c.description.ensures) c.put.ensures
          (opened_consistent (slot_at t.slots) (shared_at t.files) t.consistent c.args.fd (open_description file) f (omega (arith, c.requires.room.slot, t.slots.few)) free (ap (λ k. k + 1) c.openings.ensures) c.requires.bounds.offset c.requires.bounds.size);
    }

pub returns-clause-files : goal.returns-clause-files
returns-clause-files c k =
    let t = c.args.self.now in
    let file = c.args.file in
    let free = slot_free (slot_at t.slots) (shared_at t.files) t.consistent c.args.fd c.requires.free in
    let f : SharedFile = record { openings = c.openings.result + 1; size = file.size; links = file.links } in
    opened_same (put_open c.args.fd (Some (open_description file)) (slot_at t.slots)) (slot_at c.open.new.self) (put_open file.number (Some f) (shared_at t.files)) (shared_at c.put.new.self)
    (λ i. c.open.ensures.slots i ∙ ap (λ o. put_open c.args.fd (Some o) (slot_at t.slots) i) c.description.ensures) c.put.ensures k
    ∙ opened_files_then (slot_at t.slots) (shared_at t.files) t.consistent c.args.fd (open_description file) f (omega (arith, c.requires.room.slot, t.slots.few)) free (ap (λ i. i + 1) c.openings.ensures) k

pub returns-clause-table : goal.returns-clause-table
returns-clause-table c = fun_ext (described_opened (open_at c.args.self.now) (opened_files (slot_at c.open.new.self) (shared_at c.put.new.self)) c.args.fd c.args.file (returns-clause-files c))

pub returns-clause-fits : goal.returns-clause-fits
returns-clause-fits c = fits_opened c.args.self.now _ c.args.fd c.args.file (returns-clause-files c)

pub overflow_add-shared : goal.overflow_add-shared
overflow_add-shared c =
    let t = c.args.self.now in
    omega (arith, c.openings.ensures, t.consistent.counted c.args.file.number, openings_within (slot_at t.slots) c.args.file.number)
