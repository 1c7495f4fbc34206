use Rattle.std.proofs.Common.{◌≡◌, Some, refl, sym, ◌∙◌}
use Rattle.descriptors.specs.Files.{resized_file, with_size}
use Rattle.descriptors.specs.Putting.{put_open}
use Rattle.descriptors.specs.Shared.{shared_at}
use Rattle.descriptors.specs.Slots.{slot_at}
use Rattle.descriptors.proofs.FitLemmas.{fits_changed, resized_figures, resized_here, resized_number, resized_others}
use Rattle.descriptors.proofs.OpenLemmas.{changed_files, opened_same, unchanged_files}
use Rattle.descriptors.proofs.table.Descriptors.resized.Goals as goal

pub returns-in-Some-clause-files : goal.returns-in-Some-clause-files
returns-in-Some-clause-files c k =
    let t = c.args.self.now in
    let n = c.args.number in
    let f = c.in-Some.file in
    let file : shared_at t.files n ≡ Some f = sym c.get.ensures ∙ c.in-Some.is in
    opened_same (slot_at t.slots) (slot_at t.slots) (put_open n (Some (record f { size = c.args.size })) (shared_at t.files)) (shared_at c.change.new.self) (λ i. refl) c.change.ensures.files k
    ∙ changed_files (slot_at t.slots) (shared_at t.files) t.consistent n (resized_file n c.args.size) (resized_others n c.args.size)
    f (record f { size = c.args.size }) file (resized_here n c.args.size f) k

pub returns-in-Some-clause-fits : goal.returns-in-Some-clause-fits
returns-in-Some-clause-fits c v w fits changes =
    fits_changed c.args.self.now _ c.args.number (with_size c.args.size) (resized_file c.args.number c.args.size) v w (returns-in-Some-clause-files c)
    (resized_number c.args.number c.args.size) (resized_figures c.args.number c.args.size) fits changes

pub returns-in_default-clause-files : goal.returns-in_default-clause-files
returns-in_default-clause-files c =
    let t = c.args.self.now in
    let n = c.args.number in
    unchanged_files (slot_at t.slots) (shared_at t.files) t.consistent n (resized_file n c.args.size) (resized_others n c.args.size) (sym c.get.ensures ∙ c.in_default.is)

pub returns-in_default-clause-fits : goal.returns-in_default-clause-fits
returns-in_default-clause-fits c v w fits changes =
    fits_changed c.args.self.now c.args.self.now c.args.number (with_size c.args.size) (resized_file c.args.number c.args.size) v w (returns-in_default-clause-files c)
    (resized_number c.args.number c.args.size) (resized_figures c.args.number c.args.size) fits changes
