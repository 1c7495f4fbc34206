use Rattle.std.proofs.Common.{ℕ, Some, ap, subst, sym, ◌∙◌}
use Rattle.std.proofs.lemmas.Bool.{false≢true}
use Rattle.model.specs.Volumes.{is_file_node, with_node}
use Rattle.descriptors.specs.Fits.{FitsVolume}
use Rattle.descriptors.proofs.RoomLemmas.{keeps_both, keeps_still}
use Rattle.records.proofs.FollowLaws.{noted_fits, object_figures}
use Rattle.records.proofs.orphans.note_figures.Goals as goal

pub returns-in-Some-clause-fits : goal.returns-in-Some-clause-fits
returns-in-Some-clause-fits c = λ count disk settled v w stands file fits.
    let n = c.args.number in
    let links = c.in-Some.object.now.status.links in
    let size : ℕ = c.size.result in
    let figures = object_figures disk c.args.inodes.now.geometry.inodes (settled n) c.in-Some.object.now (w n) (c.in-Some.ensures.stands _ count disk settled w stands) file in
    subst (λ (k : ℕ). FitsVolume c.relinked.new.self (with_node k (w n) v)) c.get-n.ensures
    (noted_fits c.get-n.result size links c.args.files.now c.resized.new.self c.relinked.new.self c.resized.ensures.files c.relinked.ensures.files v (w n)
    (figures ∙ ap (λ (s : ℕ). Some (record { links = links; size = s })) (sym c.size.ensures.value)) fits)

pub returns-in_default-clause-fits : goal.returns-in_default-clause-fits
returns-in_default-clause-fits c = λ count disk settled v w stands file fits.
    absurd (false≢true (sym (ap is_file_node (c.in_default.ensures.stands_for_none _ count disk settled w stands)) ∙ file))

pub returns-in-Some-clause-kept : goal.returns-in-Some-clause-kept
returns-in-Some-clause-kept c = keeps_both c.args.files.now c.resized.new.self c.relinked.new.self c.resized.ensures.keeps c.relinked.ensures.keeps

pub returns-in_default-clause-kept : goal.returns-in_default-clause-kept
returns-in_default-clause-kept c = keeps_still c.args.files.now
