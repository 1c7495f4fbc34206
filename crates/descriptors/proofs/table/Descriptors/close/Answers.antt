use Rattle.std.proofs.Common.{◌≡◌, Some, None, sym, ◌∙◌}
use Rattle.std.proofs.Math.Path.{fun_ext}
use Rattle.descriptors.specs.Openings.{less_opened, opened_files}
use Rattle.descriptors.specs.Shared.{shared_at}
use Rattle.descriptors.specs.Slots.{slot_at}
use Rattle.descriptors.specs.Tables.{open_at, put_open}
use Rattle.descriptors.proofs.FitLemmas.{fits_put}
use Rattle.descriptors.proofs.OpenLemmas.{closed_consistent, closed_files_left, consistent_same, described_put, opened_same}
use Rattle.descriptors.proofs.table.Descriptors.close.Goals as goal

pub invariant_of-self : goal.invariant_of-self
invariant_of-self c =
    let t = c.args.self.now in
    let d = c.in_ok-description.description in
    let f = c.in_ok-file.file in
    let was : slot_at t.slots c.args.fd ≡ Some d = sym c.get.ensures ∙ c.in_ok-description.was in
    let file : shared_at t.files d.number ≡ Some f = sym c.get-2.ensures ∙ c.in_ok-file.was in
    record {
      consistent = consistent_same (put_open c.args.fd None (slot_at t.slots)) (slot_at c.close.new.self) (put_open d.number (less_opened f) (shared_at t.files)) (shared_at c.release.new.self)
          c.close.ensures.slots c.release.ensures.files
          (closed_consistent (slot_at t.slots) (shared_at t.files) t.consistent c.args.fd d f was file);
    }

pub returns-clause-files : goal.returns-clause-files
returns-clause-files c k =
    let t = c.args.self.now in
    let d = c.in_ok-description.description in
    let f = c.in_ok-file.file in
    let was : slot_at t.slots c.args.fd ≡ Some d = sym c.get.ensures ∙ c.in_ok-description.was in
    let file : shared_at t.files d.number ≡ Some f = sym c.get-2.ensures ∙ c.in_ok-file.was in
    opened_same (put_open c.args.fd None (slot_at t.slots)) (slot_at c.close.new.self) (put_open d.number (less_opened f) (shared_at t.files)) (shared_at c.release.new.self)
    c.close.ensures.slots c.release.ensures.files k
    ∙ closed_files_left (slot_at t.slots) (shared_at t.files) t.consistent c.args.fd d f was file k

pub returns-clause-table : goal.returns-clause-table
returns-clause-table c = fun_ext (described_put (open_at c.args.self.now) (opened_files (slot_at c.close.new.self) (shared_at c.release.new.self)) c.args.fd None (returns-clause-files c))

pub returns-clause-fits : goal.returns-clause-fits
returns-clause-fits c v = fits_put c.args.self.now _ c.args.fd None (returns-clause-files c) v (λ f e. cc)
