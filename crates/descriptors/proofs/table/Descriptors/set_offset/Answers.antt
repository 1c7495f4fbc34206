use Rattle.std.proofs.Common.{◌≡◌, ℕ, Some, refl, sym, ap, subst, ◌∙◌}
use Rattle.std.proofs.Math.Path.{fun_ext}
use Rattle.std.specs.Option.{option_map}
use Rattle.model.specs.Volumes.{IsMounted}
use Rattle.descriptors.specs.Fits.{IsFileOf}
use Rattle.descriptors.specs.Openings.{opened_files}
use Rattle.descriptors.specs.Shared.{shared_at}
use Rattle.descriptors.specs.Slots.{slot_at}
use Rattle.descriptors.specs.Tables.{open_at, put_open, table_of}
use Rattle.descriptors.specs.declared.open_file.OpenFile.{OpenFile}
use Rattle.descriptors.proofs.FitLemmas.{fits_put, mapped}
use Rattle.descriptors.proofs.MoveLemmas.{mounted_moved, place_described}
use Rattle.descriptors.proofs.OpenLemmas.{consistent_same, described_put, moved_consistent, moved_files, opened_same}
use Rattle.descriptors.proofs.TableLemmas.{files_some, kept_file}
use Rattle.descriptors.proofs.table.Descriptors.set_offset.Goals as goal

pub invariant_of-self : goal.invariant_of-self
invariant_of-self c =
    let t = c.args.self.now in
    let d = c.in-Some.description in
    let was : slot_at t.slots c.args.fd ≡ Some d = sym c.get.ensures ∙ c.in-Some.is in
    record {
      consistent = consistent_same (put_open c.args.fd (Some (record d { offset = c.args.offset })) (slot_at t.slots)) (slot_at c.change.new.self) (shared_at t.files) (shared_at t.files) c.change.ensures.slots (λ n. refl)
          (moved_consistent (slot_at t.slots) (shared_at t.files) t.consistent c.args.fd d (record d { offset = c.args.offset }) was refl c.requires.within);
    }

-- the file at the descriptor is moved alone
moved_at : (c : goal.After-self-1) → (k : ℕ)
    → opened_files (slot_at c.change.new.self) (shared_at c.args.self.now.files) k ≡ put_open c.args.fd (option_map (λ (f : OpenFile). record f { offset = c.args.offset }) (open_at c.args.self.now c.args.fd)) (open_at c.args.self.now) k
moved_at c k =
    let t = c.args.self.now in
    let d = c.in-Some.description in
    let was : slot_at t.slots c.args.fd ≡ Some d = sym c.get.ensures ∙ c.in-Some.is in
    let kept = kept_file (slot_at t.slots) (shared_at t.files) t.consistent c.args.fd d was in
    opened_same (put_open c.args.fd (Some (record d { offset = c.args.offset })) (slot_at t.slots)) (slot_at c.change.new.self) (shared_at t.files) (shared_at t.files) c.change.ensures.slots (λ n. refl) k
    ∙ moved_files (slot_at t.slots) (shared_at t.files) t.consistent c.args.fd d kept.0 c.args.offset was kept.1 k
    ∙ ap (λ o. put_open c.args.fd (option_map (λ (f : OpenFile). record f { offset = c.args.offset }) o) (open_at t) k) (sym (files_some (slot_at t.slots) (shared_at t.files) c.args.fd d kept.0 was kept.1))

pub returns-in-Some-clause-mounted : goal.returns-in-Some-clause-mounted
returns-in-Some-clause-mounted c v mounted =
    let t = c.args.self.now in
    let moved = λ (f : OpenFile). record f { offset = c.args.offset } in
    subst (IsMounted v)
    (fun_ext (λ k. sym (described_put (open_at t) (opened_files (slot_at c.change.new.self) (shared_at t.files)) c.args.fd (option_map moved (open_at t c.args.fd)) (moved_at c) k
    ∙ ap (λ o. put_open c.args.fd o (table_of t) k) (place_described c.args.offset (open_at t c.args.fd)))))
    (mounted_moved (table_of t) c.args.fd c.args.offset v c.requires.within mounted)

pub returns-in-Some-clause-fits : goal.returns-in-Some-clause-fits
returns-in-Some-clause-fits c v fits =
    let t = c.args.self.now in
    fits_put t _ c.args.fd (option_map (λ (f : OpenFile). record f { offset = c.args.offset }) (open_at t c.args.fd)) (moved_at c) v
    (λ f e. let from = mapped (λ (g : OpenFile). record g { offset = c.args.offset }) (open_at t c.args.fd) f e in subst (IsFileOf v) from.2 (fits.files c.args.fd from.0 from.1)) fits
