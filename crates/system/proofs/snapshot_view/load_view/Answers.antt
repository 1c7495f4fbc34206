use Rattle.std.proofs.Common.{rules, ◌≡◌, ◌⊎◌, ◌∙◌, Err, Ok, Option, Result, Some, ap, inl, inr, sym, subst}
use Rattle.std.specs.Result.{IsErrAnd}
use Rattle.std.specs.Prelude.{IsErrOf}
use Rattle.layout.specs.StateLimits.{limits_of}
use Rattle.buffers.specs.declared.error.BlockError.{BlockError}
use Rattle.buffers.specs.declared.error.BlockError.TheVariants as read
use Rattle.layout.specs.Limits.{Sizes}
use Rattle.loading.specs.Images.{inodes_of}
use Rattle.images.specs.Roots.{whole}
use Rattle.model.specs.Trees.{Tree}
use Rattle.model.specs.Volumes.{IsVolume}
use Rattle.snapshots.specs.Found.{FindsSnapshot}
use Rattle.snapshots.specs.declared.finding.FoundSnapshot.{FoundSnapshot}
use Rattle.system.proofs.snapshot_view.load_view.Goals as goal

-- an error of memory or of a device isn't one of the bytes
refused : {T : Type 0} (r : Result T BlockError) (e : BlockError) → IsErrAnd r (λ x. x ≡ e) → (e ≡ read.NoMemory) ⊎ (e ≡ read.Device) → IsErrOf r read.Damaged → ⊥
refused (Ok x) e is why damaged = absurd is
refused (Err x) e is (inl why) damaged = absurd cc
refused (Err x) e is (inr why) damaged = absurd cc

pub returns-clause-loads : goal.returns-clause-loads
returns-clause-loads g c = λ disk shows v pairs holds.
    let r = c.args.root.now in
    let name = c.args.name.now in
    let finds = subst (λ (o : Option FoundSnapshot). FindsSnapshot r disk name pairs o) c.in-Some.is (c.in_ok-found.ensures.finds disk shows v pairs holds) in
    let (kept, hold, volume, is) = finds.1.frozen in
    let are = c.in_ok-inodes.ensures.views disk (c.find.ensures.reads.same disk shows) v name pairs holds finds in (
      search rules,
      record {
        volume = kept;
        geometry = are.geometry;
        is = subst (λ (x : Sizes). IsVolume (limits_of x) kept) (sym are.geometry) volume;
        listed = finds.1.listed ∙ ap (λ (t : Tree). Some (name, t)) is;
        settled = inodes_of ((whole disk r).frozen c.in-Some.found.slot);
        stands = are.volume kept hold;
      },
    )

pub returns-in_err-inodes-clause-damaged : goal.returns-in_err-inodes-clause-damaged
returns-in_err-inodes-clause-damaged g c = λ disk shows v pairs holds.
    let r = c.args.root.now in
    let name = c.args.name.now in
    let finds = subst (λ (o : Option FoundSnapshot). FindsSnapshot r disk name pairs o) c.in-Some.is (c.in_ok-found.ensures.finds disk shows v pairs holds) in
    refused c.from_residual-in_err-inodes.result c.in_err-inodes.field-0.0 c.from_residual-in_err-inodes.ensures.1
    (c.in_err-inodes.ensures.views disk (c.find.ensures.reads.same disk shows) v name pairs holds finds)
