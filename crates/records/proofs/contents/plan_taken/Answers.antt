use Rattle.std.proofs.Common.{ℕ, Some, sym, subst}
use Rattle.inode.specs.Room.{StoresMore}
use Rattle.inofile.specs.Settled.{content_of_object}
use Rattle.records.specs.Contents.{rewrite_room}
use Rattle.images.specs.Soundness.{by_bytes, by_sizes}
use Rattle.records.proofs.KindLaws.{not_file}
use Rattle.paths.proofs.LookingUp.{same_error}
use Rattle.paths.proofs.Objects.{same_object}
use Rattle.inode.specs.Files.{file_block}
use Rattle.dirs.proofs.KnownLaws.{same_knows}
use Rattle.records.proofs.contents.plan_taken.Goals as goal

pub returns-in_default-clause-same : goal.returns-in_default-clause-same
returns-in_default-clause-same g c = same_object (Some c.args.object.now)

pub returns-in_default-clause-told : goal.returns-in_default-clause-told
returns-in_default-clause-told g c = λ detail disk inodes settled found is.
    let o = c.args.object.now in
    sym (not_file detail o.status.kind inodes (content_of_object disk o) found is.stands c.in_default.not-File)

pub returns-clause-stores : goal.returns-clause-stores
returns-clause-stores g c = subst (λ (n : ℕ). StoresMore c.plan.new.file c.in_ok-change.change (rewrite_room n c.args.rewrite.now)) (sym c.plan.ensures.same.size) c.in_ok-change.ensures.stores

pub returns-clause-rewrites : goal.returns-clause-rewrites
returns-clause-rewrites g c by_bytes = c.in_ok-change.ensures.rewrites
returns-clause-rewrites g c by_sizes = λ disk shows ends. c.in_ok-change.ensures.sizes disk shows

pub returns-in_default-clause-whole : goal.returns-in_default-clause-whole
returns-in_default-clause-whole g c = λ disk shows kind. absurd (c.in_default.not-File kind)

pub returns-clause-whole : goal.returns-clause-whole
returns-clause-whole g c = λ disk shows kind. c.in_ok-change.ensures.whole disk shows

pub returns-in_err-change-clause-damaged : goal.returns-in_err-change-clause-damaged
returns-in_err-change-clause-damaged g c = λ disk shows is sound.
    let parts = sound c.in-File.is in
    c.in_err-change.ensures.damaged disk shows (same_error c.from_residual.result _ _ c.from_residual.ensures.1 is) parts.0 parts.1

pub returns-clause-knows : goal.returns-clause-knows
returns-clause-knows g c = λ inodes disk. same_knows inodes (file_block disk c.args.object.now.file) (file_block disk c.plan.new.file) c.args.object.now.known (c.plan.ensures.same.blocks disk)

pub returns-in_err-change-clause-knows : goal.returns-in_err-change-clause-knows
returns-in_err-change-clause-knows g c = λ inodes disk. same_knows inodes (file_block disk c.args.object.now.file) (file_block disk c.plan.new.file) c.args.object.now.known (c.plan.ensures.same.blocks disk)
