use Rattle.std.proofs.Common.{rules, ◌∙◌, ℕ, ℤ, List, w64, ap, sym, subst}
use Rattle.std.proofs.lemmas.Int.{to_z-of_z}
use Rattle.model.specs.declared.command.Command.TheVariants as command
use Rattle.dispatch.specs.Preparing.{PreparesCall}
use Rattle.dispatch.proofs.OpenFileLaws.{asked_so}
use Rattle.dispatch.proofs.preparing.prepare_call.Goals as goal

pub returns-in-Path : goal.returns-in-Path
returns-in-Path g c = rw c.in-Path.is (c.prepare_path_call.ensures c.args.files.now)

pub returns-in-Open : goal.returns-in-Open
returns-in-Open g c =
    let path = c.as_bytes-path.result.now in
    asked_so c.args.session.now c.args.call.now (command.Open path c.in-Open.flags c.in-Open.mode c.in-Open.below) c.prepare_opening.result
    (c.in-Open.is ∙ ap (λ (p : List ℕ). command.Open p c.in-Open.flags c.in-Open.mode c.in-Open.below) (sym c.as_bytes-path.ensures)) c.prepare_opening.ensures

pub returns-in-OpenStat : goal.returns-in-OpenStat
returns-in-OpenStat g c =
    let path = c.as_bytes-path-in-OpenStat.result.now in
    asked_so c.args.session.now c.args.call.now (command.OpenStat path c.in-OpenStat.flags c.in-OpenStat.mode c.in-OpenStat.below) c.prepare_opening-in-OpenStat.result
    (c.in-OpenStat.is ∙ ap (λ (p : List ℕ). command.OpenStat p c.in-OpenStat.flags c.in-OpenStat.mode c.in-OpenStat.below) (sym c.as_bytes-path-in-OpenStat.ensures)) c.prepare_opening-in-OpenStat.ensures

pub returns-in-Write : goal.returns-in-Write
returns-in-Write g c =
    asked_so c.args.session.now c.args.call.now (command.Write c.in-Write.fd c.as_bytes.result.now) c.prepare_writing.result
    (c.in-Write.is ∙ ap (λ (b : List ℕ). command.Write c.in-Write.fd b) (sym c.as_bytes.ensures)) c.prepare_writing.ensures

pub returns-in-Pwrite : goal.returns-in-Pwrite
returns-in-Pwrite g c =
    let bytes = c.as_bytes-in-Pwrite.result.now in
    asked_so c.args.session.now c.args.call.now (command.Pwrite c.in-Pwrite.fd c.in-Pwrite.offset bytes) c.prepare_writing_at.result
    (c.in-Pwrite.is ∙ ap (λ (b : List ℕ). command.Pwrite c.in-Pwrite.fd c.in-Pwrite.offset b) (sym c.as_bytes-in-Pwrite.ensures))
    (subst (λ (z : ℤ). PreparesCall g.B.Blocks c.args.blocks.now c.prepare_writing_at.new.blocks c.args.inodes.now c.prepare_writing_at.new.inodes c.args.session.now c.args.files.now
    (command.Pwrite c.in-Pwrite.fd z bytes) c.prepare_writing_at.result) (to_z-of_z w64 c.in-Pwrite.offset (search rules)) c.prepare_writing_at.ensures)

pub returns-in-Ftruncate : goal.returns-in-Ftruncate
returns-in-Ftruncate g c =
    asked_so c.args.session.now c.args.call.now (command.Ftruncate c.in-Ftruncate.fd c.in-Ftruncate.size) c.prepare_truncating.result c.in-Ftruncate.is
    (subst (λ (z : ℤ). PreparesCall g.B.Blocks c.args.blocks.now c.prepare_truncating.new.blocks c.args.inodes.now c.prepare_truncating.new.inodes c.args.session.now c.args.files.now
    (command.Ftruncate c.in-Ftruncate.fd z) c.prepare_truncating.result) (to_z-of_z w64 c.in-Ftruncate.size (search rules)) c.prepare_truncating.ensures)

pub returns-in-Fchmod : goal.returns-in-Fchmod
returns-in-Fchmod g c =
    asked_so c.args.session.now c.args.call.now (command.Fchmod c.in-Fchmod.fd c.in-Fchmod.mode) c.prepare_changing_mode.result c.in-Fchmod.is c.prepare_changing_mode.ensures

pub returns-in-Fchown : goal.returns-in-Fchown
returns-in-Fchown g c =
    asked_so c.args.session.now c.args.call.now (command.Fchown c.in-Fchown.fd c.in-Fchown.owner c.in-Fchown.group) c.prepare_changing_owners.result c.in-Fchown.is c.prepare_changing_owners.ensures

pub returns-in-Futimens : goal.returns-in-Futimens
returns-in-Futimens g c =
    asked_so c.args.session.now c.args.call.now (command.Futimens c.in-Futimens.fd c.in-Futimens.time) c.prepare_changing_times.result c.in-Futimens.is c.prepare_changing_times.ensures
