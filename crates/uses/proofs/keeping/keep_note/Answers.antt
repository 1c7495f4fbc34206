use Rattle.std.proofs.Common.{[], ◌∷◌, ℕ, refl, subst}
use Rattle.std.specs.Prelude.{pos, codes}
use Rattle.model.specs.declared.command.Command.TheVariants as command
use Rattle.model.specs.declared.command.PathCall.TheVariants as call
use Rattle.model.specs.declared.limits.TheConstants.{OPEN_FILES, TRANSFER_BYTES}
use Rattle.model.specs.declared.reply.Reply.TheVariants as reply
use Rattle.mount.specs.Applying.{AppliesCommand}
use Rattle.uses.specs.Using.{new_file}
use Rattle.uses.proofs.UsingLaws.{led_none, led_on, mode_is, refused_at}
use Rattle.uses.proofs.keeping.keep_note.Goals as goal

pub returns-in_err-mkdir : goal.returns-in_err-mkdir
returns-in_err-mkdir g c =
    let mode = mode_is c.new.result c.unwrap.result 0o755 c.unwrap.ensures c.new.ensures.value in
    let mkdir = subst (λ (m : ℕ). AppliesCommand {G = g.S.Station} c.args.fs.now c.mkdir.new.self (command.Path (call.Mkdir (codes "/notes") m)) (reply.Refused c.in_err-mkdir.field-0.0)) mode c.in_err-mkdir.ensures in
    refused_at {G = g.S.Station} c.from_residual.result c.in_err-mkdir.field-0.0 c.args.note.now 0 0 [] [] _ (command.Path (call.Mkdir (codes "/notes") 0o755), reply.Done) refl c.from_residual.ensures.1
    (led_on (led_none c.begins.ensures) mkdir)

pub returns-in_err-fd : goal.returns-in_err-fd
returns-in_err-fd g c =
    let mode = mode_is c.new.result c.unwrap.result 0o755 c.unwrap.ensures c.new.ensures.value in
    let mkdir = subst (λ (m : ℕ). AppliesCommand {G = g.S.Station} c.args.fs.now c.mkdir.new.self (command.Path (call.Mkdir (codes "/notes") m)) reply.Done) mode c.in_ok-mkdir.ensures in
    let mode_2 = mode_is c.new-2.result c.unwrap-2.result 0o600 c.unwrap-2.ensures c.new-2.ensures.value in
    let opened = subst (λ (m : ℕ). AppliesCommand {G = g.S.Station} c.mkdir.new.self c.«open».new.self (command.Open (codes "/notes/first") new_file m OPEN_FILES) (reply.Refused c.in_err-fd.field-0.0)) mode_2 c.in_err-fd.ensures in
    refused_at {G = g.S.Station} c.from_residual-in_err-fd.result c.in_err-fd.field-0.0 c.args.note.now 0 0 [] ((command.Path (call.Mkdir (codes "/notes") 0o755), reply.Done) ∷ []) _ (command.Open (codes "/notes/first") new_file 0o600 OPEN_FILES, reply.Fd 0) refl c.from_residual-in_err-fd.ensures.1
    (led_on (led_on (led_none c.begins.ensures) mkdir) opened)

pub returns-in_err-write : goal.returns-in_err-write
returns-in_err-write g c =
    let mode = mode_is c.new.result c.unwrap.result 0o755 c.unwrap.ensures c.new.ensures.value in
    let mkdir = subst (λ (m : ℕ). AppliesCommand {G = g.S.Station} c.args.fs.now c.mkdir.new.self (command.Path (call.Mkdir (codes "/notes") m)) reply.Done) mode c.in_ok-mkdir.ensures in
    let mode_2 = mode_is c.new-2.result c.unwrap-2.result 0o600 c.unwrap-2.ensures c.new-2.ensures.value in
    let opened = subst (λ (m : ℕ). AppliesCommand {G = g.S.Station} c.mkdir.new.self c.«open».new.self (command.Open (codes "/notes/first") new_file m OPEN_FILES) (reply.Fd c.in_ok-fd.fd)) mode_2 c.in_ok-fd.ensures in
    refused_at {G = g.S.Station} c.from_residual-in_err-write.result c.in_err-write.field-0.0 c.args.note.now c.in_ok-fd.fd 0 [] ((command.Path (call.Mkdir (codes "/notes") 0o755), reply.Done) ∷ (command.Open (codes "/notes/first") new_file 0o600 OPEN_FILES, reply.Fd c.in_ok-fd.fd) ∷ []) _ (command.Write c.in_ok-fd.fd c.args.note.now, reply.Wrote 0) refl c.from_residual-in_err-write.ensures.1
    (led_on (led_on (led_on (led_none c.begins.ensures) mkdir) opened) c.in_err-write.ensures)

pub returns-in_err-kept : goal.returns-in_err-kept
returns-in_err-kept g c =
    let mode = mode_is c.new.result c.unwrap.result 0o755 c.unwrap.ensures c.new.ensures.value in
    let mkdir = subst (λ (m : ℕ). AppliesCommand {G = g.S.Station} c.args.fs.now c.mkdir.new.self (command.Path (call.Mkdir (codes "/notes") m)) reply.Done) mode c.in_ok-mkdir.ensures in
    let mode_2 = mode_is c.new-2.result c.unwrap-2.result 0o600 c.unwrap-2.ensures c.new-2.ensures.value in
    let opened = subst (λ (m : ℕ). AppliesCommand {G = g.S.Station} c.mkdir.new.self c.«open».new.self (command.Open (codes "/notes/first") new_file m OPEN_FILES) (reply.Fd c.in_ok-fd.fd)) mode_2 c.in_ok-fd.ensures in
    refused_at {G = g.S.Station} c.from_residual-in_err-kept.result c.in_err-kept.field-0.0 c.args.note.now c.in_ok-fd.fd c.in_ok-write.field-0 [] ((command.Path (call.Mkdir (codes "/notes") 0o755), reply.Done) ∷ (command.Open (codes "/notes/first") new_file 0o600 OPEN_FILES, reply.Fd c.in_ok-fd.fd) ∷ (command.Write c.in_ok-fd.fd c.args.note.now, reply.Wrote c.in_ok-write.field-0) ∷ []) _ (command.Pread c.in_ok-fd.fd (pos 0) TRANSFER_BYTES, reply.Data []) refl c.from_residual-in_err-kept.ensures.1
    (led_on (led_on (led_on (led_on (led_none c.begins.ensures) mkdir) opened) c.in_ok-write.ensures) c.in_err-kept.ensures)

pub returns-in_err-close : goal.returns-in_err-close
returns-in_err-close g c =
    let mode = mode_is c.new.result c.unwrap.result 0o755 c.unwrap.ensures c.new.ensures.value in
    let mkdir = subst (λ (m : ℕ). AppliesCommand {G = g.S.Station} c.args.fs.now c.mkdir.new.self (command.Path (call.Mkdir (codes "/notes") m)) reply.Done) mode c.in_ok-mkdir.ensures in
    let mode_2 = mode_is c.new-2.result c.unwrap-2.result 0o600 c.unwrap-2.ensures c.new-2.ensures.value in
    let opened = subst (λ (m : ℕ). AppliesCommand {G = g.S.Station} c.mkdir.new.self c.«open».new.self (command.Open (codes "/notes/first") new_file m OPEN_FILES) (reply.Fd c.in_ok-fd.fd)) mode_2 c.in_ok-fd.ensures in
    refused_at {G = g.S.Station} c.from_residual-in_err-close.result c.in_err-close.field-0.0 c.args.note.now c.in_ok-fd.fd c.in_ok-write.field-0 c.in_ok-kept.kept ((command.Path (call.Mkdir (codes "/notes") 0o755), reply.Done) ∷ (command.Open (codes "/notes/first") new_file 0o600 OPEN_FILES, reply.Fd c.in_ok-fd.fd) ∷ (command.Write c.in_ok-fd.fd c.args.note.now, reply.Wrote c.in_ok-write.field-0) ∷ (command.Pread c.in_ok-fd.fd (pos 0) TRANSFER_BYTES, reply.Data c.in_ok-kept.kept) ∷ []) _ (command.Close c.in_ok-fd.fd, reply.Done) refl c.from_residual-in_err-close.ensures.1
    (led_on (led_on (led_on (led_on (led_on (led_none c.begins.ensures) mkdir) opened) c.in_ok-write.ensures) c.in_ok-kept.ensures) c.in_err-close.ensures)

pub returns-in_err-snap_take : goal.returns-in_err-snap_take
returns-in_err-snap_take g c =
    let mode = mode_is c.new.result c.unwrap.result 0o755 c.unwrap.ensures c.new.ensures.value in
    let mkdir = subst (λ (m : ℕ). AppliesCommand {G = g.S.Station} c.args.fs.now c.mkdir.new.self (command.Path (call.Mkdir (codes "/notes") m)) reply.Done) mode c.in_ok-mkdir.ensures in
    let mode_2 = mode_is c.new-2.result c.unwrap-2.result 0o600 c.unwrap-2.ensures c.new-2.ensures.value in
    let opened = subst (λ (m : ℕ). AppliesCommand {G = g.S.Station} c.mkdir.new.self c.«open».new.self (command.Open (codes "/notes/first") new_file m OPEN_FILES) (reply.Fd c.in_ok-fd.fd)) mode_2 c.in_ok-fd.ensures in
    refused_at {G = g.S.Station} c.from_residual-in_err-snap_take.result c.in_err-snap_take.field-0.0 c.args.note.now c.in_ok-fd.fd c.in_ok-write.field-0 c.in_ok-kept.kept ((command.Path (call.Mkdir (codes "/notes") 0o755), reply.Done) ∷ (command.Open (codes "/notes/first") new_file 0o600 OPEN_FILES, reply.Fd c.in_ok-fd.fd) ∷ (command.Write c.in_ok-fd.fd c.args.note.now, reply.Wrote c.in_ok-write.field-0) ∷ (command.Pread c.in_ok-fd.fd (pos 0) TRANSFER_BYTES, reply.Data c.in_ok-kept.kept) ∷ (command.Close c.in_ok-fd.fd, reply.Done) ∷ []) _ (command.SnapTake (codes "first"), reply.Done) refl c.from_residual-in_err-snap_take.ensures.1
    (led_on (led_on (led_on (led_on (led_on (led_on (led_none c.begins.ensures) mkdir) opened) c.in_ok-write.ensures) c.in_ok-kept.ensures) c.in_ok-close.ensures) c.in_err-snap_take.ensures)

pub returns : goal.returns
returns g c =
    let mode = mode_is c.new.result c.unwrap.result 0o755 c.unwrap.ensures c.new.ensures.value in
    let mkdir = subst (λ (m : ℕ). AppliesCommand {G = g.S.Station} c.args.fs.now c.mkdir.new.self (command.Path (call.Mkdir (codes "/notes") m)) reply.Done) mode c.in_ok-mkdir.ensures in
    let mode_2 = mode_is c.new-2.result c.unwrap-2.result 0o600 c.unwrap-2.ensures c.new-2.ensures.value in
    let opened = subst (λ (m : ℕ). AppliesCommand {G = g.S.Station} c.mkdir.new.self c.«open».new.self (command.Open (codes "/notes/first") new_file m OPEN_FILES) (reply.Fd c.in_ok-fd.fd)) mode_2 c.in_ok-fd.ensures in
    (_, (c.in_ok-fd.fd, c.in_ok-write.field-0, refl), led_on (led_on (led_on (led_on (led_on (led_on (led_none c.begins.ensures) mkdir) opened) c.in_ok-write.ensures) c.in_ok-kept.ensures) c.in_ok-close.ensures) c.in_ok-snap_take.ensures)
