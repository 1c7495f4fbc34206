use Rattle.std.proofs.Common.{rules, ℕ, ℤ, Option, refl, subst, sym, w64, ◌≡◌}
use Rattle.std.proofs.lemmas.Int.{to_z-of_z}
use Rattle.model.specs.declared.session.Session.{Session}
use Rattle.layout.specs.StateLimits.{limits_of}
use Rattle.model.specs.declared.limits.Limits.{Limits}
use Rattle.model.specs.Descriptors.{reads_from}
use Rattle.model.specs.Room.{nothing}
use Rattle.model.specs.Trees.{Description}
use Rattle.model.specs.Volumes.{Volume}
use Rattle.model.specs.declared.command.Command.{Command}
use Rattle.model.specs.declared.command.Command.TheVariants as command
use Rattle.model.specs.declared.reply.Reply.{Reply}
use Rattle.model.specs.declared.reply.Reply.TheVariants.{Attributes, Data, Refused, Stat}
use Rattle.files.specs.Opened.{tree_with}
use Rattle.files.proofs.Preparing.{not_moved}
use Rattle.dispatch.specs.OpenFiles.{WouldLead}
use Rattle.dispatch.proofs.AskingLaws.{moves, moves_none}
use Rattle.dispatch.proofs.open_file_reading.read_open_file.Goals as goal

-- what a call is answered that was asked in these words
as_asked : (limits : Limits) (said : Session) (v : Volume) (table after : ℕ → Option Description) (call asked : Command) (reply : Reply) → call ≡ asked → WouldLead limits said v table asked reply v after nothing
    → WouldLead limits said v table call reply v after nothing
as_asked limits said v table after call asked reply is here = subst (λ (k : Command). WouldLead limits said v table k reply v after nothing) (sym is) here

pub returns-in_err-bytes-in-Read-clause-tells : goal.returns-in_err-bytes-in-Read-clause-tells
returns-in_err-bytes-in-Read-clause-tells g c =
    moves_none _ c.from_residual.result c.from_residual.ensures.1 c.in_err-bytes-in-Read.ensures
    (λ v errno told said. as_asked (limits_of c.args.inodes.now.geometry) said v _ _ c.args.call.now (command.Read c.in-Read.fd c.in-Read.count) (Refused errno) c.in-Read.is (λ snapshots room. (told, refl)))

pub returns-in_ok-bytes-in-Read-clause-tells : goal.returns-in_ok-bytes-in-Read-clause-tells
returns-in_ok-bytes-in-Read-clause-tells g c =
    moves c.in_ok-bytes-in-Read.ensures (λ v told said. as_asked (limits_of c.args.inodes.now.geometry) said v _ _ c.args.call.now (command.Read c.in-Read.fd c.in-Read.count) (Data c.in_ok-bytes-in-Read.bytes) c.in-Read.is (λ snapshots room. (told, refl)))

pub returns-in_err-bytes-in-Pread-clause-tells : goal.returns-in_err-bytes-in-Pread-clause-tells
returns-in_err-bytes-in-Pread-clause-tells g c =
    moves_none _ c.from_residual-in_err-bytes-in-Pread.result c.from_residual-in_err-bytes-in-Pread.ensures.1 (not_moved c.in_err-bytes-in-Pread.ensures)
    (λ v errno told said. as_asked (limits_of c.args.inodes.now.geometry) said v _ _ c.args.call.now (command.Pread c.in-Pread.fd c.in-Pread.offset c.in-Pread.count) (Refused errno) c.in-Pread.is (λ snapshots room. (
      subst (λ (z : ℤ). reads_from (tree_with c.args.files.now v) c.in-Pread.fd z c.in-Pread.count (Refused errno) (tree_with c.args.files.now v) nothing) (to_z-of_z w64 c.in-Pread.offset (search rules)) told,
      refl,
    )))

pub returns-in_ok-bytes-in-Pread-clause-tells : goal.returns-in_ok-bytes-in-Pread-clause-tells
returns-in_ok-bytes-in-Pread-clause-tells g c =
    moves (not_moved c.in_ok-bytes-in-Pread.ensures) (λ v told said. as_asked (limits_of c.args.inodes.now.geometry) said v _ _ c.args.call.now (command.Pread c.in-Pread.fd c.in-Pread.offset c.in-Pread.count) (Data c.in_ok-bytes-in-Pread.bytes) c.in-Pread.is (λ snapshots room. (
      subst (λ (z : ℤ). reads_from (tree_with c.args.files.now v) c.in-Pread.fd z c.in-Pread.count (Data c.in_ok-bytes-in-Pread.bytes) (tree_with c.args.files.now v) nothing) (to_z-of_z w64 c.in-Pread.offset (search rules)) told,
      refl,
    )))

pub returns-in_err-stat-in-Fstat-clause-tells : goal.returns-in_err-stat-in-Fstat-clause-tells
returns-in_err-stat-in-Fstat-clause-tells g c =
    moves_none _ c.from_residual-in_err-stat-in-Fstat.result c.from_residual-in_err-stat-in-Fstat.ensures.1 (not_moved c.in_err-stat-in-Fstat.ensures)
    (λ v errno told said. as_asked (limits_of c.args.inodes.now.geometry) said v _ _ c.args.call.now (command.Fstat c.in-Fstat.fd) (Refused errno) c.in-Fstat.is (λ snapshots room. (told, refl)))

pub returns-in_ok-stat-in-Fstat-clause-tells : goal.returns-in_ok-stat-in-Fstat-clause-tells
returns-in_ok-stat-in-Fstat-clause-tells g c =
    moves (not_moved c.in_ok-stat-in-Fstat.ensures) (λ v told said. as_asked (limits_of c.args.inodes.now.geometry) said v _ _ c.args.call.now (command.Fstat c.in-Fstat.fd) (Stat c.in_ok-stat-in-Fstat.stat) c.in-Fstat.is (λ snapshots room. (told, refl)))

pub returns-in_err-told-in-Fattr-clause-tells : goal.returns-in_err-told-in-Fattr-clause-tells
returns-in_err-told-in-Fattr-clause-tells g c =
    moves_none _ c.from_residual-in_err-told-in-Fattr.result c.from_residual-in_err-told-in-Fattr.ensures.1 (not_moved c.in_err-told-in-Fattr.ensures)
    (λ v errno told said. as_asked (limits_of c.args.inodes.now.geometry) said v _ _ c.args.call.now (command.Fattr c.in-Fattr.fd) (Refused errno) c.in-Fattr.is (λ snapshots room. (told, refl)))

pub returns-in_ok-told-in-Fattr-clause-tells : goal.returns-in_ok-told-in-Fattr-clause-tells
returns-in_ok-told-in-Fattr-clause-tells g c =
    moves (not_moved c.in_ok-told-in-Fattr.ensures) (λ v told said. as_asked (limits_of c.args.inodes.now.geometry) said v _ _ c.args.call.now (command.Fattr c.in-Fattr.fd)
    (Attributes c.in_ok-told-in-Fattr.told.0 c.in_ok-told-in-Fattr.told.1) c.in-Fattr.is (λ snapshots room. (told, refl)))
