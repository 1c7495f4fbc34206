use Rattle.std.proofs.Common.{◌≡◌, ℕ, Option, Some, None, ap, subst, sym, ◌∙◌}
use Rattle.std.proofs.lemmas.Bool.{false≢true}
use Rattle.model.specs.Trees.{Description}
use Rattle.model.specs.Volumes.{is_numbered}
use Rattle.descriptors.specs.Files.{description_of}
use Rattle.descriptors.specs.Tables.{put_open, table_of}
use Rattle.dispatch.specs.OpenFiles.{CanMove, FitsMove, HasRoomToMove, KeepsOpen}
use Rattle.dispatch.specs.declared.table_move.TableMove.{TableMove}
use Rattle.dispatch.proofs.TableLaws.{move_numbers, put_keeps, swept_stays}
use Rattle.dispatch.proofs.table_move.TableMove.put_into.Goals as goal

pub open-requires-clause-room : goal.open-requires-clause-room
open-requires-clause-room c = subst (λ (m : TableMove). HasRoomToMove c.args.files.now m) c.in-Opens.is c.requires.room

pub returns-in-Moves-clause-mounted : goal.returns-in-Moves-clause-mounted
returns-in-Moves-clause-mounted c = λ v fits mounted is. c.set_offset.ensures.mounted v mounted

pub returns-in-Moves-clause-numbers : goal.returns-in-Moves-clause-numbers
returns-in-Moves-clause-numbers c = λ n has is.
    let can = subst (λ (m : TableMove). CanMove (table_of c.args.files.now) m) c.in-Moves.is c.requires.can in
    move_numbers n c.args.files.now c.set_offset.new.self c.in-Moves.fd c.in-Moves.place can.0 c.set_offset.ensures.files has

pub returns-in-Opens-clause-mounted : goal.returns-in-Opens-clause-mounted
returns-in-Opens-clause-mounted c = λ v fits mounted is.
    let fd = c.in-Opens.fd in
    let before = table_of c.args.files.now in
    let can = subst (λ (m : TableMove). CanMove before m) c.in-Opens.is c.requires.can in
    let is_file = subst (λ (m : TableMove). FitsMove v m) c.in-Opens.is is in
    let none : before fd ≡ None = can.1 in
    let put : KeepsOpen before (put_open fd (Some (description_of c.in-Opens.file)) before) =
    put_keeps before fd (description_of c.in-Opens.file) (λ n here. absurd (false≢true (ap (λ (o : Option Description). is_numbered o n) (sym none) ∙ here))) in
    let keeps : KeepsOpen before (table_of c.open.new.self) = subst (λ (t : ℕ → Option Description). KeepsOpen before t) (sym c.open.ensures.table) put in
    c.tables_follow_volumes.ensures.mounted v (c.open.ensures.fits v fits is_file) (swept_stays before (table_of c.open.new.self) v keeps mounted.is_swept)
