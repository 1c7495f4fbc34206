use Rattle.std.specs.Option.{option_map}
use Rattle.std.specs.Prelude.{is_some}
use Rattle.std.proofs.Common.{Option, Ok, ap, subst, sym}
use Rattle.layout.specs.StateLimits.{limits_of}
use Rattle.model.specs.Attributes.{FitAttributes, new_attributes}
use Rattle.model.specs.Descriptors.{opens}
use Rattle.model.specs.Room.{nothing}
use Rattle.model.specs.Volumes.{tree_of}
use Rattle.model.specs.Sessions.{call_time}
use Rattle.model.specs.declared.attributes.Permissions.{Permissions}
use Rattle.model.specs.declared.time.Time.{Time}
use Rattle.files.specs.Opened.{tree_with}
use Rattle.model.specs.declared.reply.Reply.{Reply}
use Rattle.model.specs.declared.reply.Reply.TheVariants.{Refused}
use Rattle.descriptors.specs.Files.{description_of}
use Rattle.descriptors.specs.Tables.{table_of}
use Rattle.files.specs.Opening.{OpensDescriptorOver, opening_reply}
use Rattle.files.proofs.Preparing.{passes}
use Rattle.dispatch.specs.Preparing.{PreparesCall, opening_call}
use Rattle.dispatch.specs.declared.prepared_call.PreparedChange.{PreparedChange}
use Rattle.dispatch.specs.declared.table_move.TableMove.TheVariants.{Opens}
use Rattle.dispatch.proofs.DoingLaws.{does, opening_accepted, opening_kind, opens_leads, opens_so, said_so, said_within}
use Rattle.dispatch.proofs.open_file_change.prepare_opening.Goals as goal

pub returns-in_err-opening : goal.returns-in_err-opening
returns-in_err-opening g c =
    let limits = limits_of c.args.inodes.now.geometry in
    let table = table_of c.args.files.now in
    passes _ c.from_residual.result c.from_residual.ensures.1 c.in_err-opening.ensures (λ disk settled v stands volume mounted fits e told.
    opens_leads c.args.path.now c.args.flags c.args.mode c.args.below limits c.args.session.now v table c.args.tells (Refused e) v table nothing
    (subst (λ (p : Permissions). opens c.args.tells c.args.below limits (call_time limits c.args.session.now) (tree_of v table) c.args.path.now c.args.flags p (Refused e) (tree_of v table) nothing) c.permissions_of-permissions.ensures.is
    (subst (λ (n : Option Time). opens c.args.tells c.args.below limits n (tree_of v table) c.args.path.now c.args.flags c.permissions_of-permissions.result (Refused e) (tree_of v table) nothing) c.time_of-now.ensures.is (told c.args.tells))))

pub returns : goal.returns
returns g c =
    let files = c.args.files.now in
    let limits = limits_of c.args.inodes.now.geometry in
    let o = c.in_ok-opening.opening in
    let call = opening_call c.args.tells c.args.path.now c.args.flags c.args.mode c.args.below in
    let answered = opening_reply c.args.tells o in
    subst (λ (r : Reply). PreparesCall g.B.Blocks c.args.blocks.now c.prepare_open.new.blocks c.args.inodes.now c.prepare_open.new.inodes c.args.session.now files call
    (Ok (record { reply = r; change = c.said.result; table = Opens o.fd o.file }))) (sym c.reply_of-reply.ensures)
    (subst (λ (x : Option PreparedChange). PreparesCall g.B.Blocks c.args.blocks.now c.prepare_open.new.blocks c.args.inodes.now c.prepare_open.new.inodes c.args.session.now files call
    (Ok (record { reply = answered; change = x; table = Opens o.fd o.file }))) (sym c.said.ensures)
    (does c.args.session.now call c.time_of-now.ensures.is c.in_ok-opening.ensures
    (λ can. record {
      kind = opening_kind c.args.path.now c.args.flags c.args.mode c.args.below c.args.tells o;
      accepted = opening_accepted c.args.tells o;
      moves = (can.0, ap (option_map description_of) can.1, can.2);
      numbered = can.3;
      limits = said_within o.changing;
    }) (λ P is. said_so o.changing P is)
    (λ v told. opens_so c.args.path.now c.args.flags c.args.mode c.args.below limits c.args.session.now v files c.args.tells o o.changing
    (subst (λ (p : Permissions). OpensDescriptorOver (λ t. opens t c.args.below limits (call_time limits c.args.session.now) (tree_with files v) c.args.path.now c.args.flags p) limits v files o o.changing) c.permissions_of-permissions.ensures.is
    (subst (λ (n : Option Time). OpensDescriptorOver (λ t. opens t c.args.below limits n (tree_with files v) c.args.path.now c.args.flags c.permissions_of-permissions.result) limits v files o o.changing) c.time_of-now.ensures.is told)))))

pub prepare_open-requires-clause-kept : goal.prepare_open-requires-clause-kept
prepare_open-requires-clause-kept g c =
    subst (λ (n : Option Time). FitAttributes (is_some n) (new_attributes c.permissions_of-permissions.result)) (sym c.time_of-now.ensures.is) c.permissions_of-permissions.ensures.kept
