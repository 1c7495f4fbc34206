use Rattle.std.proofs.Common.{false, true, sym, subst}
use Rattle.fuse.specs.Operation.{operation_of}
use Rattle.fuse.specs.declared.operation.Operation.{Operation}
use Rattle.served.specs.Known.{known_of}
use Rattle.served.specs.Requests.{of_running, part}
use Rattle.served.specs.Setting.{Told}
use Rattle.served.specs.Turns.{Came}
use Rattle.served.specs.Listing.{list, running}
use Rattle.served.specs.Looking.{read_link, seek, tell_attributes}
use Rattle.served.proofs.RequestsLaws.{came_looks}
use Rattle.served.proofs.answering.answer_running.Goals as goal

pub returns-in-GetAttributes : goal.returns-in-GetAttributes
unfolding of_running
returns-in-GetAttributes g c =
    let G = g.F.FileSystem in
    let k = known_of c.args.memory.now in
    let r : Told = (c.tell_attributes.result, k) in
    subst (λ (op : Operation). Came G c.args.files.now c.tell_attributes.new.files (of_running k c.args.asker c.args.node c.args.handle (operation_of op)) r) (sym c.in-GetAttributes.is)
    (came_looks G c.args.files.now c.tell_attributes.new.files k (tell_attributes k c.args.node c.args.handle) c.tell_attributes.result c.tell_attributes.ensures)

pub returns-in-ReadLink : goal.returns-in-ReadLink
unfolding of_running
returns-in-ReadLink g c =
    let G = g.F.FileSystem in
    let k = known_of c.args.memory.now in
    let r : Told = (c.read_link.result, k) in
    subst (λ (op : Operation). Came G c.args.files.now c.read_link.new.files (of_running k c.args.asker c.args.node c.args.handle (operation_of op)) r) (sym c.in-ReadLink.is)
    (came_looks G c.args.files.now c.read_link.new.files k (read_link k c.args.node c.args.handle.number) c.read_link.result c.read_link.ensures)

pub returns-in-ReadDirectory : goal.returns-in-ReadDirectory
unfolding of_running
returns-in-ReadDirectory g c =
    let G = g.F.FileSystem in
    let k = known_of c.args.memory.now in
    let r : Told = (c.list.result, k) in
    subst (λ (op : Operation). Came G c.args.files.now c.list.new.files (of_running k c.args.asker c.args.node c.args.handle (operation_of op)) r) (sym c.in-ReadDirectory.is)
    (came_looks G c.args.files.now c.list.new.files k (list k running c.args.handle.number (part c.in-ReadDirectory.offset c.in-ReadDirectory.size false)) c.list.result c.list.ensures)

pub returns-in-ReadDirectoryPlus : goal.returns-in-ReadDirectoryPlus
unfolding of_running
returns-in-ReadDirectoryPlus g c =
    let G = g.F.FileSystem in
    let k = known_of c.args.memory.now in
    let r : Told = (c.list-in-ReadDirectoryPlus.result, k) in
    subst (λ (op : Operation). Came G c.args.files.now c.list-in-ReadDirectoryPlus.new.files (of_running k c.args.asker c.args.node c.args.handle (operation_of op)) r) (sym c.in-ReadDirectoryPlus.is)
    (came_looks G c.args.files.now c.list-in-ReadDirectoryPlus.new.files k (list k running c.args.handle.number (part c.in-ReadDirectoryPlus.offset c.in-ReadDirectoryPlus.size true)) c.list-in-ReadDirectoryPlus.result c.list-in-ReadDirectoryPlus.ensures)

pub returns-in-Seek : goal.returns-in-Seek
unfolding of_running
returns-in-Seek g c =
    let G = g.F.FileSystem in
    let k = known_of c.args.memory.now in
    let r : Told = (c.seek.result, k) in
    subst (λ (op : Operation). Came G c.args.files.now c.seek.new.files (of_running k c.args.asker c.args.node c.args.handle (operation_of op)) r) (sym c.in-Seek.is)
    (came_looks G c.args.files.now c.seek.new.files k (seek k c.args.node c.args.handle.number c.in-Seek.offset c.in-Seek.whence) c.seek.result c.seek.ensures)
