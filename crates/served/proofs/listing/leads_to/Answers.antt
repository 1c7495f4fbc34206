use Rattle.std.proofs.Common.{◌≡◌, List, [], ℕ, ap, subst, ◌∙◌}
use Rattle.fuse.specs.declared.attributes.Attributes.{Attributes}
use Rattle.served.proofs.ListingLaws.{leads_running}
use Rattle.served.proofs.TurnLaws.{came_as, came_handle}
use Rattle.served.proofs.listing.leads_to.Goals as goal
use Rattle.served.specs.Known.{known_of, marks_at}
use Rattle.served.specs.Listing.{entry_at}
use Rattle.served.specs.Looking.{stored_parts}
use Rattle.served.specs.Nodes.{node_of}
use Rattle.served.specs.Telling.{attributes_of, entry_of}
use Rattle.served.specs.Turns.{Came, LeadsFrom, handle_now}
use Rattle.served.specs.declared.marks.Marks.{Marks}

pub returns-in-Ok : goal.returns-in-Ok
returns-in-Ok g c =
    let a = c.args in
    let stat = a.stat.now in
    let k = known_of a.memory.now in
    let handle = c.handle_of-handle.result in
    let parts = c.stored_parts-parts.result in
    let leads : LeadsFrom stat.number [] c.in-Ok.path.items = record { starts = c.in-Ok.ensures.starts; goes_on = c.in-Ok.ensures.goes_on; one_name = c.in-Ok.ensures.one_name } in
    let told : c.attributes_of-told.result ≡ attributes_of stat.number stat parts (marks_at k handle) =
    c.attributes_of-told.ensures ∙ (ap (λ (n : ℕ). attributes_of n stat parts c.marks_of-marks.result) c.from.ensures ∙ ap (λ (m : Marks). attributes_of stat.number stat parts m) c.marks_of-marks.ensures) in
    let entry : c.entry_of.result ≡ entry_at k stat parts handle =
    c.entry_of.ensures ∙ (ap (λ (n : ℕ). entry_of n handle.generation c.attributes_of-told.result) c.node_of.ensures
    ∙ ap (λ (t : Attributes). entry_of (node_of handle) handle.generation t) told) in
    leads_running g.F.FileSystem a.files.now c.stored_parts-parts.new.files k stat c.in-Ok.path.items parts handle c.entry_of.result leads
    (subst (λ (path : List ℕ). Came g.F.FileSystem a.files.now c.stored_parts-parts.new.files (stored_parts path stat) parts) c.deref.ensures.value c.stored_parts-parts.ensures)
    (came_as g.F.FileSystem c.stored_parts-parts.new.files c.stored_parts-parts.new.files (handle_now stat.number)
    (record { number = stat.number; generation = g.F.FileSystem.generations c.stored_parts-parts.new.files stat.number }) handle c.handle_of-handle.ensures
    (came_handle g.F.FileSystem c.stored_parts-parts.new.files stat.number))
    entry
