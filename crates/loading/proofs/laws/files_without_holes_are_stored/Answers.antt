use Rattle.loading.proofs.FileLaws.{map_file}
use Rattle.loading.proofs.laws.files_without_holes_are_stored.Goals as goal

pub returns : goal.returns
returns c = λ detail s disk f sound.
    let law = c.nodes_are_where_pointers_lead.ensures in
    map_file (record { places = law.places; paths = law.paths _ }) s disk f sound c.sound_files_read_as_held.ensures
