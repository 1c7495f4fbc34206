use Rattle.std.proofs.Common.{refl}
use Rattle.loading.proofs.FileLaws.{body_path}
use Rattle.loading.proofs.laws.sound_files_have_sound_paths.Goals as goal

pub returns : goal.returns
returns c = λ detail s disk f i sound.
    let law = c.nodes_are_where_pointers_lead.ensures in
    body_path (record { places = law.places; paths = law.paths _ }) s disk f i f.body refl sound
