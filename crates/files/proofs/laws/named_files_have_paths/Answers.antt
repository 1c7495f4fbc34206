use Rattle.files.proofs.NameLaws.{has_path, has_name}
use Rattle.files.proofs.laws.named_files_have_paths.Goals as goal

pub returns : goal.returns
returns c = λ limits n v table volume a_file. (has_name limits n v table c.volumes_tell_links.ensures volume a_file, has_path limits n v table c.volumes_tell_links.ensures volume a_file)
