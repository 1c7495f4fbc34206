use Rattle.loading.proofs.FileLaws.{readable_whole}
use Rattle.loading.proofs.laws.readable_files_are_whole.Goals as goal

pub returns : goal.returns
returns c = λ detail.
    let law = c.nodes_are_where_pointers_lead.ensures in
    readable_whole (record { places = law.places; paths = law.paths _ })
