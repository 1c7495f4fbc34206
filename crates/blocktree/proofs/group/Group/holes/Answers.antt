use Rattle.std.proofs.Common.{◌≡◌, List, replicate, ap, ◌∙◌, rules}
use Rattle.std.specs.Prelude.{slice_index_or}
use Rattle.layout.specs.declared.pointer.Pointer.{Pointer}
use Rattle.layout.specs.declared.pointer.Pointer.TheVariants.{Hole}
use Rattle.blocktree.proofs.PlaceMapLaws.{no_node}
use Rattle.blocktree.proofs.group.Group.holes.Goals as goal

pub returns : goal.returns
returns c = λ r.
    let is : c.in_ok-pointers.pointers.value ≡ replicate 1024 Hole = search rules in
    ap (λ (xs : List Pointer). slice_index_or xs r Hole) is ∙ no_node 1024 r
