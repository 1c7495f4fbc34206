use Rattle.std.proofs.Common.{◌≡◌, List, length, replicate, set, get_or-set_other, refl, ap, ◌∙◌, arith, rules}
use Rattle.std.specs.Prelude.{slice_index_or}
use Rattle.std.proofs.lemmas.Grind.{get_or-set_at}
use Rattle.std.proofs.lemmas.List.{length-replicate, length-set}
use Rattle.layout.specs.declared.pointer.Pointer.{Pointer}
use Rattle.layout.specs.declared.pointer.Pointer.TheVariants.{Hole}
use Rattle.blocktree.proofs.PlaceMapLaws.{no_node}
use Rattle.blocktree.proofs.group.Group.with.Goals as goal

pub returns-clause-there : goal.returns-clause-there
returns-clause-there c =
    let is : c.in_ok-pointers.pointers.value ≡ set (replicate 1024 Hole) c.args.r c.args.pointer = search rules in
    ap (λ (xs : List Pointer). slice_index_or xs c.args.r Hole) is
    ∙ get_or-set_at (replicate 1024 Hole) c.args.r c.args.r c.args.pointer Hole refl (omega (arith, c.requires, length-replicate 1024 Hole))

pub returns-clause-others : goal.returns-clause-others
returns-clause-others c = λ k other.
    let is : c.in_ok-pointers.pointers.value ≡ set (replicate 1024 Hole) c.args.r c.args.pointer = search rules in
    ap (λ (xs : List Pointer). slice_index_or xs k Hole) is ∙ get_or-set_other (replicate 1024 Hole) c.args.r k c.args.pointer Hole other ∙ no_node 1024 k

pub invariant_of-result : goal.invariant_of-result
invariant_of-result c =
    let is : c.in_ok-pointers.pointers.value ≡ set (replicate 1024 Hole) c.args.r c.args.pointer = search rules in
    ap (λ (xs : List Pointer). length xs) is ∙ length-set (replicate 1024 Hole) c.args.r c.args.pointer ∙ length-replicate 1024 Hole
