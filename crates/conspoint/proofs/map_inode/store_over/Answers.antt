use Rattle.std.proofs.Common.{◌≡◌, List, ℕ, ap, sym, ◌∙◌}
use Rattle.layout.specs.Maps.{indirect_pointer}
use Rattle.layout.specs.Pointer.{pointer_number}
use Rattle.conspoint.proofs.map_inode.store_over.Goals as goal

pub put-requires : goal.put-requires
put-requires c = c.requires.reserved c.in-Block.place c.in-Block.is

pub returns-in_ok-put-clause-spelled : goal.returns-in_ok-put-clause-spelled
returns-in_ok-put-clause-spelled c e has b i is lt =
    let at : c.in-Block.place ≡ b = ap pointer_number (sym c.in-Block.is ∙ is) in
    let bytes : e b ≡ c.spell_nodes-bytes.result = ap e (sym at) ∙ c.in_ok-put.ensures.stored e has ∙ c.in_ok-copy_of.ensures in
    ap (λ (xs : List ℕ). indirect_pointer xs i) bytes ∙ c.spell_nodes-bytes.ensures i lt
