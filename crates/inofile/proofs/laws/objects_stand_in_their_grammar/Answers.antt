use Rattle.std.proofs.Common.{ℕ, subst}
use Rattle.blocktree.specs.Trees.{IsSoundAt}
use Rattle.inofile.proofs.DetailLaws.{sound_block}
use Rattle.inofile.proofs.laws.objects_stand_in_their_grammar.Goals as goal

pub returns : goal.returns
returns c = λ detail count disk settled s v n i o found is object can.
    let sound = is.inodes.sound n in
    subst (λ (b : ℕ). IsSoundAt b disk o.file.tree i) is.inodes.count
    (sound_block detail s.geometry disk (settled n) o.file.tree i sound (c.based_trees_are_sound.ensures.all _ s.geometry disk (settled n) o.file.tree sound object.base)
    (λ readable. c.based_trees_are_sound.ensures.at _ s.geometry disk (settled n) o.file.tree i sound readable object.base) can)
