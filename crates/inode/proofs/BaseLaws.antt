-- What a tree is based on, and files that stay the same.
use Rattle.std.proofs.Common.{◌≡◌, ◌∙◌, refl}
use Rattle.layout.specs.declared.inode.Inode.{Inode}
use Rattle.blocktree.specs.Trees.{SameChanges, SameSettled}
use Rattle.blocktree.specs.declared.tree.BlockTree.{BlockTree}
use Rattle.inode.specs.Bases.{IsBased, anew, over, KeepsBase}
use Rattle.inode.specs.Files.{IsSameFile}
use Rattle.inode.specs.declared.file.File.{File}

-- it has the layout of what it is based on
pub based_layout : (settled : Inode) (t : BlockTree) → IsBased settled t → t.layout ≡ settled.layout
based_layout settled t (anew layout none) = layout
based_layout settled t (over pointers body has) = has.layout_is

-- changes of blocks leave it
pub same_base : (old new : BlockTree) → SameSettled old new → KeepsBase old new
same_base old new same settled (anew layout none) = anew (same.layout ∙ layout) (same.count ∙ none)
same_base old new same settled (over pointers body has) = over pointers body (record {
  layout_is = same.layout ∙ has.layout_is;
  pointers_are = same.pointers ∙ has.pointers_are;
  depth = same.depth ∙ has.depth;
  count = same.count ∙ has.count;
})

same_twice : (a b c : BlockTree) → SameChanges a b → SameChanges b c → SameChanges a c
same_twice a b c first then = record {
  settled = record {
    layout = then.settled.layout ∙ first.settled.layout;
    pointers = then.settled.pointers ∙ first.settled.pointers;
    depth = then.settled.depth ∙ first.settled.depth;
    count = then.settled.count ∙ first.settled.count;
  };
  kept = then.kept ∙ first.kept;
  only = λ i is. first.only i (then.only i is);
}

pub same_itself : (f : File) → IsSameFile f f
same_itself f = record {
  size = refl;
  blocks = λ disk i. refl;
  base = λ settled was. was;
  sound = λ blocks disk i was. was;
  was_sound = λ blocks disk i is. is;
  changes = record { settled = record { layout = refl; pointers = refl; depth = refl; count = refl }; kept = refl; only = λ i is. is };
}

pub still_same : (a b c : File) → IsSameFile a b → IsSameFile b c → IsSameFile a c
still_same a b c first then = record {
  size = then.size ∙ first.size;
  blocks = λ disk i. then.blocks disk i ∙ first.blocks disk i;
  base = λ settled was. then.base settled (first.base settled was);
  sound = λ blocks disk i was. then.sound blocks disk i (first.sound blocks disk i was);
  was_sound = λ blocks disk i is. first.was_sound blocks disk i (then.was_sound blocks disk i is);
  changes = same_twice a.tree b.tree c.tree first.changes then.changes;
}
