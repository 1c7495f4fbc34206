-- What is known of a tree stays, while others are looked at.
use Rattle.std.proofs.Common.{◌∙◌, ℕ, List, refl, sym}
use Rattle.std.specs.Prelude.{◌↔◌, Option, slice_index}
use Rattle.layout.specs.Places.{Blocks}
use Rattle.layout.specs.declared.root.Root.{Root}
use Rattle.images.specs.BlockMap.{HasBit}
use Rattle.images.specs.Roots.{HeldTree}
use Rattle.checker.specs.Nodes.{StaysFor}
use Rattle.checker.specs.Trees.{HasMarked, IsSeenTo}
use Rattle.checker.specs.declared.nodes.Shared.{Shared}
use Rattle.checker.specs.declared.tree.Tree.{Tree}

pub stays_none : (k : ℕ) (marks : List ℕ) (shared : List (Option Shared)) → StaysFor k marks marks shared shared
stays_none k marks shared = record { marks = λ b. ((λ is. is), (λ is. is)); shared = refl }

pub stays_more : (k : ℕ) (a b c : List ℕ) (x y z : List (Option Shared)) → StaysFor k a b x y → StaysFor k b c y z → StaysFor k a c x z
stays_more k a b c x y z first last = record {
  marks = λ i. ((λ is. (first.marks i).0 ((last.marks i).0 is)), (λ is. (last.marks i).1 ((first.marks i).1 is)));
  shared = last.shared ∙ first.shared;
}

pub marked_stays : (t : HeldTree) (places k : ℕ) (old new : List ℕ) → ((b : ℕ) → HasBit k (slice_index new b) ↔ HasBit k (slice_index old b)) → HasMarked t places k old → HasMarked t places k new
marked_stays t places k old new same is = record {
  each = is.each;
  apart = is.apart;
  marked = λ b. ((λ bit. (is.marked b).0 ((same b).0 bit)), (λ named. (same b).1 ((is.marked b).1 named)));
}

pub seen_stays : (disk : Blocks) (r : Root) (blocks places : ℕ) (old new : List ℕ) (before after : List (Option Shared)) (t : Tree) → StaysFor t.plane old new before after
    → IsSeenTo disk r blocks places old before t → IsSeenTo disk r blocks places new after t
seen_stays disk r blocks places old new before after t stays is = record {
  tree = is.tree;
  fault = is.fault;
  maps = is.maps;
  inodes = is.inodes;
  marked = λ inside none. marked_stays _ places t.plane old new stays.marks (is.marked inside (sym stays.shared ∙ none));
  shared_is = λ inside s there. is.shared_is inside s (sym stays.shared ∙ there);
  mapped = is.mapped;
}
