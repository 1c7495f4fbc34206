-- A point that changes nothing can be planned.
use Rattle.std.proofs.Common.{◌≡◌, inl, inr, ℕ, zero, suc, true, false, refl, sym, ◌∙◌}
use Rattle.layout.specs.Places.{Blocks}
use Rattle.layout.specs.declared.root.Root.{Root}
use Rattle.images.specs.Nodes.{held}
use Rattle.images.specs.Roots.{HeldTree, tree, inode_under, whole, slot}
use Rattle.images.specs.BlockMap.{entry, IsSystem, roots, head}
use Rattle.images.specs.Contents.{tree_contents}
use Rattle.images.specs.Points as point
use Rattle.images.specs.Points.{MarksPlane}
use Rattle.images.specs.States.{IsSound}
use Rattle.images.specs.Cuts.{PlansOn}
use Rattle.images.specs.Room.{SharesBase, restores, takes}
use Rattle.images.specs.SnapshotSteps.{unchanged}

bad : {A : Type 0} → false ≡ true → A
bad e = absurd (cc)

slot_is : (r : Root) (g k : ℕ) → slot (record r { generation = g }) k ≡ slot r k
slot_is r g zero = refl
slot_is r g (suc k) = refl

same_system : (r : Root) (g b : ℕ) → IsSystem r b → IsSystem (record r { generation = g }) b
same_system r g b (roots low) = roots low
same_system r g b (head k is) = head k (slot_is r g k ∙ is)

was_system : (r : Root) (g b : ℕ) → IsSystem (record r { generation = g }) b → IsSystem r b
was_system r g b (roots low) = roots low
was_system r g b (head k is) = head k (sym (slot_is r g k) ∙ is)

no_marks : (t : HeldTree) → MarksPlane (λ n. false) t 0 t (entry t) (entry t)
no_marks t b = (λ has. inl (has, λ n e. bad e), λ marked. elim marked [ inl kept ↦ kept.0 | inr comes ↦ bad comes.1 ])

shares_none : (r : Root) (g : ℕ) → SharesBase r (record r { generation = g }) 0 → ⊥
shares_none r g (takes k block new) = new.1 (sym (slot_is r g k) ∙ new.0)
shares_none r g (restores other) = other refl

pub idle_plan : (d : Blocks) (r : Root) (g : ℕ) → IsSound r (whole d r) → PlansOn unchanged d r d (record r { generation = g }) (tree_contents (whole d r).active)
unfolding whole tree held
idle_plan d r g sound = record {
  plan = record {
    inode = inode_under (held d r.inode_file) r.geometry.inodes;
    changed = λ n. false;
    taken = λ n b. false;
    inodes = λ n. refl;
    geometry = refl;
    content = λ n ordinary e. bad e;
    moves = λ n m i b e. bad e;
    each = λ n e. bad e;
    stays = λ n e. refl;
    same = λ n ordinary e. refl;
    free = λ n b e. bad e;
    once = λ n m b e. bad e;
    marks = no_marks (whole d r).active;
    slots = λ k low other. point.Slot.stays (slot_is r g k) (λ b. (λ x. x, λ x. x));
    system = λ b. (λ has. same_system r g b ((sound.exact.system b).0 has), λ own. (sound.exact.system b).1 (was_system r g b own));
  };
  sound = record {
    files = λ n e. bad e;
    kinds = λ n e. bad e;
    inodes = sound.active.inodes;
    numbers = sound.active.numbers;
    inode_map = sound.active.inode_map;
    block_map = sound.active.block_map;
  };
  own = record {
    heads = λ n k b new e. bad e;
    map = λ b shares names. absurd (shares_none r g shares);
    first = λ shares. absurd (shares_none r g shares);
  };
}
