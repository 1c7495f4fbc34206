-- When all that changed is planned, a point is planned.
use Rattle.std.proofs.Common.{◌≡◌, ◌⊎◌, inl, inr, ◌↔◌, ℕ, zero, suc, true, ◌/◌, ◌%◌, ◌<◌, ◌≤◌, refl, ap, sym, subst, ◌∙◌, arith}
use Rattle.std.proofs.Math.Path.{fun_ext}
use Rattle.std.proofs.lemmas.Bool.{cases_lt, cases_Bool}
use Rattle.std.specs.Int.{bit_at}
use Rattle.layout.specs.Inode.{IsInode, inode_bytes}
use Rattle.layout.specs.Limits.{Sizes, AreSizes}
use Rattle.layout.specs.Maps.{map_entry}
use Rattle.layout.specs.Places.{Blocks}
use Rattle.layout.specs.Root.{IsRoot}
use Rattle.layout.specs.declared.inode.Inode.{Inode}
use Rattle.layout.specs.declared.root.Root.{Root}
use Rattle.images.specs.Nodes.{held, Names, file_block}
use Rattle.images.specs.Room.{StoresOwn}
use Rattle.images.specs.Roots.{HeldTree, free_inode, inode_bytes_at, inode_under, tree, whole}
use Rattle.images.specs.BlockMap.{HasBit, entry}
use Rattle.images.specs.Contents.{Content}
use Rattle.images.specs.Points.{IsPlannedOn, IsSoundPlan, MarksPlane}
use Rattle.images.specs.SnapshotSteps.{SnapshotStep, CanStep, HasHead, StepsSlots}
use Rattle.images.specs.Soundness.{IsSoundTree}
use Rattle.images.specs.States.{IsSound}
use Rattle.planning.specs.Changes.{StepsEntries, StepsSets}
use Rattle.planning.specs.Progress.{Before, IsProgress, PlannedInodes}
use Rattle.planning.specs.Points.{IsComplete, planned_tree}
use Rattle.planning.proofs.ChangeLaws.{SnapshotsSpelled, slots_are, system_is}
use Rattle.images.proofs.EmptyLaws.{held_inode}

-- what images says of reading inodes
abbrev pub ReadsSpelled : Type 0
ReadsSpelled = (s : Sizes) (d : Blocks) (top i : Inode) (n : ℕ) → AreSizes s → top.layout ≡ s.layout → 1 ≤ n → n < s.inodes → IsInode s i
    → inode_bytes_at (file_block (held d top)) n ≡ inode_bytes i → tree d s.inodes top n ≡ held d i

abbrev pub ReadsPast : Type 0
ReadsPast = (d : Blocks) (inodes : ℕ) (top : Inode) (n : ℕ) → 1 ≤ n → inodes ≤ n → tree d inodes top n ≡ held d (free_inode top.layout)

tree_inode : (d : Blocks) (inodes : ℕ) (top : Inode) (n : ℕ) → (tree d inodes top n).inode ≡ inode_under (held d top) inodes n
unfolding tree held
tree_inode d inodes top n = refl

first_inode : (d : Blocks) (inodes : ℕ) (top : Inode) → inode_under (held d top) inodes 0 ≡ top
unfolding inode_under held
first_inode d inodes top = refl

entry_same : (t u : HeldTree) (b : ℕ) → t 2 ≡ u 2 → entry t b ≡ entry u b
unfolding entry
entry_same t u b same = ap (λ h. map_entry (file_block h (b / 1024)) (b % 1024)) same

new_map : (e : Blocks) (new : Root) (i : Inode) → inode_under (held e new.inode_file) new.geometry.inodes 2 ≡ i → (whole e new).active 2 ≡ held e i
unfolding whole tree
new_map e new i is = ap (held e) is

-- what is planned over a tree with this plane, on one disk that has the planned blocks
pub record PlansFrom (d : Blocks) (r : Root) (t : HeldTree) (plane : ℕ) (e : Blocks) (new : Root) (files : ℕ → Content) : Type 0 where
  pub plan : IsPlannedOn (whole d r) t plane r e new files
  pub sound : IsSoundPlan r.geometry e plan.inode plan.changed
  pub own : StoresOwn plane (λ n. held e (plan.inode n)) r new plan.taken

module _ (spelled : ReadsSpelled) (reads_past : ReadsPast) (d e : Blocks) (r new : Root) (t : HeldTree) (next : ℕ) (before : Before) (after : ℕ → ℕ) (p : PlannedInodes) (files : ℕ → Content)
    (root : IsRoot r) (sound : IsSound r (whole d r)) (tree_sound : IsSoundTree r.geometry t) (past : (n : ℕ) → r.geometry.inodes ≤ n → (t n).inode ≡ free_inode r.geometry.layout)
    (before_is : (b : ℕ) → before.entry b ≡ entry (whole d r).active b) (progress : IsProgress r.geometry t e next before after p) (whole_plan : IsComplete r new t e after p files) where
  each_fits : (n : ℕ) → IsInode r.geometry (p.inode n)
  each_fits n = elim (cases_Bool (p.changed n)) [
    | inl is ↦ subst (IsInode r.geometry) (held_inode e (p.inode n)) (progress.sound n is).inode
    | inr isnt ↦ subst (IsInode r.geometry) (sym (progress.stays n isnt)) (tree_sound.files n).inode
  ]

  -- under the new root, by the numbers of before
  read_inode : (n : ℕ) → inode_under (held e (p.inode 0)) r.geometry.inodes n ≡ p.inode n
  read_inode zero = first_inode e r.geometry.inodes (p.inode 0)
  read_inode (suc n) = elim (cases_lt (suc n) r.geometry.inodes) [
    | inl low ↦
        let bytes : inode_bytes_at (file_block (held e (p.inode 0))) (suc n) ≡ inode_bytes (p.inode (suc n)) =
        whole_plan.inodes.each (suc n) (omega arith) low ∙ ap inode_bytes (held_inode e (p.inode (suc n))) in
        sym (tree_inode e r.geometry.inodes (p.inode 0) (suc n))
        ∙ ap (λ h. h.inode) (spelled r.geometry e (p.inode 0) (p.inode (suc n)) (suc n) root.head.sizes (each_fits 0).layout (omega arith) low (each_fits (suc n)) bytes)
        ∙ held_inode e (p.inode (suc n))
    | inr high ↦
        sym (tree_inode e r.geometry.inodes (p.inode 0) (suc n))
        ∙ ap (λ h. h.inode) (reads_past e r.geometry.inodes (p.inode 0) (suc n) (omega arith) high)
        ∙ held_inode e (free_inode (p.inode 0).layout)
        ∙ ap free_inode (each_fits 0).layout
        ∙ sym (progress.stays (suc n) (whole_plan.past (suc n) high) ∙ past (suc n) high)
  ]

  pub inodes_are : (n : ℕ) → inode_under (held e new.inode_file) new.geometry.inodes n ≡ p.inode n
  inodes_are n = ap (λ (top : Inode). inode_under (held e top) new.geometry.inodes n) whole_plan.top
      ∙ ap (λ (s : Sizes). inode_under (held e (p.inode 0)) s.inodes n) whole_plan.geometry ∙ read_inode n

  -- the other planes are as the step makes them
  abbrev Old : ℕ → ℕ
  Old = entry (whole d r).active

  abbrev New : ℕ → ℕ
  New = entry (planned_tree e p)

  pub stepped : (step : SnapshotStep) → StepsEntries step r new before.entry before.entry after → StepsEntries step r new Old Old New
  stepped step entries = record {
    between = entries.between;
    sets = subst (λ (f : ℕ → ℕ). StepsSets step r new f f entries.between) (fun_ext before_is) entries.sets;
    keeps = λ b i other. ap (λ x. bit_at x i) (whole_plan.entries b) ∙ entries.keeps b i other;
  }

  abbrev Was : ℕ → ℕ → Type 0
  Was b x = (HasBit before.plane x × ((n : ℕ) → p.changed n ≡ true → Names (t n) b → ⊥)) ⊎ ((n : ℕ) × (p.changed n ≡ true) × Names (held e (p.inode n)) b)

  pub marks_are : MarksPlane p.changed t before.plane (planned_tree e p) (entry (whole d r).active) (entry (planned_tree e p))
  marks_are b = subst (λ x. HasBit 0 x ↔ Was b (entry (whole d r).active b)) (sym (whole_plan.entries b))
      (subst (λ x. HasBit 0 (after b) ↔ Was b x) (before_is b) (progress.marks b))

  pub point_entries : (b : ℕ) → entry (whole e new).active b ≡ after b
  point_entries b = entry_same (whole e new).active (planned_tree e p) b (new_map e new (p.inode 2) (inodes_are 2)) ∙ whole_plan.entries b

  unfoldable pub point_planned : (step : SnapshotStep) → StepsEntries step r new before.entry before.entry after → SnapshotsSpelled → CanStep step r (whole d r) → StepsSlots step r new → HasHead step new e
      → StoresOwn before.plane (planned_tree e p) r new p.taken → PlansFrom d r t before.plane e new files
  point_planned step entries heads can slots head own = record {
    plan = record {
      inode = p.inode;
      changed = p.changed;
      taken = p.taken;
      inodes = inodes_are;
      geometry = whole_plan.geometry;
      content = whole_plan.content;
      moves = progress.moves;
      each = progress.each;
      stays = progress.stays;
      same = whole_plan.same;
      free = λ n b is. sym (before_is b) ∙ progress.free n b is;
      once = progress.once;
      marks = marks_are;
      slots = slots_are heads r new d e New root sound step can slots head (stepped step entries);
      system = system_is heads r new d e New root sound step can slots (stepped step entries);
    };
    sound = record {
      files = progress.sound;
      kinds = progress.kinds;
      inodes = whole_plan.inodes;
      numbers = whole_plan.numbers;
      inode_map = whole_plan.inode_map;
      block_map = whole_plan.block_map;
    };
    own = own;
  }
