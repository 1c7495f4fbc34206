-- Where a whole plan starts, and that its root is one.
use Rattle.std.proofs.Common.{◌≡◌, ◌≢◌, ◌↔◌, inl, inr, ℕ, ◌+◌, ◌-◌, ◌*◌, ◌/◌, ◌%◌, ◌<◌, ◌≤◌, All, Bool, true, false, List, take, drop, refl, ap, sym, subst, ◌∙◌, arith}
use Rattle.std.proofs.Math.Path.{fun_ext}
use Rattle.std.proofs.lemmas.Bool.{cases_lt, cases_Bool}
use Rattle.std.proofs.lemmas.List.{get_or-take, get_or-drop}
use Rattle.std.specs.Int.{div_ceil}
use Rattle.std.specs.Prelude.{slice_index}
use Rattle.layout.specs.Bytes.{zeros}
use Rattle.layout.specs.FileBytes.{EndsAt, byte_in}
use Rattle.layout.specs.Inode.{FitsKind, IsInode}
use Rattle.layout.specs.Limits.{Sizes}
use Rattle.layout.specs.Places.{Blocks}
use Rattle.layout.specs.Trees.{single_bytes}
use Rattle.layout.specs.declared.trees.Layout.{Layout}
use Rattle.layout.specs.declared.trees.Layout.TheVariants.{Plain, Summed}
use Rattle.layout.specs.declared.inode.Inode.{Inode}
use Rattle.layout.specs.Root.{IsRoot}
use Rattle.layout.specs.declared.kind.Kind.{Kind}
use Rattle.layout.specs.declared.kind.Kind.TheVariants as kinds
use Rattle.layout.specs.declared.root.Root.{Root}
use Rattle.buffers.specs.declared.blocks.Blocks.{Ghosts}
use Rattle.blockmap.specs.Maps.{entry_at, settled_at}
use Rattle.conspoint.specs.Cuts.{disk_with_blocks}
use Rattle.conspoint.specs.Drafts.{HasAll}
use Rattle.conspoint.specs.Plans.{AreApart}
use Rattle.conspoint.specs.declared.draft.Draft.{Draft}
use Rattle.conspoint.specs.declared.plan.PlannedBlock.{PlannedBlock}
use Rattle.images.specs.Contents.{Content}
use Rattle.images.specs.Nodes.{Agrees, held}
use Rattle.images.specs.Nodes as nodes
use Rattle.images.specs.Roots.{HeldTree, Reach}
use Rattle.images.specs.Soundness.{IsSoundFile}
use Rattle.inode.specs.Files.{file_block}
use Rattle.inode.specs.declared.file.File.{File}
use Rattle.inofile.specs.Inodes.{IsChanged}
use Rattle.inofile.specs.declared.inode_file.InodeFile.{InodeFile}
use Rattle.planning.specs.Inodes.{AreSpelled}
use Rattle.planning.specs.Changes.{starting_file}
use Rattle.planning.specs.Plans.{IsAllPlanned, IsPlanStart, IsRootStart}
use Rattle.planning.specs.Progress.{Before, IsExactPlane, IsProgress, unplanned}
use Rattle.planning.specs.Steps.{ArePlanned, OverTree, tree_of}
use Rattle.planning.specs.declared.change.SnapshotChange.{SnapshotChange}
use Rattle.planning.proofs.OwnLaws.{inode_is}
use Rattle.planning.proofs.ProgressLaws.{none_planned}
use Rattle.images.proofs.EmptyLaws.{no_bit}
use Rattle.layout.proofs.ZeroLaws.{zero_byte}

module _ {B : Type 0} {G : Ghosts B} {x : B} {inodes : InodeFile} {o : OverTree G x inodes} {d : Draft} {top : Inode} (start : IsPlanStart o d top) where
  pub top_sound : IsSoundFile inodes.geometry (held o.disk top)
  top_sound = subst (λ (f : Inode). IsSoundFile inodes.geometry (held o.disk f)) start.top (o.memory.inodes.sound 0)

  -- nothing is planned, and the inode file is as it is settled
  pub started : (file : File) → ((i : ℕ) → file_block o.disk file i ≡ nodes.file_block (held o.disk top) i) → ArePlanned (λ n. ⊥) d.map.next d o.disk o.settled o.before inodes file
  started file as_held = record {
    way = record {
      plan = unplanned d.map.next (tree_of o);
      settled = start.map.same;
      progress = λ e has agrees.
          none_planned inodes.geometry (tree_of o) e d.map.next o.before (entry_at d.map.parts.items) start.active;
      contents = λ e has agrees n least is. absurd (cc);
      spelled = subst (λ (g : ℕ → List ℕ). AreSpelled inodes.geometry.inodes g (λ n. (tree_of o n).inode))
          (sym (fun_ext (λ i. as_held i ∙ ap (λ (f : Inode). nodes.file_block (held o.disk f) i) (sym start.top)))) (record {
            each = start.map.sound.inodes.each;
            first = start.map.sound.inodes.first;
            past = start.map.sound.inodes.past;
            behind = start.map.sound.inodes.behind;
          });
    };
    from_is = refl;
    just = λ n. (λ is. absurd (cc), λ no. absurd no);
  }

-- the file system's own numbers aren't among the changed ones
pub not_own : (inodes : InodeFile) (changed : ℕ → Bool) → ((n : ℕ) → (changed n ≡ true) ↔ IsChanged inodes n) → ((n : ℕ) → IsChanged inodes n → (3 ≤ n) × (n < inodes.geometry.inodes))
    → (n : ℕ) → n < 3 → changed n ≡ false
not_own inodes changed just numbers n low = elim (cases_Bool (changed n)) [
  | inl is ↦ (let least = (numbers n ((just n).0 is)).0 in absurd (omega arith))
  | inr isnt ↦ isnt
]

-- zeros stand behind the last inode
module _ (inodes size : ℕ) (block : ℕ → List ℕ) (inode : ℕ → Inode) (spelled : AreSpelled inodes block inode) (size_is : size ≡ 4096 * div_ceil inodes 21) where
  in_inode : (i k : ℕ) → div_ceil inodes 21 ≤ i → k < 4032 → slice_index (block i) k ≡ 0
  in_inode i k past lt =
      let n = 21 * i + k / 192 in
      let here : n / 21 ≡ i = omega arith in
      let index : n % 21 ≡ k / 192 = omega arith in
      let zero : take 192 (drop (192 * (n % 21)) (block (n / 21))) ≡ zeros 192 = spelled.past n (omega arith) in
      let zero_now : take 192 (drop (192 * (k / 192)) (block i)) ≡ zeros 192 = sym (ap (λ j. take 192 (drop (192 * j) (block (n / 21)))) index ∙ ap (λ j. take 192 (drop (192 * (k / 192)) (block j))) here) ∙ zero in
      ap (slice_index (block i)) (let e : k ≡ 192 * (k / 192) + k % 192 = omega arith in e)
      ∙ sym (get_or-drop (192 * (k / 192)) (block i) (k % 192) 0)
      ∙ sym (get_or-take 192 (drop (192 * (k / 192)) (block i)) (k % 192) 0 (omega arith))
      ∙ ap (λ (b : List ℕ). slice_index b (k % 192)) zero_now ∙ zero_byte (k % 192) 192

  behind_inodes : (i k : ℕ) → 4032 ≤ k → slice_index (block i) k ≡ 0
  behind_inodes i k ge =
      ap (slice_index (block i)) (let e : k ≡ 192 * 21 + (k - 4032) = omega arith in e) ∙ sym (get_or-drop (192 * 21) (block i) (k - 4032) 0)
      ∙ ap (λ (b : List ℕ). slice_index b (k - 4032)) (spelled.behind i) ∙ zero_byte (k - 4032) 64

  pub spelled_ends : EndsAt size (byte_in block)
  spelled_ends p past = elim (cases_lt (p % 4096) 4032) [
    | inl lt ↦ in_inode (p / 4096) (p % 4096) (omega (arith, size_is)) lt
    | inr ge ↦ behind_inodes (p / 4096) (p % 4096) ge
  ]

-- what conspoint says of a disk with the blocks of a plan
pub record WritesAll : Type 0 where
  pub has : (blocks : List PlannedBlock) (disk : Blocks) → AreApart blocks → All (λ b. disk_with_blocks blocks disk b.place ≡ b.bytes) blocks
  pub others : (blocks : List PlannedBlock) (disk : Blocks) (n : ℕ) → All (λ b. b.place ≢ n) blocks → disk_with_blocks blocks disk n ≡ disk n

-- the inode of the inode file fits a root
module _ {start : Draft} (writes : WritesAll) (d : Draft) (disk : Blocks) (before : Before) (s : Sizes) (t : HeldTree) (found : ℕ → Content) (inodes : InodeFile) (top : Inode)
    (all : IsAllPlanned start d disk before s t found inodes top) (exact : IsExactPlane t before) (same : (b : ℕ) → settled_at d.map.parts.items b ≡ before.entry b) where
  e : Blocks
  e = disk_with_blocks d.blocks.items disk

  has : HasAll e d.blocks.items
  unfolding e
  has = writes.has d.blocks.items disk d.drafted.planned.apart

  agrees : Agrees (Reach t) disk e
  unfolding e
  agrees b names = writes.others d.blocks.items disk b (λ k x lt is.
      no_bit before.plane (before.entry b) (sym (same b) ∙ sym (ap (settled_at d.map.parts.items) is) ∙ d.drafted.free k x lt) ((exact b).1 names))

  progress : IsProgress s t e d.map.next before (entry_at d.map.parts.items) all.plan
  progress = all.progress e has agrees

  pub top_kind : top.kind ≡ kinds.InodeFile
  top_kind = ap (λ (i : Inode). i.kind) (sym all.top_is) ∙ progress.kinds 0 all.first

  pub top_fits : IsInode s top
  top_fits = subst (IsInode s) all.top_is (inode_is s e (all.plan.inode 0) (progress.sound 0 all.first))

-- how large the inode file is
pub top_size : (s : Sizes) (r : Root) → IsRoot r → s ≡ r.geometry → r.inode_file.size ≡ 4096 * div_ceil s.inodes 21
top_size s r root same =
    (subst (λ (k : Kind). FitsKind k r.geometry r.inode_file.attributes r.inode_file.links r.inode_file.size) root.kind root.inode_file.kind).2 ∙ ap (λ (z : Sizes). 4096 * div_ceil z.inodes 21) (sym same)

single_least : (layout : Layout) → 33554432 ≤ single_bytes layout
single_least Plain = omega arith
single_least Summed = omega arith

pub top_small : (layout : Layout) (r : Root) → IsRoot r → r.inode_file.size ≤ single_bytes layout
top_small layout r root = omega (arith, top_size r.geometry r root refl, root.head.sizes.most_inodes, single_least layout)

-- and so is that of the tree that a change starts from
module _ {B : Type 0} {G : Ghosts B} {x : B} {inodes : InodeFile} {o : OverTree G x inodes} {change : SnapshotChange} {d : Draft} {root : Root} (start : IsRootStart o change d root) where
  pub start_size : IsRoot root → inodes.geometry ≡ root.geometry → (starting_file change root).size ≡ root.inode_file.size
  start_size is same =
      let s = inodes.geometry in
      let top = o.settled 0 in
      let fits = inode_is s o.disk top (o.memory.inodes.sound 0) in
      ap (λ (i : Inode). i.size) (sym start.top)
      ∙ (subst (λ (k : Kind). FitsKind k s top.attributes top.links top.size) (o.memory.inodes.fits 0) fits.kind).2
      ∙ sym (top_size s root is same)

  -- and it is one of the root's sizes
  pub start_kind : (starting_file change root).kind ≡ kinds.InodeFile
  start_kind = ap (λ (i : Inode). i.kind) (sym start.top) ∙ o.memory.inodes.fits 0

  pub start_fits : inodes.geometry ≡ root.geometry → IsInode root.geometry (starting_file change root)
  start_fits same = subst (λ (s : Sizes). IsInode s (starting_file change root)) same
      (subst (IsInode inodes.geometry) start.top (inode_is inodes.geometry o.disk (o.settled 0) (o.memory.inodes.sound 0)))
