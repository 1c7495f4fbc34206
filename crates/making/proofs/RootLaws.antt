-- The root of a new image.
use Rattle.std.proofs.Common.{◌≡◌, inl, inr, ℕ, zero, suc, ◌+◌, ◌≤◌, ◌/◌, ◌%◌, false, List, [], length, drop, replicate, refl, ap, sym, subst, ◌∙◌, arith}
use Rattle.std.specs.Prelude.{All, slice_index_or}
use Rattle.std.proofs.lemmas.Bool.{cases_lt}
use Rattle.std.proofs.lemmas.List.{drop_all, get_or_default, get_or-replicate, get_or_past, length-replicate}
use Rattle.layout.specs.Inode.{IsInode, inode_bytes}
use Rattle.layout.specs.Limits.{AreSizes}
use Rattle.layout.specs.Maps.{map_entry}
use Rattle.layout.specs.Places.{Blocks}
use Rattle.layout.specs.Pointer.{PointsBelow}
use Rattle.layout.specs.Root.{IsRoot}
use Rattle.layout.specs.declared.pointer.Pointer.{Pointer}
use Rattle.layout.specs.declared.pointer.Pointer.TheVariants.{Hole}
use Rattle.layout.specs.declared.root.Root.{Root}
use Rattle.layout.specs.Version.{layout_of, snapshot_slots}
use Rattle.layout.specs.declared.version.TheConstants.{SNAPSHOT_SLOTS, VERSION}
use Rattle.model.specs.Records.{count_orphans}
use Rattle.layout.specs.StateLimits.{fixed_of}
use Rattle.model.specs.Volumes.{is_orphan}
use Rattle.conspoint.specs.Drafts.{HasAll}
use Rattle.conspoint.specs.declared.draft.Draft.{Draft}
use Rattle.images.specs.FirstRoots.{IsFirst, root_alone_volume}
use Rattle.images.specs.BlockMap.{entry}
use Rattle.images.specs.Nodes.{Held, file_block, held}
use Rattle.images.specs.Room.{free_at}
use Rattle.images.specs.Roots.{slot, tree, whole}
use Rattle.images.specs.States.{HasReserve}
use Rattle.images.specs.Sums.{sum_below}
use Rattle.making.specs.Plans.{HasTree}
use Rattle.making.proofs.RoomLaws.{one_free}
use Rattle.images.proofs.EmptyLaws.{held_inode}
use Rattle.images.proofs.ReadingLaws.{read_spelled}

hole_at : (k : ℕ) → slice_index_or (replicate SNAPSHOT_SLOTS Hole) k Hole ≡ Hole
hole_at k = elim (cases_lt k SNAPSHOT_SLOTS) [
  | inl lt ↦ get_or-replicate {A = Pointer} SNAPSHOT_SLOTS k Hole Hole lt
  | inr ge ↦ get_or_past (replicate SNAPSHOT_SLOTS Hole) k Hole (omega (arith, ge, length-replicate {A = Pointer} SNAPSHOT_SLOTS Hole))
]

no_slot : (r : Root) → r.snapshots ≡ replicate SNAPSHOT_SLOTS Hole → (k : ℕ) → slot r k ≡ Hole
no_slot r none zero = refl
no_slot r none (suc k) = ap (λ (pointers : List Pointer). slice_index_or pointers k Hole) none ∙ hole_at k

below : (blocks : ℕ) → All (PointsBelow blocks) (replicate SNAPSHOT_SLOTS Hole)
below blocks k p lt = subst (PointsBelow blocks) (sym (get_or_default (replicate SNAPSHOT_SLOTS Hole) k p Hole lt ∙ hole_at k)) tt

ones_from : (f : ℕ → ℕ) (next n : ℕ) → ((b : ℕ) → next ≤ b → f b ≡ 1) → n ≤ sum_below f n + next
unfolding sum_below
ones_from f next zero one = omega arith
ones_from f next (suc n) one = elim (cases_lt n next) [
  | inl lt ↦ omega (arith, lt)
  | inr ge ↦ omega (arith, ones_from f next n one, one n ge)
]

-- the empty directory is no orphan
named : (n : ℕ) → is_orphan (root_alone_volume n) ≡ false
named zero = refl
named (suc zero) = refl
named (suc (suc zero)) = refl
named (suc (suc (suc zero))) = refl
named (suc (suc (suc (suc n)))) = refl

no_orphans : (n : ℕ) → count_orphans n root_alone_volume ≡ 0
no_orphans zero = refl
no_orphans (suc n) = rw (named n) (omega (arith, no_orphans n))

module _ (r : Root) (d : Draft) (version : r.version ≡ VERSION) (layout : r.geometry.layout ≡ layout_of VERSION) (generation : r.generation ≡ 1) (are : AreSizes r.geometry) (none : r.snapshots ≡ replicate SNAPSHOT_SLOTS Hole) (has : HasTree r.geometry d r.inode_file) where
  pub root_is : (e : Blocks) → HasAll e d.blocks.items → IsRoot r
  root_is e all = record {
    head = record { known = record { least = omega (arith, version); most = omega (arith, version) }; first = omega (arith, generation); last = omega (arith, generation); sizes = are; layout = layout ∙ ap layout_of (sym version) };
    kind = has.kind;
    inode_file = subst (IsInode r.geometry) (held_inode e r.inode_file) ((has.tree e all).files 0 (omega arith)).inode;
    slots = ap length none ∙ length-replicate {A = Pointer} SNAPSHOT_SLOTS Hole;
    snapshots = subst (All (PointsBelow r.geometry.blocks)) (sym none) (below r.geometry.blocks);
    few = subst (λ (v : ℕ). All (λ p. p ≡ Hole) (drop (snapshot_slots v) r.snapshots)) (sym version)
        (subst (All (λ p. p ≡ Hole)) (sym (drop_all SNAPSHOT_SLOTS r.snapshots (omega (arith, ap length none, length-replicate {A = Pointer} SNAPSHOT_SLOTS Hole)))) (λ k p lt. absurd (omega (arith, lt))));
  }

  -- of the whole disk the block map is the one that was placed
  module _ (e : Blocks) (all : HasAll e d.blocks.items) where
    is_map : tree e r.geometry.inodes r.inode_file 2 ≡ held e has.map
    is_map =
        let is = has.tree e all in
        read_spelled r.geometry e r.inode_file has.map 2 are (subst (IsInode r.geometry) (held_inode e r.inode_file) (is.files 0 (omega arith)).inode).layout (omega arith) (omega (arith, are.least_inodes)) (subst (IsInode r.geometry) (held_inode e has.map) (is.files 2 (omega arith)).inode)
        (is.spelled.each 2 (omega arith) (omega (arith, are.least_inodes)) ∙ ap inode_bytes (held_inode e has.map))

    unused : (b : ℕ) → d.map.next ≤ b → entry (whole e r).active b ≡ 0
    unfolding whole entry
    unused b past = ap (λ (h : Held). map_entry (file_block h (b / 1024)) (b % 1024)) is_map ∙ has.free e all b past

    pub reserve_is : fixed_of r.geometry.blocks + d.map.next ≤ r.geometry.blocks → HasReserve r (whole e r) root_alone_volume []
    reserve_is few =
        let free = ones_from (free_at (whole e r).active) d.map.next r.geometry.blocks (λ b past. one_free (entry (whole e r).active b) (unused b past)) in
        omega (arith, few, free, no_orphans r.geometry.inodes)

  pub first_is : (e : Blocks) → HasAll e d.blocks.items → IsFirst r e has.numbers has.map
  first_is e all = record { root = root_is e all; version = version; slots = no_slot r none; tree = has.tree e all }
