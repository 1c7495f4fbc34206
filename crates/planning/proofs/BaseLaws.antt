-- The trees that a change of the snapshots lets a consistency point start from.
use Rattle.std.proofs.Common.{◌≡◌, ◌≢◌, inl, inr, ℕ, ◌+◌, ◌*◌, ◌/◌, ◌%◌, ◌≤◌, refl, ap, sym, subst, ◌∙◌, arith}
use Rattle.std.proofs.lemmas.Bool.{cases_lt}
use Rattle.std.specs.Int.{bit_at}
use Rattle.std.specs.Prelude.{slice_index}
use Rattle.layout.specs.Inode.{FitsKind}
use Rattle.layout.specs.Limits.{Sizes}
use Rattle.layout.specs.Places.{Blocks, pointed}
use Rattle.layout.specs.SnapRoot.{Snapshot, snapshot_in}
use Rattle.layout.specs.declared.kind.Kind.{Kind}
use Rattle.layout.specs.declared.pointer.Pointer.{Pointer}
use Rattle.layout.specs.declared.root.Root.{Root}
use Rattle.conspoint.specs.Drafts.{Grows}
use Rattle.conspoint.specs.MapFiles.{AreTouched}
use Rattle.conspoint.specs.declared.draft.Draft.{Draft}
use Rattle.layout.proofs.ZeroLaws.{word_zero}
use Rattle.images.specs.BlockMap.{entry}
use Rattle.images.specs.Nodes.{file_block, held}
use Rattle.images.specs.Points.{IsBase}
use Rattle.images.specs.Roots.{HeldTree, frozen_at, frozen_inode_file, inode_file_or_free, inode_under, tree, whole}
use Rattle.images.specs.Snapshots.{HasSnapshot}
use Rattle.images.specs.SnapshotSteps.{CanStep, IsSlotNumber, SnapshotStep, base_plane, base_tree, restored, unchanged}
use Rattle.images.specs.Soundness.{IsSoundTree}
use Rattle.images.specs.States.{IsSound}
use Rattle.planning.specs.Changes.{FitsSlots, HasRestored, StartsActive, TouchesRestored, starting_file, starting_plane, starting_tree}
use Rattle.planning.specs.Plans.{HasEntries, WillHaveEntries}
use Rattle.planning.specs.Progress.{Before, HasActive}
use Rattle.planning.specs.declared.change.SnapshotChange.{SnapshotChange}
use Rattle.planning.specs.declared.change.SnapshotChange.TheVariants.{Delete, Restore, Take, Unchanged}

-- what images says of them
pub record TreesAreBases : Type 0 where
  pub steps : (d : Blocks) (r : Root) (step : SnapshotStep) → IsSound r (whole d r) → CanStep step r (whole d r) → IsBase d r (base_tree step (whole d r)) (base_plane step)
  pub sound : (d : Blocks) (r : Root) (step : SnapshotStep) → IsSound r (whole d r) → CanStep step r (whole d r) → IsSoundTree r.geometry (base_tree step (whole d r))

-- ---- the inode of the inode file

active_top : (d : Blocks) (r : Root) → ((whole d r).active 0).inode ≡ r.inode_file
unfolding whole tree held inode_under
active_top d r = refl

frozen_top : (d : Blocks) (r : Root) (k : ℕ) (s : Snapshot) → HasSnapshot r (whole d r) k s → ((whole d r).frozen k 0).inode ≡ s.inode_file
unfolding whole tree held inode_under frozen_inode_file
frozen_top d r k s has =
    ap (λ (p : Pointer). (frozen_at d r.geometry p 0).inode) has.there
    ∙ ap (inode_file_or_free r.geometry.layout) (ap (λ p. snapshot_in r.geometry.layout (pointed d p)) (sym has.there) ∙ has.read)

pub start_file : (d : Blocks) (r : Root) (change : SnapshotChange) → HasRestored change r (whole d r) → ((starting_tree change (whole d r)) 0).inode ≡ starting_file change r
start_file d r Unchanged has = active_top d r
start_file d r (Take k order name) has = active_top d r
start_file d r (Delete k) has = active_top d r
start_file d r (Restore k f) has = frozen_top d r k has.0 has.1 ∙ has.2

-- ---- entries past the disk

-- a map's file has zeros past its end
entries_end : (s : Sizes) (t : HeldTree) (b : ℕ) → IsSoundTree s t → s.blocks ≤ b → entry t b ≡ 0
unfolding entry
entries_end s t b sound past =
    let file = sound.files 2 in
    let size : (t 2).inode.size ≡ 4 * s.blocks = (subst (λ (k : Kind). FitsKind k s (t 2).inode.attributes (t 2).inode.links (t 2).inode.size) (sound.kinds 2) file.inode.kind).2 in
    word_zero (file_block (t 2) (b / 1024)) (b % 1024) (λ r lt.
    let here : (4 * b + r) / 4096 ≡ b / 1024 = omega (arith, lt) in
    let place : (4 * b + r) % 4096 ≡ 4 * (b % 1024) + r = omega (arith, lt) in
    subst (λ i. slice_index (file_block (t 2) i) (4 * (b % 1024) + r) ≡ 0) here
    (subst (λ q. slice_index (file_block (t 2) ((4 * b + r) / 4096)) q ≡ 0) place (file.bytes.ends (4 * b + r) (omega (arith, size, past)))))

-- ---- the tree

can_restore : (d : Blocks) (r : Root) (k : ℕ) (s : Snapshot) → IsSlotNumber k → HasSnapshot r (whole d r) k s → CanStep (restored k s.name) r (whole d r)
can_restore d r k s number has = record { number = number; snapshot = s; has = has; named = refl }

module _ (d : Blocks) (r : Root) (sound : IsSound r (whole d r)) where
  pub start_base : TreesAreBases → (change : SnapshotChange) → FitsSlots change → HasRestored change r (whole d r) → IsBase d r (starting_tree change (whole d r)) (starting_plane change)
  start_base bases Unchanged fits has = bases.steps d r unchanged sound tt
  start_base bases (Take k order name) fits has = bases.steps d r unchanged sound tt
  start_base bases (Delete k) fits has = bases.steps d r unchanged sound tt
  start_base bases (Restore k f) fits has = bases.steps d r (restored k has.0.name) sound (can_restore d r k has.0 fits has.1)

  pub start_sound : TreesAreBases → (change : SnapshotChange) → FitsSlots change → HasRestored change r (whole d r) → IsSoundTree r.geometry (starting_tree change (whole d r))
  start_sound bases Unchanged fits has = bases.sound d r unchanged sound tt
  start_sound bases (Take k order name) fits has = bases.sound d r unchanged sound tt
  start_sound bases (Delete k) fits has = bases.sound d r unchanged sound tt
  start_sound bases (Restore k f) fits has = bases.sound d r (restored k has.0.name) sound (can_restore d r k has.0 fits has.1)

  pub will_have : (change : SnapshotChange) (count : ℕ) (settled : ℕ → ℕ) → count ≡ r.geometry.blocks → ((b : ℕ) → settled b ≡ entry (whole d r).active b) → HasRestored change r (whole d r)
      → WillHaveEntries change count settled (starting_tree change (whole d r))
  will_have Unchanged count settled size is has = is
  will_have (Take k order name) count settled size is has = is
  will_have (Delete k) count settled size is has = is
  will_have (Restore k f) count settled size is has = λ b past.
      is b ∙ entries_end r.geometry (whole d r).active b sound.active (omega (arith, size, past))
      ∙ sym (entries_end r.geometry ((whole d r).frozen k) b (sound.frozen k has.1.block has.1.there) (omega (arith, size, past)))

-- ---- once the snapshots are changed

pub has_entries : (change : SnapshotChange) (old new : Draft) (settled : ℕ → ℕ) (t : HeldTree) → Grows old new → TouchesRestored change new → WillHaveEntries change old.map.count settled t → HasEntries new settled t
has_entries Unchanged old new settled t grows touched will = λ b not. will b
has_entries (Take k order name) old new settled t grows touched will = λ b not. will b
has_entries (Delete k) old new settled t grows touched will = λ b not. will b
has_entries (Restore k f) old new settled t grows touched will = λ b not. elim (cases_lt b new.map.count) [
  | inl lt ↦ absurd (not lt (touched (b / 1024) (omega (arith, lt, new.map.covers))))
  | inr ge ↦ will b (omega (arith, ge, grows.count))
]

-- and when the draft grew
pub entries_later : (old new : Draft) (settled : ℕ → ℕ) (t : HeldTree) → Grows old new → HasEntries old settled t → HasEntries new settled t
entries_later old new settled t grows has = λ b not. has b (λ lt touched. not (omega (arith, lt, grows.count)) (grows.settled.touched (b / 1024) touched))

active_kept : (before : Before) (settled old new : ℕ → ℕ) → before.plane ≡ 0 → ((b : ℕ) → settled b ≡ before.entry b) → ((b : ℕ) → old b ≡ settled b) → ((b : ℕ) → bit_at (new b) 0 ≡ bit_at (old b) 0)
    → HasActive before new
active_kept before settled old new plane same clean keeps = λ b. keeps b ∙ ap (λ x. bit_at x 0) (clean b ∙ same b) ∙ ap (bit_at (before.entry b)) (sym plane)

pub has_active : (change : SnapshotChange) (before : Before) (settled old new : ℕ → ℕ) → before.plane ≡ starting_plane change → ((b : ℕ) → settled b ≡ before.entry b) → ((b : ℕ) → old b ≡ settled b)
    → StartsActive change settled old new → HasActive before new
has_active Unchanged before settled old new plane same clean starts = active_kept before settled old new plane same clean starts
has_active (Take k order name) before settled old new plane same clean starts = active_kept before settled old new plane same clean starts
has_active (Delete k) before settled old new plane same clean starts = active_kept before settled old new plane same clean starts
has_active (Restore k f) before settled old new plane same clean starts = λ b. starts b ∙ ap (λ x. bit_at x k) (same b) ∙ ap (bit_at (before.entry b)) (sym plane)

pub restored_touched : (change : SnapshotChange) (d : Draft) → starting_plane change ≢ 0 → TouchesRestored change d → AreTouched d.map.parts.items
restored_touched Unchanged d frozen touched = absurd (frozen refl)
restored_touched (Take k order name) d frozen touched = absurd (frozen refl)
restored_touched (Delete k) d frozen touched = absurd (frozen refl)
restored_touched (Restore k f) d frozen touched = touched
