-- Images that hold a volume are readable.
use Rattle.std.proofs.Common.{◌≡◌, ℕ, ap, sym, subst, ◌∙◌}
use Rattle.std.specs.Prelude.{List}
use Rattle.layout.specs.StateLimits.{limits_of}
use Rattle.layout.specs.Places.{Blocks, pointed}
use Rattle.layout.specs.SnapRoot.{Snapshot, snapshot_in}
use Rattle.layout.specs.declared.kind.Kind.TheVariants as kinds
use Rattle.layout.specs.declared.root.Root.{Root}
use Rattle.model.specs.Paths.{Name}
use Rattle.model.specs.Trees.{Tree}
use Rattle.model.specs.Volumes.{Volume}
use Rattle.images.specs.Contents.{content_of}
use Rattle.images.specs.Roots.{HeldTree, frozen_at, frozen_inode_file, inode_file_or_free, tree, whole}
use Rattle.images.specs.Snapshots.{HasSnapshot, IsFrozenTree}
use Rattle.images.specs.Soundness.{IsSoundTree, IsWithin}
use Rattle.images.specs.States.{Holds}
use Rattle.images.proofs.KindLaws.{directory_kind}
use Rattle.loading.specs.Images.{IsReadable}

pub readable : (disk : Blocks) (r : Root) (first : Volume) (snapshots : List (Name × Tree)) → Holds r (whole disk r) first snapshots → IsReadable disk r
readable disk r first snapshots holds = record {
  sound = holds.sound.active;
  within = holds.sound.within;
  root = directory_kind ((whole disk r).active 3).inode.kind r.geometry.inodes (content_of ((whole disk r).active 3)) (first 3) (holds.holds 3) holds.volume.graph.naming.root;
}

-- ---- the trees of snapshots

pub frozen_is : (disk : Blocks) (r : Root) (k : ℕ) (s : Snapshot) → HasSnapshot r (whole disk r) k s → (whole disk (record r { inode_file = s.inode_file })).active ≡ (whole disk r).frozen k
unfolding whole frozen_inode_file
frozen_is disk r k s has =
    sym (ap (frozen_at disk r.geometry) has.there
    ∙ ap (tree disk r.geometry.inodes) (ap (inode_file_or_free r.geometry.layout) (ap (λ p. snapshot_in r.geometry.layout (pointed disk p)) (sym has.there) ∙ has.read)))

pub frozen_readable : (disk : Blocks) (r : Root) (first : Volume) (snapshots : List (Name × Tree)) (k : ℕ) (s : Snapshot) (kept : Tree) → Holds r (whole disk r) first snapshots
    → HasSnapshot r (whole disk r) k s → IsFrozenTree (limits_of r.geometry) ((whole disk r).frozen k) kept → IsReadable disk (record r { inode_file = s.inode_file })
frozen_readable disk r first snapshots k s kept holds has frozen =
    let same = frozen_is disk r k s has in
    let t = (whole disk r).frozen k in
    record {
      sound = subst (IsSoundTree r.geometry) (sym same) (holds.sound.frozen k has.block has.there);
      within = subst (IsWithin r.version) (sym same) (holds.sound.frozen_within k has.block has.there);
      root = subst (λ (x : HeldTree). (x 3).inode.kind ≡ kinds.Directory) (sym same)
          (directory_kind (t 3).inode.kind r.geometry.inodes (content_of (t 3)) (frozen.0 3) (frozen.1 3) frozen.2.graph.naming.root);
    }
