-- The root block of a snapshot: 4,096 bytes.
use Rattle.std.specs.Prelude.{ℕ, ◌≡◌, ◌-◌, ◌<◌, ◌≤◌, ◌^◌, List, length, Option, Some}
use Rattle.model.specs.declared.limits.TheConstants.{SNAPSHOT_NAME_BYTES}
use Rattle.layout.specs.Format.{Format, ranged, part, blank, padded, ◌▸◌}
use Rattle.layout.specs.Reading.{◌>>=◌, all_of}
use Rattle.layout.specs.Inode.{IsSomeInode, inode_bytes}
use Rattle.layout.specs.InodeReading.{inode_in}
use Rattle.layout.specs.declared.TheConstants.{BLOCK_BYTES, INODE_BYTES}
use Rattle.layout.specs.declared.numbers.TheConstants.{FIRST_GENERATION, LAST_GENERATION}
use Rattle.layout.specs.declared.snap_root.TheConstants.{BEHIND_AT}
use Rattle.layout.specs.declared.inode.Inode.{Inode}
use Rattle.layout.specs.declared.kind.Kind.TheVariants.{InodeFile}
use Rattle.layout.specs.declared.snap_root.SnapRoot.{SnapRoot}
use Rattle.layout.specs.declared.trees.Layout.{Layout}

-- a snapshot's root without where its name lies in memory
pub record Snapshot : Type 0 where
  pub order : ℕ
  pub name : List ℕ
  pub inode_file : Inode

abbrev pub snapshot_of : SnapRoot → Snapshot
snapshot_of r = record { order = r.order; name = r.name.now; inode_file = r.inode_file }

-- order, name, the inode of the inode file, and zeros
abbrev pub snapshot_fields : Format (ℕ × (List ℕ × (List ℕ × Unit {0})))
snapshot_fields =
    ranged 8 FIRST_GENERATION LAST_GENERATION ▸ padded SNAPSHOT_NAME_BYTES ▸ part INODE_BYTES ▸ blank (BLOCK_BYTES - BEHIND_AT)

-- the one spelling of each
abbrev pub snapshot_bytes : Snapshot → List ℕ
snapshot_bytes v = snapshot_fields.text (v.order, (v.name, (inode_bytes v.inode_file, tt)))

pub record IsSnapshot (v : Snapshot) : Type 0 where
  pub first : 1 ≤ v.order
  pub last : v.order < 2 ^ 62
  pub some : 1 ≤ length v.name
  pub short : length v.name ≤ SNAPSHOT_NAME_BYTES
  pub kind : v.inode_file.kind ≡ InodeFile
  pub inode_file : IsSomeInode v.inode_file

-- what the bytes spell in an image of this layout, before the limits of its name and its inode are
-- looked at
unfoldable pub snapshot_in : Layout → List ℕ → Option Snapshot
snapshot_in layout bytes =
    all_of snapshot_fields.at bytes >>= λ v.
    inode_in layout v.1.1.0 >>= λ inode. Some (record { order = v.0; name = v.1.0; inode_file = inode })
