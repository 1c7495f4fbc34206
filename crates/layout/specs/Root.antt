-- The root: 512 bytes.
use Rattle.std.specs.Prelude.{ℕ, ◌≡◌, ◌<◌, ◌≤◌, ◌^◌, ◌-◌, List, ◌++◌, length, All, codes, drop, Some, None, ◌==◌, if◌then◌else◌}
use Rattle.layout.specs.Bytes.{zeros}
use Rattle.layout.specs.Format.{Format, ranged, part, blank, ◌▸◌}
use Rattle.layout.specs.Reading.{◌>>=◌, number_read}
use Rattle.layout.specs.Limits.{Sizes, AreSizes}
use Rattle.layout.specs.Pointer.{PointsBelow, pointers_bytes}
use Rattle.layout.specs.Inode.{IsInode, inode_bytes}
use Rattle.layout.specs.declared.kind.Kind.TheVariants.{InodeFile}
use Rattle.layout.specs.Version.{IsVersion, layout_of, snapshot_slots}
use Rattle.layout.specs.declared.TheConstants.{INODE_BYTES, ROOT_BYTES}
use Rattle.layout.specs.declared.geometry.TheConstants.{LEAST_BLOCKS, MOST_BLOCKS, LEAST_INODES, MOST_INODES, LEAST_HALF, MOST_HALF}
use Rattle.layout.specs.declared.numbers.TheConstants.{FIRST_GENERATION, LAST_GENERATION}
use Rattle.layout.specs.declared.root.TheConstants.{MAGIC, SNAPSHOTS_BYTES, BEHIND_AT}
use Rattle.layout.specs.declared.pointer.Pointer.TheVariants.{Hole}
use Rattle.layout.specs.declared.version.TheConstants.{FIRST_VERSION, VERSION, SNAPSHOT_SLOTS}
use Rattle.layout.specs.declared.root.Root.{Root}

-- the first eight bytes of a root
abbrev pub magic : Format (Unit {0})
magic = record {
  at = λ bytes. number_read 8 bytes >>= λ x. if x.0 == MAGIC then Some (tt, x.1) else None;
  text = λ v. codes "WAFLROOT";
  Fits = λ v. Unit {0};
}

abbrev pub generation_field : Format ℕ
generation_field = ranged 8 FIRST_GENERATION LAST_GENERATION

abbrev pub blocks_field : Format ℕ
blocks_field = ranged 4 LEAST_BLOCKS MOST_BLOCKS

abbrev pub inodes_field : Format ℕ
inodes_field = ranged 4 LEAST_INODES MOST_INODES

abbrev pub half_field : Format ℕ
half_field = ranged 4 LEAST_HALF MOST_HALF

abbrev pub root_head : Format (Unit {0} × (ℕ × (ℕ × (ℕ × (ℕ × ℕ)))))
root_head =
    magic ▸ ranged 4 FIRST_VERSION VERSION ▸ generation_field ▸ blocks_field ▸ inodes_field ▸ half_field

-- the head, the inode of the inode file, the pointers to snapshots, and zeros
abbrev pub root_fields : Format ((Unit {0} × (ℕ × (ℕ × (ℕ × (ℕ × ℕ))))) × (List ℕ × (List ℕ × Unit {0})))
root_fields = root_head ▸ part INODE_BYTES ▸ part SNAPSHOTS_BYTES ▸ blank (ROOT_BYTES - BEHIND_AT)

unfoldable pub head_bytes : ℕ → ℕ → Sizes → List ℕ
head_bytes version generation s = root_head.text (tt, (version, (generation, (s.blocks, (s.inodes, s.half)))))

-- the one spelling of each root
abbrev pub root_bytes : Root → List ℕ
root_bytes r =
    head_bytes r.version r.generation r.geometry
    ++ (inode_bytes r.inode_file ++ (pointers_bytes r.snapshots ++ zeros (ROOT_BYTES - BEHIND_AT)))

pub record IsHead (version generation : ℕ) (s : Sizes) : Type 0 where
  pub known : IsVersion version
  pub first : 1 ≤ generation
  pub last : generation < 2 ^ 62
  pub sizes : AreSizes s
  pub layout : s.layout ≡ layout_of version

-- a root: its inode is that of the inode file of its sizes, its pointers stay on the disk, and the
-- slots that its version doesn't have are free
pub record IsRoot (r : Root) : Type 0 where
  pub head : IsHead r.version r.generation r.geometry
  pub kind : r.inode_file.kind ≡ InodeFile
  pub inode_file : IsInode r.geometry r.inode_file
  pub slots : length r.snapshots ≡ SNAPSHOT_SLOTS
  pub snapshots : All (PointsBelow r.geometry.blocks) r.snapshots
  pub few : All (λ p. p ≡ Hole) (drop (snapshot_slots r.version) r.snapshots)
