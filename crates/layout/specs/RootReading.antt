-- Reading a root, before its limits are looked at.
use Rattle.std.specs.Prelude.{ℕ, List, Option, Some}
use Rattle.layout.specs.Reading.{◌>>=◌, all_of}
use Rattle.layout.specs.Pointer.{pointers_in}
use Rattle.layout.specs.InodeReading.{inode_in}
use Rattle.layout.specs.Root.{root_fields}
use Rattle.layout.specs.Limits.{Sizes, sizes}
use Rattle.layout.specs.Version.{layout_of}
use Rattle.layout.specs.declared.version.TheConstants.{SNAPSHOT_SLOTS}
use Rattle.layout.specs.declared.root.Head.{Head}
use Rattle.layout.specs.declared.root.Root.{Root}

-- the values of a head's fields, and its sizes
abbrev pub head_of : Head → Unit {0} × (ℕ × (ℕ × (ℕ × (ℕ × ℕ))))
head_of h = (tt, (h.version, (h.generation, (h.blocks, (h.inodes, h.half)))))

abbrev pub sizes_of : Head → Sizes
sizes_of h = sizes (layout_of h.version) h.blocks h.inodes h.half

unfoldable pub root_in : List ℕ → Option Root
root_in bytes =
    all_of root_fields.at bytes >>= λ v. inode_in (layout_of v.0.1.0) v.1.0 >>= λ inode. Some (record {
      version = v.0.1.0;
      generation = v.0.1.1.0;
      geometry = sizes (layout_of v.0.1.0) v.0.1.1.1.0 v.0.1.1.1.1.0 v.0.1.1.1.1.1;
      inode_file = inode;
      snapshots = pointers_in SNAPSHOT_SLOTS v.1.1.0;
    })
