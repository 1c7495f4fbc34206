-- The files of a new image, planned.
use Rattle.std.specs.Prelude.{ℕ, ◌≡◌, ◌≢◌, ◌⊎◌, ◌↔◌, ◌*◌, ◌/◌, ◌%◌, ◌<◌, ◌≤◌, All, [], length, Bool, true, ◌==◌, if◌then◌else◌}
use Rattle.std.specs.Int.{bit_at, div_ceil}
use Rattle.layout.specs.Bytes.{zeros}
use Rattle.layout.specs.Limits.{Sizes}
use Rattle.layout.specs.Maps.{IsTaken, map_entry}
use Rattle.layout.specs.Places.{Blocks}
use Rattle.layout.specs.Root.{IsRoot, root_bytes}
use Rattle.layout.specs.declared.TheConstants.{BLOCK_POINTERS, SLOT_A}
use Rattle.layout.specs.declared.inode.Inode.{Inode}
use Rattle.layout.specs.declared.kind.Kind.TheVariants as kinds
use Rattle.layout.specs.declared.numbers.TheConstants.{FIRST_GENERATION}
use Rattle.layout.specs.declared.root.Root.{Root}
use Rattle.layout.specs.declared.version.TheConstants.{VERSION}
use Rattle.model.specs.declared.limits.TheConstants.{FIRST_NUMBER}
use Rattle.blockmap.specs.Maps.{IsTouched, entry_at, settled_at}
use Rattle.conspoint.specs.Drafts.{HasAll, OnEach, WasTaken}
use Rattle.conspoint.specs.Plans.{FitsDisk, Planned}
use Rattle.conspoint.specs.declared.draft.Draft.{Draft}
use Rattle.images.specs.BlockMap.{HasBit, entry}
use Rattle.images.specs.Contents.{content_bytes, content_of}
use Rattle.images.specs.FirstRoots.{IsFirstTree, first_tree, root_alone_volume}
use Rattle.images.specs.Nodes.{held, Names, IsOnce, file_block}
use Rattle.images.specs.Roots.{whole}
use Rattle.images.specs.Soundness.{HasNoHole, IsSoundFile}
use Rattle.images.specs.States.{HasReserve, Holds}
use Rattle.making.specs.Starts.{system_entry}

-- on a disk e the file of this inode is in its grammar and stands in just these blocks, each for
-- one node
pub record StandsInJust (s : Sizes) (e : Blocks) (f : Inode) (taken : ℕ → Bool) : Type 0 where
  pub named : (b : ℕ) → Names (held e f) b ↔ (taken b ≡ true)
  pub once : IsOnce (held e f)
  pub sound : IsSoundFile s (held e f)

-- A file is planned: the blocks that were given out for it are in the active tree's set of the map,
-- which else is as before, and each disk that has the planned blocks, and is one of these, has the
-- file in them.
pub record HasFileOn (IsOne : Blocks → Type 0) (s : Sizes) (old new : Draft) (f : Inode) : Type 0 where
  pub taken : ℕ → Bool
  pub given : (b : ℕ) → taken b ≡ true → WasTaken old new b
  pub active : (b : ℕ) → HasBit 0 (entry_at new.map.parts.items b)
      ↔ (HasBit 0 (entry_at old.map.parts.items b) ⊎ (taken b ≡ true))
  pub others : (b i : ℕ) → i ≢ 0
      → bit_at (entry_at new.map.parts.items b) i ≡ bit_at (entry_at old.map.parts.items b) i
  pub stands : OnEach new (λ e. IsOne e → StandsInJust s e f taken)

-- and so each disk that has the planned blocks
abbrev pub HasFile : Sizes → Draft → Draft → Inode → Type 0
HasFile = HasFileOn (λ e. Unit {0})

-- on a disk e this is the inode of an inode map of which the numbers 0 to 3 are taken
pub record IsNumbersOn (e : Blocks) (f : Inode) : Type 0 where
  pub kind : f.kind ≡ kinds.InodeMap
  pub whole : HasNoHole (held e f)
  pub taken : (n : ℕ) → IsTaken (content_bytes (content_of (held e f))) n ↔ (n < FIRST_NUMBER)

-- on a disk e this is the inode of an inode file that has its first block at this place, and no
-- other
pub record IsTopOn (e : Blocks) (first : ℕ) (f : Inode) : Type 0 where
  pub kind : f.kind ≡ kinds.InodeFile
  pub blocks : (i : ℕ) → file_block (held e f) i ≡ (if i == 0 then e first else zeros 4096)

-- on a disk e this is the inode of a block map with the entries of a draft
pub record IsDraftMapOn (e : Blocks) (d : Draft) (f : Inode) : Type 0 where
  pub kind : f.kind ≡ kinds.BlockMap
  pub whole : HasNoHole (held e f)
  pub entries : (b : ℕ) → map_entry (file_block (held e f) (b / 1024)) (b % 1024)
      ≡ entry_at d.map.parts.items b

-- the map of a draft is that of a disk of so many blocks of which none is in use, with changes, and
-- is all to be stored
pub record IsPlacedOver (blocks : ℕ) (d : Draft) : Type 0 where
  pub count : d.map.count ≡ blocks
  pub parts : length d.map.parts.items ≡ div_ceil blocks BLOCK_POINTERS
  pub settled : (b : ℕ) → settled_at d.map.parts.items b ≡ system_entry b
  pub touched : (j : ℕ) → j < length d.map.parts.items → IsTouched d.map.parts.items j

-- all files are planned, and the map has no bit of a block that wasn't given out
pub record HasTree (s : Sizes) (d : Draft) (top : Inode) : Type 0 where
  pub numbers : Inode
  pub map : Inode
  pub tree : OnEach d (λ e. IsFirstTree s e top numbers map)
  pub free : OnEach d (λ e. (b : ℕ) → d.map.next ≤ b → entry (first_tree e top numbers map) b ≡ 0)
  pub kind : top.kind ≡ kinds.InodeFile

-- The first consistency point of an image of these sizes, of which nothing is written: its root, of
-- the first generation and for slot A, leads to the root directory alone on each disk that has the
-- planned blocks.
pub record IsFirstPoint (s : Sizes) (p : Planned) (r : Root) : Type 0 where
  pub none : p.written ≡ 0
  pub slot : p.slot ≡ SLOT_A
  pub bytes : p.root ≡ root_bytes r
  pub fits : (sectors : ℕ) → 16 ≤ sectors → 8 * s.blocks ≤ sectors → FitsDisk sectors p
  pub behind : All (λ b. 2 ≤ b.place) p.blocks
  pub root : IsRoot r
  pub generation : r.generation ≡ FIRST_GENERATION
  pub geometry : r.geometry ≡ s
  pub version : r.version ≡ VERSION
  pub holds : (e : Blocks) → HasAll e p.blocks → Holds r (whole e r) root_alone_volume []
  pub room : (e : Blocks) → HasAll e p.blocks → HasReserve r (whole e r) root_alone_volume []
