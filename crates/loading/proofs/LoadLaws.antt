-- What is loaded under a root whose tree is readable.
use Rattle.std.proofs.Common.{◌≡◌, ℕ, ◌*◌, ◌/◌, ◌%◌, ◌<◌, ◌≤◌, List, refl, ap, sym, subst, ◌∙◌, arith, inl, inr}
use Rattle.std.specs.Prelude.{◌⊎◌, Result, Ok, Err, IsErr, IsErrOf, MatchResult}
use Rattle.std.specs.Int.{div_ceil}
use Rattle.std.proofs.lemmas.Bool.{false≢true}
use Rattle.std.proofs.Math.Path.{fun_ext}
use Rattle.layout.specs.Inode.{IsInode, inode_bytes}
use Rattle.layout.specs.Limits.{AreSizes}
use Rattle.layout.specs.Maps.{IsInodeMap}
use Rattle.layout.specs.Places.{Blocks}
use Rattle.layout.specs.Trees.{greatest_size}
use Rattle.layout.specs.declared.inode.Inode.{Inode}
use Rattle.layout.specs.declared.kind.Kind.TheVariants as kinds
use Rattle.layout.specs.declared.root.Root.{Root}
use Rattle.layout.specs.declared.trees.Layout.{Layout}
use Rattle.layout.specs.declared.trees.Layout.TheVariants.{Plain}
use Rattle.layout.specs.declared.version.TheConstants.{VERSION}
use Rattle.model.specs.Volumes.{Volume}
use Rattle.blocktree.specs.Trees.{IsSoundAt}
use Rattle.buffers.specs.declared.error.BlockError.{BlockError}
use Rattle.buffers.specs.declared.error.BlockError.TheVariants as errors
use Rattle.blockmap.specs.Parts.{Part}
use Rattle.blockmap.specs.declared.map.BlockMap.{BlockMap}
use Rattle.inode.specs.Bases.{StartsFrom}
use Rattle.inode.specs.Bodies.{inode_block}
use Rattle.inode.specs.Files as memory
use Rattle.inode.specs.declared.file.File.{File}
use Rattle.inofile.specs.Inodes.{IsChanged}
use Rattle.inofile.specs.Settled.{AreSettledIn, held_content}
use Rattle.inofile.specs.Volumes.{IsVolumeIn, MapsVolume}
use Rattle.inofile.specs.declared.inode_file.InodeFile.{InodeFile}
use Rattle.images.specs.Contents.{content_bytes, content_of, tree_contents}
use Rattle.images.specs.Sizes.{HoldsVolumeIn}
use Rattle.images.specs.Nodes.{held}
use Rattle.images.specs.Roots.{inode_part, tree, whole}
use Rattle.images.specs.Soundness.{Detail, IsReadable, IsWithin}
use Rattle.loading.specs.Images.{AreInodesIn, IsLoadedIn, IsReadableIn, inodes_of}
use Rattle.loading.specs.InodeBlocks.{AreInodeBlocks}
use Rattle.loading.specs.Laws.{TreesReadAsHeld}
use Rattle.loading.specs.Readings.{AreParts, AreUnchanged, IsBodyPath, IsMapFile, IsWholeBody, inode_bytes_of}
use Rattle.inode.proofs.HeldLaws.{starts_based}
use Rattle.loading.proofs.TreeLaws as trees

-- an error that isn't `Damaged`
pub refused : {T : Type 0} (P : T → Type 0) (r : Result T BlockError) → IsErr r → (IsErrOf r errors.Damaged → ⊥)
    → MatchResult r P (λ e. (e ≡ errors.NoMemory) ⊎ (e ≡ errors.Device))
refused P (Ok x) is undamaged = absurd (false≢true is)
refused P (Err errors.NoMemory) is undamaged = inl refl
refused P (Err errors.Device) is undamaged = inr refl
refused P (Err errors.Damaged) is undamaged = absurd (undamaged refl)

module _ {detail : Detail} (l : TreesReadAsHeld) (disk : Blocks) (r : Root) (are : AreSizes r.geometry) (ready : IsReadableIn detail disk r) where
  pub sound : trees.IsTree detail r.geometry (tree disk r.geometry.inodes r.inode_file)
  unfolding whole
  sound = trees.tree_in detail r.geometry (tree disk r.geometry.inodes r.inode_file) ready.sound

  root : (tree disk r.geometry.inodes r.inode_file 3).inode.kind ≡ kinds.Directory
  unfolding whole
  root = ready.root

  -- the newest version allows files as large as these
  pub newest_within : r.geometry.layout ≡ Plain → IsWithin VERSION (whole disk r).active
  unfolding whole
  newest_within plain n = let fits = (sound.files n).inode in subst (λ (l : Layout). (tree disk r.geometry.inodes r.inode_file n).inode.size ≤ greatest_size l) (fits.layout ∙ plain) fits.size

  -- the inode at a number, where it has been read
  pub is_own : (n : ℕ) (i : Inode) → IsInode r.geometry i → 1 ≤ n → n < 21 → inode_part (inode_block disk r.inode_file 0) n ≡ inode_bytes i
      → tree disk r.geometry.inodes r.inode_file n ≡ held disk i
  is_own n i fits some few is =
      let block : n / 21 ≡ 0 = omega arith in
      let place : n % 21 ≡ n = omega arith in
      trees.own_is r.geometry are disk r.inode_file sound root l n i some (omega (arith, few, are.least_inodes)) fits
      (ap (λ j. inode_part (inode_block disk r.inode_file j) (n % 21)) block ∙ ap (λ k. inode_part (inode_block disk r.inode_file 0) k) place ∙ is)

  -- the inode that is to be there
  pub own_there : (n : ℕ) → 1 ≤ n → n < 21 → inode_part (inode_block disk r.inode_file 0) n ≡ inode_bytes (tree disk r.geometry.inodes r.inode_file n).inode
  own_there n some few =
      let block : 0 ≡ n / 21 = omega arith in
      let place : n ≡ n % 21 = omega arith in
      ap (λ j. inode_part (inode_block disk r.inode_file j) n) block ∙ ap (λ k. inode_part (inode_block disk r.inode_file (n / 21)) k) place
      ∙ trees.own_spelled r.geometry are disk r.inode_file sound root l n some (omega (arith, few, are.least_inodes))

  -- what the file of a map is to be
  pub map_paths : (n count k : ℕ) (i : Inode) → count ≡ r.geometry.blocks → tree disk r.geometry.inodes r.inode_file n ≡ held disk i → IsBodyPath i.layout count disk i.body i.size k
  map_paths n count k i same is = subst (λ c. IsBodyPath i.layout c disk i.body i.size k) (sym same)
      (trees.paths_of r.geometry are disk r.inode_file sound root l n i k is)

  pub numbers_file : (i : Inode) → tree disk r.geometry.inodes r.inode_file 1 ≡ held disk i → IsMapFile disk i
  numbers_file i is = trees.map_file r.geometry are disk r.inode_file sound root l 1 i is sound.inode_map

  pub numbers_whole : (i : Inode) → tree disk r.geometry.inodes r.inode_file 1 ≡ held disk i → IsWholeBody i.layout disk i.body i.size
  numbers_whole i is = trees.map_whole r.geometry are disk r.inode_file sound root l 1 i is sound.readable

  pub parts_file : (i : Inode) → tree disk r.geometry.inodes r.inode_file 2 ≡ held disk i → IsMapFile disk i
  parts_file i is = trees.map_file r.geometry are disk r.inode_file sound root l 2 i is sound.block_map

  pub parts_whole : (i : Inode) → tree disk r.geometry.inodes r.inode_file 2 ≡ held disk i → IsReadable ((whole disk r).active 2) → IsWholeBody i.layout disk i.body i.size
  unfolding whole
  parts_whole i is map = trees.map_whole r.geometry are disk r.inode_file sound root l 2 i is map

  pub numbers_are : (i : Inode) → tree disk r.geometry.inodes r.inode_file 1 ≡ held disk i → IsInodeMap 0 r.geometry.inodes (inode_bytes_of disk i)
  numbers_are i is = trees.is_map r.geometry are disk r.inode_file sound root l i is

  pub hold_volume : (v : Volume) → HoldsVolumeIn detail r.geometry.inodes (tree_contents (whole disk r).active) v
      → HoldsVolumeIn detail r.geometry.inodes (λ n. held_content disk (inodes_of (whole disk r).active n)) v
  unfolding whole
  hold_volume v = trees.holds_volume r.geometry are disk r.inode_file sound root l v

  -- with the inode file in memory
  module _ (file : File) (blocks : (d : Blocks) (i : ℕ) → memory.file_block d file i ≡ inode_block d r.inode_file i)
      (starts : StartsFrom r.inode_file.layout r.inode_file.body r.inode_file.size file.tree) where
    same : memory.file_block disk file ≡ inode_block disk r.inode_file
    same = fun_ext {f = memory.file_block disk file} {g = inode_block disk r.inode_file} (blocks disk)

    pub reached : (count i : ℕ) → count ≡ r.geometry.blocks → IsSoundAt count disk file.tree i
    reached count i is = subst (λ c. IsSoundAt c disk file.tree i) (sym is)
        (l.based detail r.geometry disk r.inode_file file.tree i (trees.top_sound r.geometry are disk r.inode_file sound root l)
        (trees.top_readable r.geometry are disk r.inode_file sound root l) (starts_based r.inode_file file.tree starts))

    pub are_settled : (version : ℕ) → IsWithin version (whole disk r).active → AreSettledIn detail r.geometry.blocks disk version r.geometry file (inodes_of (whole disk r).active)
    unfolding whole
    are_settled version within = trees.settled r.geometry are disk r.inode_file sound root l file same (λ k. reached r.geometry.blocks k refl) version within

    pub inode_blocks : AreInodeBlocks r.version r.geometry (memory.file_block disk file)
    unfolding whole
    inode_blocks = subst (AreInodeBlocks r.version r.geometry) (sym same)
        (trees.inode_blocks r.geometry are disk r.inode_file sound root l r.version ready.within)

    pub memory_own : (n : ℕ) → 1 ≤ n → n < 21 → inode_part (memory.file_block disk file 0) n ≡ inode_bytes (tree disk r.geometry.inodes r.inode_file n).inode
    memory_own n some few = ap (λ b. inode_part b n) (blocks disk 0) ∙ own_there n some few

    pub memory_is : (n : ℕ) (i : Inode) → IsInode r.geometry i → 1 ≤ n → n < 21 → inode_part (memory.file_block disk file 0) n ≡ inode_bytes i
        → tree disk r.geometry.inodes r.inode_file n ≡ held disk i
    memory_is n i fits some few is = is_own n i fits some few (ap (λ b. inode_part b n) (sym (blocks disk 0)) ∙ is)

    -- they are there to be read
    pub no_inode_map : (count : ℕ) → count ≡ r.geometry.blocks
        → (IsSoundAt count disk file.tree 0 → (i : Inode) → IsInode r.geometry i → i.kind ≡ kinds.InodeMap
        → inode_part (memory.file_block disk file 0) 1 ≡ inode_bytes i → ⊥) → ⊥
    no_inode_map count is damaged =
        damaged (reached count 0 is) (tree disk r.geometry.inodes r.inode_file 1).inode (sound.files 1).inode (sound.kinds 1) (memory_own 1 (omega arith) (omega arith))

    pub no_block_map : (count : ℕ) → count ≡ r.geometry.blocks
        → (IsSoundAt count disk file.tree 0 → (i : Inode) → IsInode r.geometry i → i.kind ≡ kinds.BlockMap
        → inode_part (memory.file_block disk file 0) 2 ≡ inode_bytes i → ⊥) → ⊥
    no_block_map count is damaged =
        damaged (reached count 0 is) (tree disk r.geometry.inodes r.inode_file 2).inode (sound.files 2).inode (sound.kinds 2) (memory_own 2 (omega arith) (omega arith))

    -- the inodes
    pub inodes_loaded : (i : Inode) (bytes : List ℕ) (inodes : InodeFile) → tree disk r.geometry.inodes r.inode_file 1 ≡ held disk i → bytes ≡ inode_bytes_of disk i
        → inodes.version ≡ r.version → inodes.geometry ≡ r.geometry → inodes.file ≡ file → inodes.numbers.bytes.items ≡ bytes → ((n : ℕ) → IsChanged inodes n → ⊥)
        → ((v : Volume) → AreSettledIn detail r.geometry.blocks disk r.version r.geometry file (inodes_of (tree disk r.geometry.inodes r.inode_file)) → MapsVolume bytes v
        → HoldsVolumeIn detail r.geometry.inodes (λ n. held_content disk (inodes_of (tree disk r.geometry.inodes r.inode_file) n)) v
        → IsVolumeIn detail r.geometry.blocks disk (inodes_of (tree disk r.geometry.inodes r.inode_file)) inodes v)
        → AreInodesIn detail disk r.version r.geometry (whole disk r).active inodes
    unfolding whole
    inodes_loaded i bytes inodes is_i read version geometry file_is numbers unchanged stands =
        let settled : AreSettledIn detail r.geometry.blocks disk r.version r.geometry file (inodes_of (tree disk r.geometry.inodes r.inode_file)) =
        trees.settled r.geometry are disk r.inode_file sound root l file same (λ k. reached r.geometry.blocks k refl) r.version ready.within in
        let whole_bytes : bytes ≡ content_bytes (content_of (tree disk r.geometry.inodes r.inode_file 1)) =
        read ∙ trees.map_bytes r.geometry are disk r.inode_file sound root l i is_i in
        record {
          is_version = version;
          geometry = geometry;
          settled = subst (λ f. AreSettledIn detail r.geometry.blocks disk r.version r.geometry f (inodes_of (tree disk r.geometry.inodes r.inode_file))) (sym file_is) settled;
          numbers = numbers ∙ whole_bytes;
          unchanged = unchanged;
          volume = λ v holds. stands v settled
              (subst (λ bs. MapsVolume bs v) (sym whole_bytes) (trees.maps_volume r.geometry are disk r.inode_file sound root l v holds))
              (trees.holds_volume r.geometry are disk r.inode_file sound root l v holds);
        }

    -- all of it
    pub loaded : (i b : Inode) (bytes : List ℕ) (parts : List Part) (map : BlockMap) (inodes : InodeFile)
        → tree disk r.geometry.inodes r.inode_file 1 ≡ held disk i → tree disk r.geometry.inodes r.inode_file 2 ≡ held disk b
        → b.size ≡ 4 * r.geometry.blocks → bytes ≡ inode_bytes_of disk i → AreParts (inode_block disk b) (div_ceil r.geometry.blocks 1024) parts → AreUnchanged parts
        → map.parts.items ≡ parts → map.count ≡ r.geometry.blocks → map.next ≡ 2
        → inodes.version ≡ r.version → inodes.geometry ≡ r.geometry → inodes.file ≡ file → inodes.numbers.bytes.items ≡ bytes → ((n : ℕ) → IsChanged inodes n → ⊥)
        → ((v : Volume) → AreSettledIn detail r.geometry.blocks disk r.version r.geometry file (inodes_of (tree disk r.geometry.inodes r.inode_file)) → MapsVolume bytes v
        → HoldsVolumeIn detail r.geometry.inodes (λ n. held_content disk (inodes_of (tree disk r.geometry.inodes r.inode_file) n)) v
        → IsVolumeIn detail r.geometry.blocks disk (inodes_of (tree disk r.geometry.inodes r.inode_file)) inodes v)
        → IsLoadedIn detail disk r map inodes
    unfolding whole
    loaded i b bytes parts map inodes is_i is_b size read have clean items count next version geometry file_is numbers unchanged stands =
        record {
          map = trees.map_is r.geometry are disk r.inode_file sound root l b map parts is_b size have clean items count next;
          inodes = inodes_loaded i bytes inodes is_i read version geometry file_is numbers unchanged stands;
        }
