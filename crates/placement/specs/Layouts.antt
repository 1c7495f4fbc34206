-- A changed file's inode and nodes, at each level.
use Rattle.std.specs.Prelude.{ℕ, suc, ◌≡◌, ◌-◌, ◌*◌, ◌<◌, ◌≤◌, List, ◌⊎◌}
use Rattle.layout.specs.Inode.{FitsBody}
use Rattle.layout.specs.Limits.{Sizes}
use Rattle.layout.specs.Maps.{IsIndirectBlock}
use Rattle.layout.specs.Places.{Blocks, place, pointed}
use Rattle.layout.specs.Trees.{fan_out, level_of}
use Rattle.layout.specs.declared.inode.Body.{Body}
use Rattle.layout.specs.declared.inode.Inode.{Inode}
use Rattle.layout.specs.declared.pointer.Pointer.{Pointer}
use Rattle.layout.specs.declared.pointer.Pointer.TheVariants.{Hole, Block}
use Rattle.images.specs.Nodes.{held, file_block}
use Rattle.images.specs.Soundness.{nodes_of_size}
use Rattle.blocktree.specs.Names.{nodes_at}
use Rattle.blocktree.specs.PlaceMaps.{EndBefore, place_at}
use Rattle.blocktree.specs.Places.{block_count}
use Rattle.blocktree.specs.Trees.{IsChanged}
use Rattle.blocktree.specs.declared.place_map.PlaceMap.{PlaceMap}
use Rattle.blocktree.specs.declared.tree.BlockTree.{BlockTree}
use Rattle.inode.specs.declared.object.Object.{Object}
use Rattle.conspoint.specs.Blocks.{AreWholeOver, changed_or}
use Rattle.conspoint.specs.declared.draft.Draft.{Draft}
use Rattle.conspoint.specs.Drafts.{OnEach}
use Rattle.conspoint.specs.Groups.{IsGroup}
use Rattle.placement.specs.declared.file.Laid.{Laid}
use Rattle.placement.specs.declared.nodes.Nodes.{Nodes}
use Rattle.placement.specs.Nodes.{AreKept, AreNodesOf, ArePlacedAt, ArePlacedIn, ArePlacedOver, AreShort, height_of, in_group, kept_place, node, under}
use Rattle.placement.specs.Files.{OnEachWith, object_block}

-- an object's inode with this body, of the layout of its file's tree
abbrev pub inode_with : Object → Body → Inode
inode_with o body = record {
  layout = o.file.tree.layout;
  kind = o.status.kind;
  attributes = o.status.attributes;
  links = o.status.links;
  size = o.file.size;
  body = body;
}

-- On a disk e indirect blocks stand over the nodes at each height of a file but the highest, which
-- were placed over settled ones.
abbrev pub StandOver : Blocks → Nodes → Nodes → Type 0
StandOver e settled n = (m j : ℕ) → suc m < height_of n
    → IsGroup e (node settled (suc m) j) (under settled m j) (in_group n m j) (node n (suc m) j)

-- these are the settled nodes under a file's blocks, and those that hang from its settled inode
pub record AreSettledNodes (disk : Blocks) (base : Inode) (t : BlockTree) (n : Nodes) : Type 0 where
  pub nodes : AreNodesOf n (held disk base)
  pub layout : n.layout ≡ base.layout
  pub tree : t.layout ≡ base.layout
  pub blocks : (i : ℕ) → i < t.count → node n 0 i ≡ place t.layout disk t.pointers t.depth i
  pub heights : (height_of n ≡ level_of base.layout base.size) ⊎ (level_of base.layout base.size ≡ 0)

-- on a disk e these nodes hang from an inode, whose file has these blocks, and all is in its
-- grammar but what the inode says of the file
pub record IsLaidOut (s : Sizes) (e : Blocks) (block : ℕ → List ℕ) (f : Inode) (n : Nodes) : Type 0 where
  pub nodes : AreNodesOf n (held e f)
  pub blocks : (i : ℕ) → file_block (held e f) i ≡ block i
  pub body : FitsBody f.layout f.body s.blocks f.size
  pub indirect : (m i b : ℕ) → (held e f).place (suc m) i ≡ Block b
      → IsIndirectBlock f.layout s.blocks (nodes_of_size f.layout f.size m - fan_out f.layout * i)
      ((held e f).bytes (suc m) i)

-- on a disk e these pointers lead to the blocks of a file
abbrev pub LeadToBlocks : Blocks → (ℕ → Pointer) → (ℕ → List ℕ) → Type 0
LeadToBlocks e places block = (i : ℕ) → pointed e (places i) ≡ block i

-- On each disk that has the planned blocks, and those that the settled inode names as this one has
-- them, this inode has a file whose blocks are those that these pointers lead to, with these nodes.
abbrev pub Carries : Sizes → Draft → Blocks → Inode → (ℕ → Pointer) → Inode → Nodes → Type 0
Carries s draft d base places f n =
    OnEachWith draft d base (λ e. (block : ℕ → List ℕ) → LeadToBlocks e places block → IsLaidOut s e block f n)

-- and this inode has the object, as memory has it
abbrev pub StandsIn : Sizes → Draft → Blocks → Inode → Object → Inode → Nodes → Type 0
StandsIn s draft d base o f n = OnEachWith draft d base (λ e. IsLaidOut s e (object_block d o) f n)

-- The first so many blocks of a file got these places between two drafts, over its settled nodes.
-- From one on they stand there on each disk that has the planned blocks, and those that aren't
-- changed lie where they are settled.
pub record AreLowest (first count : ℕ) (t : BlockTree) (settled : Nodes) (old new : Draft) (places : PlaceMap) : Type 0 where
  pub end : EndBefore count places
  pub placed : ArePlacedAt old new (node settled 0) places
  pub blocks : OnEach new (λ e. (i : ℕ) → i < count → first ≤ i
      → pointed e (place_at places i) ≡ changed_or t i (pointed e (kept_place t settled i)))
  pub unchanged : (i : ℕ) → i < count → first ≤ i → (IsChanged t i → ⊥) → place_at places i ≡ kept_place t settled i
  pub whole : AreWholeOver t first count

-- Nodes of a file of so many blocks, up to a level, over these places of its blocks: those over
-- them were placed between two drafts.
pub record AreRaised (count level : ℕ) (settled : Nodes) (lowest : PlaceMap) (old new : Draft) (n : Nodes) : Type 0 where
  pub layout : n.layout ≡ settled.layout
  pub heights : height_of n ≡ level
  pub lowest_are : (i : ℕ) → node n 0 i ≡ place_at lowest i
  pub end : (m i : ℕ) → nodes_at settled.layout count m ≤ i → node n m i ≡ Hole
  pub placed : ArePlacedIn 1 level old new settled n

-- what is laid out of an object got its places between two drafts, over settled nodes
pub record IsLaidOver (o : Object) (settled : Nodes) (old new : Draft) (l : Laid) : Type 0 where
  pub placed : ArePlacedOver old new settled l.nodes
  pub short : AreShort (block_count o.file.size) l.nodes
  pub kept : AreKept l.kept o.file.tree settled l.nodes
