-- A readable tree as it is read: its inode file, and the files of the maps.
use Rattle.std.proofs.Common.{◌≡◌, ℕ, ◌+◌, ◌*◌, ◌/◌, ◌%◌, ◌<◌, ◌≤◌, List, length, refl, ap, sym, subst, ◌∙◌, arith, inl, inr}
use Rattle.std.specs.Prelude.{◌≢◌, IsSome, Option, None, drop}
use Rattle.std.specs.Int.{div_ceil}
use Rattle.std.proofs.lemmas.Bool.{cases_lt}
use Rattle.layout.specs.Bytes.{zeros}
use Rattle.layout.specs.FileBytes.{byte_in, first_bytes}
use Rattle.layout.specs.Inode.{IsInode, inode_bytes}
use Rattle.layout.specs.Limits.{Sizes, AreSizes}
use Rattle.layout.specs.Maps.{IsInodeMap, map_entry}
use Rattle.layout.specs.Places.{Blocks}
use Rattle.layout.specs.declared.inode.Inode.{Inode}
use Rattle.layout.specs.declared.kind.Kind.{Kind}
use Rattle.layout.specs.declared.kind.Kind.TheVariants as kinds
use Rattle.inode.specs.Bodies.{inode_block}
use Rattle.model.specs.Volumes.{Node, Volume}
use Rattle.blocktree.specs.Trees.{IsSoundAt}
use Rattle.inode.specs.Files as memory
use Rattle.inode.specs.declared.file.File.{File}
use Rattle.inofile.specs.Settled.{AreSettledIn, held_content}
use Rattle.inofile.specs.Volumes.{MapsVolume}
use Rattle.images.specs.Contents.{Content, StandsAs, content_bytes, content_of, tree_contents}
use Rattle.images.specs.Nodes.{file_block, held}
use Rattle.images.specs.Roots.{HeldTree, free_inode, inode_bytes_at, inode_part, inode_under, tree}
use Rattle.images.specs.Sizes.{HoldsVolumeIn, StandsAsIn, StandsForIn}
use Rattle.images.specs.Soundness.{Detail, FitsNumber, IsHeldFile, IsOrdinary, IsReadable, IsWithin, MapsNumbers, SpellsInodes, by_bytes, by_sizes}
use Rattle.images.specs.Faults.{IsMapGrammar}
use Rattle.blockmap.specs.Maps.{settled_at, entry_at, IsTouched}
use Rattle.blockmap.specs.Parts.{Part}
use Rattle.blockmap.specs.declared.map.BlockMap.{BlockMap}
use Rattle.images.specs.BlockMap.{entry}
use Rattle.images.proofs.EmptyLaws.{free_bytes, free_fits}
use Rattle.images.proofs.KindLaws.{ordinary_kind}
use Rattle.images.proofs.ReadableLaws.{inodes_readable}
use Rattle.loading.specs.Images.{IsMapOf, inodes_of, IsTreeIn}
use Rattle.loading.specs.InodeBlocks.{AreInodeBlocks, HasKindOfPlace, IsInodeAt, IsInodeBlock}
use Rattle.loading.specs.Laws.{TreesReadAsHeld}
use Rattle.loading.proofs.MapLaws.{entries_are, past_end, same_entries}
use Rattle.loading.specs.Readings.{AreParts, AreUnchanged, IsBodyPath, IsMapFile, IsWholeBody, inode_bytes_of}

-- ---- free inodes

free_past : (inodes n : ℕ) → 3 < inodes → inodes ≤ n → HasKindOfPlace inodes n kinds.Free
free_past inodes n many past = record {
  number = λ some lt. absurd (omega arith);
  root = λ is. absurd (omega arith);
  none = λ is. refl;
  past = λ ge. refl;
}

free_first : (inodes : ℕ) → 3 < inodes → HasKindOfPlace inodes 0 kinds.Free
free_first inodes many = record {
  number = λ some lt. absurd (omega arith);
  root = λ is. absurd (omega arith);
  none = λ is. refl;
  past = λ ge. refl;
}

-- ---- objects

used_some : (kind : Kind) (inodes : ℕ) (c : Content) (o : Option Node) → IsOrdinary kind → StandsAs kind inodes c o → kind ≢ kinds.Free → IsSome o
used_some kinds.Free inodes c o usual stands used = absurd (used refl)
used_some kinds.File inodes c o usual stands used = subst IsSome (sym stands) refl
used_some kinds.Directory inodes c o usual stands used = subst IsSome (sym stands.2) refl
used_some kinds.Link inodes c o usual stands used = subst IsSome (sym stands) refl
used_some kinds.InodeFile inodes c o usual stands used = absurd usual
used_some kinds.InodeMap inodes c o usual stands used = absurd usual
used_some kinds.BlockMap inodes c o usual stands used = absurd usual

none_some : IsSome {T = Node} None → ⊥
none_some is = cc

some_used : (kind : Kind) (inodes : ℕ) (c : Content) (o : Option Node) → StandsAs kind inodes c o → IsSome o → kind ≢ kinds.Free
some_used kinds.Free inodes c o stands some = absurd (none_some (subst IsSome stands some))
some_used kind inodes c o stands some = λ is. cc

-- the same in so much detail
used_in : (detail : Detail) (kind : Kind) (inodes : ℕ) (c : Content) (o : Option Node) → IsOrdinary kind → StandsAsIn detail kind inodes c o → kind ≢ kinds.Free → IsSome o
used_in by_bytes kind inodes c o usual stands used = used_some kind inodes c o usual stands used
used_in by_sizes kinds.File inodes c o usual stands used = subst IsSome (sym stands.3) refl
used_in by_sizes kinds.Directory inodes c o usual stands used = subst IsSome (sym stands.1.2) refl
used_in by_sizes kinds.Link inodes c o usual stands used = subst IsSome (sym stands.2) refl
used_in by_sizes kind inodes c o usual stands used = used_some kind inodes c o usual stands used

some_in : (detail : Detail) (kind : Kind) (inodes : ℕ) (c : Content) (o : Option Node) → StandsAsIn detail kind inodes c o → IsSome o → kind ≢ kinds.Free
some_in by_bytes kind inodes c o stands some = some_used kind inodes c o stands some
some_in by_sizes kinds.Free inodes c o stands some = absurd (none_some (subst IsSome stands some))
some_in by_sizes kind inodes c o stands some = λ is. cc

-- what is asked of a tree
pub record IsTree (detail : Detail) (s : Sizes) (t : HeldTree) : Type 0 where
  pub files : (n : ℕ) → IsHeldFile detail s (t n)
  pub kinds : (n : ℕ) → FitsNumber n (t n).inode.kind
  pub inodes : SpellsInodes s.inodes (file_block (t 0)) t
  pub numbers : MapsNumbers t
  pub inode_map : IsMapGrammar (t 1)
  pub block_map : IsMapGrammar (t 2)
  pub readable : IsReadable (t 1)

pub tree_in : (detail : Detail) (s : Sizes) (t : HeldTree) → IsTreeIn detail s t → IsTree detail s t
tree_in by_bytes s t sound = record {
  files = sound.files;
  kinds = sound.kinds;
  inodes = sound.inodes;
  numbers = sound.numbers;
  inode_map = record { stored = sound.inode_map; last = (sound.files 1).bytes.readable ((t 1).inode.size / 4096); ends = (sound.files 1).bytes.ends };
  block_map = record { stored = sound.block_map; last = (sound.files 2).bytes.readable ((t 2).inode.size / 4096); ends = (sound.files 2).bytes.ends };
  readable = (sound.files 1).bytes.readable;
}
tree_in by_sizes s t (grammar, numbers) = record {
  files = grammar.files;
  kinds = grammar.kinds;
  inodes = grammar.inodes;
  numbers = numbers;
  inode_map = grammar.inode_map;
  block_map = grammar.block_map;
  readable = grammar.readable;
}

module _ {detail : Detail} (s : Sizes) (are : AreSizes s) (disk : Blocks) (top : Inode) (sound : IsTree detail s (tree disk s.inodes top))
    (root : (tree disk s.inodes top 3).inode.kind ≡ kinds.Directory) (l : TreesReadAsHeld) where
  first_is : tree disk s.inodes top 0 ≡ held disk top
  unfolding tree inode_under held
  first_is = refl

  pub top_sound : IsHeldFile detail s (held disk top)
  top_sound = subst (IsHeldFile detail s) first_is (sound.files 0)

  top_layout : top.layout ≡ s.layout
  unfolding held
  top_layout = top_sound.inode.layout

  pub top_reads : inode_block disk top ≡ file_block (held disk top)
  top_reads = l.reads detail s disk top top_sound

  pub top_readable : IsReadable (held disk top)
  unfolding held
  top_readable = inodes_readable s disk top top.body refl top_sound.inode.body (subst (λ h. (i : ℕ) → drop 4032 (file_block h i) ≡ zeros 64) first_is sound.inodes.behind)

  -- ---- the inode file

  in_use : (n : ℕ) → 1 ≤ n → n < s.inodes → HasKindOfPlace s.inodes n (tree disk s.inodes top n).inode.kind
  in_use n some lt = record {
    number = λ _ _. sound.kinds n;
    root = λ is. ap (λ k. (tree disk s.inodes top k).inode.kind) is ∙ root;
    none = λ is. absurd (omega arith);
    past = λ ge. absurd (omega arith);
  }

  inode_at : (version : ℕ) → IsWithin version (tree disk s.inodes top) → (n : ℕ) → IsInodeAt version s n (inode_bytes_at (file_block (tree disk s.inodes top 0)) n)
  inode_at version within n = elim (cases_lt n s.inodes) [
    | inr past ↦ record {
      inode = free_inode s.layout;
      is = free_fits s;
      within = omega arith;
      spelled = sound.inodes.past n past ∙ sym (free_bytes s.layout);
      kind = free_past s.inodes n (omega (arith, are.least_inodes)) past;
    }
    | inl lt ↦ elim (cases_lt 0 n) [
      | inl some ↦ record {
        inode = (tree disk s.inodes top n).inode;
        is = (sound.files n).inode;
        within = within n;
        spelled = sound.inodes.each n some lt;
        kind = in_use n some lt;
      }
      | inr none ↦
          let at : n ≡ 0 = omega arith in
          subst (λ k. IsInodeAt version s k (inode_bytes_at (file_block (tree disk s.inodes top 0)) k)) (sym at) (record {
            inode = free_inode s.layout;
            is = free_fits s;
            within = omega arith;
            spelled = sound.inodes.first ∙ sym (free_bytes s.layout);
            kind = free_first s.inodes (omega (arith, are.least_inodes));
          })
    ]
  ]

  inode_block_at : (version : ℕ) → IsWithin version (tree disk s.inodes top) → (i : ℕ) → IsInodeBlock version s (21 * i) (file_block (tree disk s.inodes top 0) i)
  inode_block_at version within i = record {
    each = λ k lt.
        let block : (21 * i + k) / 21 ≡ i = omega arith in
        let place : (21 * i + k) % 21 ≡ k = omega arith in
        subst (λ m. IsInodeAt version s (21 * i + k) (inode_part (file_block (tree disk s.inodes top 0) i) m)) place
        (subst (λ j. IsInodeAt version s (21 * i + k) (inode_part (file_block (tree disk s.inodes top 0) j) ((21 * i + k) % 21))) block (inode_at version within (21 * i + k)));
    behind = sound.inodes.behind i;
  }

  pub inode_blocks : (version : ℕ) → IsWithin version (tree disk s.inodes top) → AreInodeBlocks version s (inode_block disk top)
  inode_blocks version within = subst (AreInodeBlocks version s) (ap file_block first_is ∙ sym top_reads) (λ i lt. inode_block_at version within i)

  -- the inodes that stand there
  pub own_spelled : (n : ℕ) → 1 ≤ n → n < s.inodes → inode_bytes_at (inode_block disk top) n ≡ inode_bytes (tree disk s.inodes top n).inode
  own_spelled n some lt =
      ap (λ block. inode_bytes_at block n) (top_reads ∙ sym (ap file_block first_is)) ∙ sound.inodes.each n some lt

  pub own_is : (n : ℕ) (i : Inode) → 1 ≤ n → n < s.inodes → IsInode s i → inode_bytes_at (inode_block disk top) n ≡ inode_bytes i
      → tree disk s.inodes top n ≡ held disk i
  own_is n i some lt fits is = l.spells s disk top i n are top_layout some lt fits (ap (λ block. inode_bytes_at block n) (sym top_reads) ∙ is)

  -- ---- all inodes by number

  held_again : (n : ℕ) → held disk (tree disk s.inodes top n).inode ≡ tree disk s.inodes top n
  unfolding tree held
  held_again n = refl

  free_behind : (n : ℕ) → s.inodes ≤ n → (tree disk s.inodes top n).inode ≡ free_inode s.layout
  unfolding held
  free_behind n past = ap (λ h. h.inode) (l.ends disk s.inodes top n (omega (arith, are.least_inodes)) past) ∙ ap free_inode top_layout

  pub settled : (file : File) → memory.file_block disk file ≡ inode_block disk top → ((i : ℕ) → IsSoundAt s.blocks disk file.tree i)
      → (version : ℕ) → IsWithin version (tree disk s.inodes top) → AreSettledIn detail s.blocks disk version s file (inodes_of (tree disk s.inodes top))
  settled file same reached version within = record {
    count = refl;
    spelled = λ n some lt. ap (λ block. inode_bytes_at block n) same ∙ own_spelled n some lt;
    sound = λ n. subst (IsHeldFile detail s) (sym (held_again n)) (sound.files n);
    within = within;
    fits = sound.kinds;
    past = free_behind;
    reached = reached;
  }

  pub holds_volume : (v : Volume) → HoldsVolumeIn detail s.inodes (tree_contents (tree disk s.inodes top)) v
      → HoldsVolumeIn detail s.inodes (λ n. held_content disk (inodes_of (tree disk s.inodes top) n)) v
  holds_volume v holds n = subst (λ h. StandsForIn detail s.inodes (content_of h) (v n)) (sym (held_again n)) (holds n)

  pub maps_volume : (v : Volume) → HoldsVolumeIn detail s.inodes (tree_contents (tree disk s.inodes top)) v
      → MapsVolume (content_bytes (content_of (tree disk s.inodes top 1))) v
  maps_volume v holds n = elim (cases_lt n 4) [
    | inl low ↦ (λ _. inl low, λ _. (sound.numbers n).1 (inl low))
    | inr high ↦
        let usual : IsOrdinary (tree disk s.inodes top n).inode.kind = ordinary_kind n (tree disk s.inodes top n).inode.kind (omega arith) (sound.kinds n) in (
          (λ taken. elim ((sound.numbers n).0 taken) [
            | inl low ↦ inl low
            | inr used ↦ inr (used_in detail (tree disk s.inodes top n).inode.kind s.inodes (content_of (tree disk s.inodes top n)) (v n) usual (holds n) used)
          ]),
          (λ which. elim which [
            | inl low ↦ (sound.numbers n).1 (inl low)
            | inr some ↦ (sound.numbers n).1 (inr (some_in detail (tree disk s.inodes top n).inode.kind s.inodes (content_of (tree disk s.inodes top n)) (v n) (holds n) some))
          ]),
        )
  ]

  -- ---- the maps

  -- a file of the system's own, at its inode
  pub own_sound : (n : ℕ) (i : Inode) → tree disk s.inodes top n ≡ held disk i → IsHeldFile detail s (held disk i)
  own_sound n i is = subst (IsHeldFile detail s) is (sound.files n)

  pub map_file : (n : ℕ) (i : Inode) → tree disk s.inodes top n ≡ held disk i → IsMapGrammar (tree disk s.inodes top n) → IsMapFile disk i
  map_file n i is map = l.stored detail s disk i (own_sound n i is) (subst IsMapGrammar is map)

  pub map_whole : (n : ℕ) (i : Inode) → tree disk s.inodes top n ≡ held disk i → IsReadable (tree disk s.inodes top n) → IsWholeBody i.layout disk i.body i.size
  map_whole n i is readable = (l.whole detail s disk i (own_sound n i is)).0 (subst IsReadable is readable)

  pub map_bytes : (i : Inode) → tree disk s.inodes top 1 ≡ held disk i → inode_bytes_of disk i ≡ content_bytes (content_of (tree disk s.inodes top 1))
  unfolding held
  map_bytes i is =
      ap (λ block. first_bytes (byte_in block) i.size) (l.reads detail s disk i (own_sound 1 i is))
      ∙ ap (λ h. content_bytes (content_of h)) (sym is)

  free_kind : (n : ℕ) → s.inodes ≤ n → (tree disk s.inodes top n).inode.kind ≡ kinds.Free
  free_kind n past = ap (λ i. i.kind) (free_behind n past)

  own_map : IsInodeMap 0 s.inodes (content_bytes (content_of (tree disk s.inodes top 1)))
  own_map = record {
    own = λ n within first. (sound.numbers n).1 (inl (omega arith));
    past = λ n within past taken. elim ((sound.numbers n).0 taken) [
      | inl low ↦ omega (arith, are.least_inodes)
      | inr used ↦ used (free_kind n (omega arith))
    ];
  }

  pub is_map : (i : Inode) → tree disk s.inodes top 1 ≡ held disk i → IsInodeMap 0 s.inodes (inode_bytes_of disk i)
  is_map i is = subst (IsInodeMap 0 s.inodes) (sym (map_bytes i is)) own_map

  -- ---- what is loaded

  pub paths_of : (n : ℕ) (i : Inode) (k : ℕ) → tree disk s.inodes top n ≡ held disk i → IsBodyPath i.layout s.blocks disk i.body i.size k
  paths_of n i k is = l.paths detail s disk i k (own_sound n i is)

  entry_is : (i : Inode) (b : ℕ) → tree disk s.inodes top 2 ≡ held disk i
      → map_entry (inode_block disk i (b / 1024)) (b % 1024) ≡ entry (tree disk s.inodes top) b
  unfolding entry
  entry_is i b is = ap (λ block. map_entry (block (b / 1024)) (b % 1024)) (l.reads detail s disk i (own_sound 2 i is) ∙ ap file_block (sym is))

  past_map : (i : Inode) (j : ℕ) → i.size ≡ 4 * s.blocks → div_ceil s.blocks 1024 ≤ j → inode_block disk i j ≡ zeros 4096
  past_map i j size past = past_end i.layout disk i.body i.size j (omega (arith, are.least_blocks, past)) (omega (arith, size, past))

  pub map_is : (i : Inode) (map : BlockMap) (parts : List Part) → tree disk s.inodes top 2 ≡ held disk i → i.size ≡ 4 * s.blocks
      → AreParts (inode_block disk i) (div_ceil s.blocks 1024) parts → AreUnchanged parts → map.parts.items ≡ parts → map.count ≡ s.blocks → map.next ≡ 2
      → IsMapOf (tree disk s.inodes top) s.blocks map
  map_is i map parts is size have unchanged items count next = record {
    count = count;
    next = next;
    parts = ap length items ∙ have.count_is;
    settled = λ b. ap (λ ps. settled_at ps b) items
        ∙ entries_are (inode_block disk i) (div_ceil s.blocks 1024) parts have (λ j past. past_map i j size past) b ∙ entry_is i b is;
    entries = λ b. ap (λ ps. entry_at ps b) items ∙ same_entries parts unchanged b
        ∙ entries_are (inode_block disk i) (div_ceil s.blocks 1024) parts have (λ j past. past_map i j size past) b ∙ entry_is i b is;
    untouched = λ j touched. unchanged.untouched j (subst (λ ps. IsTouched ps j) items touched);
  }
