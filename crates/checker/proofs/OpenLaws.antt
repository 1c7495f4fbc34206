-- A tree as it is opened: the blocks of its inode file are marked, and its maps are read.
use Rattle.std.proofs.Common.{Bool, true, false, if◌then◌else◌, ◌==◌, ◌≡◌, ◌∙◌, ℕ, ◌*◌, ◌/◌, ◌%◌, ◌^◌, ◌≤◌, List, length, slice_index, refl, ap, sym, subst, arith, inl, inr, Err}
use Rattle.std.specs.Prelude.{Option, Some, None, slice_index_or}
use Rattle.std.specs.Int.{div_ceil}
use Rattle.std.proofs.Math.Nat.{zero-div}
use Rattle.std.proofs.lemmas.Bool.{cases_lt}
use Rattle.std.proofs.lemmas.List.{get_or_past}
use Rattle.layout.specs.FileBytes.{EndsAt, byte_in, first_bytes}
use Rattle.layout.specs.Inode.{FitsBody, FitsKind, IsInode}
use Rattle.layout.specs.Limits.{AreSizes, Sizes}
use Rattle.layout.specs.Maps.{IsInodeMap, IsTaken}
use Rattle.layout.specs.Places.{Blocks}
use Rattle.layout.specs.Version.{greatest_under, layout_of}
use Rattle.layout.specs.Trees.{greatest_size}
use Rattle.layout.proofs.SizeLaws.{level_none}
use Rattle.layout.specs.declared.inode.Body.{Body}
use Rattle.layout.specs.declared.inode.Body.TheVariants.{Inline, Pointers}
use Rattle.layout.specs.declared.inode.Inode.{Inode}
use Rattle.layout.specs.declared.kind.Kind.{Kind}
use Rattle.layout.specs.declared.kind.Kind.TheVariants.{InodeFile}
use Rattle.layout.specs.declared.root.Root.{Root}
use Rattle.layout.specs.declared.trees.Layout.{Layout}
use Rattle.layout.specs.declared.trees.Layout.TheVariants.{Plain, Summed}
use Rattle.images.specs.BlockMap.{HasBit}
use Rattle.images.specs.Contents.{content_bytes, content_of}
use Rattle.images.specs.Faults.{IsMapGrammar, IsTreeGrammar, MapsWithin}
use Rattle.images.specs.Nodes.{Held, IsOnce, Names, held}
use Rattle.images.specs.Roots.{HeldTree, whole}
use Rattle.images.specs.Soundness.{HasNoHole, IsFileGrammar, IsReadable, by_sizes, nodes_of_size}
use Rattle.blocktree.specs.Places.{depth_of}
use Rattle.loading.specs.Laws.{AreMapFiles, HaveSoundPaths, HaveWholeBodies, ReadAsHeld}
use Rattle.loading.specs.Readings.{IsBodyPath, IsMapFile, IsStored, IsWholeBody, inode_bytes_of}
use Rattle.checker.specs.Checks.{Passes}
use Rattle.checker.specs.Findings.{IsTreeFinding, tree_in}
use Rattle.checker.specs.Nodes.{IsAny, LooksUnder, MarksFile, SharesNone}
use Rattle.checker.specs.Trees.{HasInodes, HasMarked, IsBefore, IsOpened, IsOut, IsSeenTo, IsTreeOf, SharesBlock}
use Rattle.checker.specs.declared.error.CheckEnd.{CheckEnd}
use Rattle.checker.specs.declared.error.CheckEnd.TheVariants as halts
use Rattle.checker.specs.declared.fault.Fault.{Fault}
use Rattle.checker.specs.declared.fault.FileNode.{FileNode}
use Rattle.checker.specs.declared.nodes.Shared.{Shared}
use Rattle.checker.specs.declared.tree.Tree.{Tree}
use Rattle.inode.proofs.HeldLaws.{some_level}
use Rattle.checker.proofs.HeldLaws.{StandWhereLed}
use Rattle.checker.proofs.ReadableLaws.{block_readable}

-- a tree is out of its grammar
abbrev pub TellsOut : Root → HeldTree → Fault → Type 0
TellsOut r t fault = IsOut (Some fault) × IsTreeFinding r t fault

-- ---- its inode file

pub mark_failed : {T : Type 0} (Is : T → Type 0) (r : Root) (t : HeldTree) (disk : Blocks) (s : Sizes) (top : Inode) (bits : ℕ) (old new : List ℕ) (before after : List (Option Shared)) (e : CheckEnd)
    → MarksFile disk s top 0 bits old new before after (Err e) → (IsTreeGrammar r.geometry t → IsFileGrammar s (held disk top)) → Passes Is (TellsOut r t) (Err e)
mark_failed Is r t disk s top bits old new before after halts.NoMemory told grammar = tt
mark_failed Is r t disk s top bits old new before after halts.Device told grammar = tt
mark_failed Is r t disk s top bits old new before after (halts.Fault fault) told grammar =
    subst (TellsOut r t) (sym told.2) (tt, (λ is within. told.0 (grammar is)))

first_alone : (m : ℕ) → IsBefore 0 m → m ≡ 0
first_alone m (inl is) = is
first_alone m (inr lt) = absurd (omega (arith, lt))

module _ (t : HeldTree) (h : Held) (k : ℕ) (old new : List ℕ) (before after : List (Option Shared)) (is : t 0 ≡ h) (looks : LooksUnder h IsAny k 0 old new before after)
    (unmarked : (b : ℕ) → HasBit k (slice_index old b) → ⊥) (none : SharesNone before k) where
  at : (m : ℕ) → IsBefore 0 m → t m ≡ h
  at m first = ap t (first_alone m first) ∙ is

  pub top_marked : SharesNone after k → HasMarked t 0 k new
  top_marked still = let nodes = looks.marked still in record {
    each = λ m first. subst IsOnce (sym (at m first)) (λ m i n j b there again. nodes.once m i n j b tt tt there again);
    apart = λ m l b first second _ _. first_alone m first ∙ sym (first_alone l second);
    marked = λ b. (
      (λ bit. elim ((nodes.marks b).0 bit) [
        | inl had ↦ absurd (unmarked b had)
        | inr one ↦ (0, inl refl, subst (λ (x : Held). Names x b) (sym is) (record { height = one.0; index = one.1; is = one.3 }))
      ]),
      (λ named. let names = subst (λ (x : Held). Names x b) (at named.0 named.1) named.2 in
          (nodes.marks b).1 (inr (names.height, names.index, tt, names.is))),
    );
  }

  pub top_shared : (s : Shared) → slice_index_or after k None ≡ Some s → SharesBlock t s
  top_shared s there =
      let told = looks.shared none s there in
      elim told.3 [
        | inl had ↦ absurd (unmarked s.block had)
        | inr one ↦ record {
          first = record { number = 0; height = one.0; index = one.1 };
          there = ap (λ (x : Held). x.place one.0 one.1) is ∙ one.3;
          again = ap (λ (x : Held). x.place s.second.height s.second.index) (ap t told.0 ∙ is) ∙ told.2;
          other = λ same. one.4 (ap (λ (n : FileNode). n.height) same, ap (λ (n : FileNode). n.index) same);
        }
      ]

of_layout : (l : Layout) → 67108864 ≤ greatest_size l
of_layout Plain = omega arith
of_layout Summed = omega arith

least_of : (first : Bool) (l : Layout) → 67108864 ≤ (if first then 67108864 else greatest_size l)
least_of true l = omega arith
least_of false l = of_layout l

-- what each version allows at the least
least : (version : ℕ) → 67108864 ≤ greatest_under version
least version = least_of (version == 1) (layout_of version)

-- an inode file is small in each version
pub top_small : (version : ℕ) (s : Sizes) (d : Blocks) (top : Inode) → AreSizes s → IsInode s top → top.kind ≡ InodeFile → (held d top).inode.size ≤ greatest_under version
unfolding held
top_small version s d top are fits kind =
    let size : top.size ≡ 4096 * div_ceil s.inodes 21 = (subst (λ (k : Kind). FitsKind k s top.attributes top.links top.size) kind fits.kind).2 in
    omega (arith, size, are.most_inodes, least version)

pub top_inodes : (version : ℕ) (s : Sizes) (t : HeldTree) (h : Held) → t 0 ≡ h → IsFileGrammar s h → h.inode.size ≤ greatest_under version → HasInodes version s t 0 0
top_inodes version s t h is grammar small = record {
  files = λ m first. subst (IsFileGrammar s) (sym (ap t (first_alone m first) ∙ is)) grammar;
  within = λ m first. subst (λ (x : Held). x.inode.size ≤ greatest_under version) (sym (ap t (first_alone m first) ∙ is)) small;
  spelled = λ m lt. absurd (omega (arith, lt));
  behind = λ i lt. absurd (omega (arith, lt));
}

-- ---- the files of the maps

-- a map's file that was read is in its grammar, where its indirect blocks are
stored_all : (led : StandWhereLed) (s : Sizes) (disk : Blocks) (f : Inode) (body : Body) → f.body ≡ body → FitsBody f.layout body s.blocks f.size → IsStored f.layout disk body f.size → HasNoHole (held disk f)
unfolding held nodes_of_size
stored_all led s disk f (Inline bytes) is fits stored i level lt hole = absurd (omega (arith, level, level_none f.layout f.size fits.0))
stored_all led s disk f (Pointers pointers) is fits stored i level lt hole =
    stored i lt (sym (led disk f pointers (depth_of f.layout f.size) 0 i is (some_level f.layout f.size fits.0)) ∙ hole)

pub map_grammar : (led : StandWhereLed) (reads : ReadAsHeld) (s : Sizes) (disk : Blocks) (f : Inode) (h : Held) → h ≡ held disk f → IsMapFile disk f → IsFileGrammar s h → IsMapGrammar h
unfolding held
map_grammar led reads s disk f h is file grammar = subst IsMapGrammar (sym is) (
    let own : IsFileGrammar s (held disk f) = subst (IsFileGrammar s) is grammar in record {
      stored = stored_all led s disk f f.body refl own.inode.body file.stored;
      last = λ b there. block_readable s disk f (f.size / 4096) b own file.last there;
      ends = subst (λ (block : ℕ → List ℕ). EndsAt f.size (byte_in block)) (reads by_sizes s disk f own) file.ends;
    })

pub map_bytes : (reads : ReadAsHeld) (s : Sizes) (disk : Blocks) (f : Inode) (h : Held) → h ≡ held disk f → IsFileGrammar s h → inode_bytes_of disk f ≡ content_bytes (content_of h)
unfolding held
map_bytes reads s disk f h is grammar =
    ap (λ (block : ℕ → List ℕ). first_bytes (byte_in block) f.size) (reads by_sizes s disk f (subst (IsFileGrammar s) is grammar))
    ∙ sym (ap (λ (x : Held). content_bytes (content_of x)) is)

-- ---- and in a tree in its grammar they read so

pub map_paths : (paths : HaveSoundPaths) (s : Sizes) (disk : Blocks) (f : Inode) (h : Held) (blocks i : ℕ) → h ≡ held disk f → IsFileGrammar s h → blocks ≡ s.blocks
    → IsBodyPath f.layout blocks disk f.body f.size i
map_paths paths s disk f h blocks i is grammar count =
    subst (λ (n : ℕ). IsBodyPath f.layout n disk f.body f.size i) (sym count) (paths by_sizes s disk f i (subst (IsFileGrammar s) is grammar))

pub map_reads : (stored : AreMapFiles) (s : Sizes) (disk : Blocks) (f : Inode) (h : Held) → h ≡ held disk f → IsFileGrammar s h → IsMapGrammar h → IsMapFile disk f
map_reads stored s disk f h is grammar map =
    stored by_sizes s disk f (subst (IsFileGrammar s) is grammar) (subst IsMapGrammar is map)

-- a map that can be read
pub map_readable : (s : Sizes) (disk : Blocks) (f : Inode) (h : Held) → h ≡ held disk f → IsWholeBody f.layout disk f.body f.size → IsFileGrammar s h → IsReadable h
map_readable s disk f h is whole grammar =
    subst IsReadable (sym is) (λ i b there. block_readable s disk f i b (subst (IsFileGrammar s) is grammar) (whole i) there)

pub map_whole : (whole : HaveWholeBodies) (s : Sizes) (disk : Blocks) (f : Inode) (h : Held) → h ≡ held disk f → IsFileGrammar s h → IsReadable h → IsWholeBody f.layout disk f.body f.size
map_whole whole s disk f h is grammar readable = (whole by_sizes s disk f (subst (IsFileGrammar s) is grammar)).0 (subst IsReadable is readable)

pub is_inode_map : (inodes : ℕ) (bytes : List ℕ) → MapsWithin inodes bytes → IsInodeMap 0 inodes bytes
is_inode_map inodes bytes within = record {
  own = λ i _ low. within.own i (omega (arith, low));
  past = λ i _ high taken. within.past i (omega (arith, high)) taken;
}

none_past : (bytes : List ℕ) (n : ℕ) → 8 * length bytes ≤ n → IsTaken bytes n → ⊥
none_past bytes n past taken =
    let gone : 0 / 2 ^ (n % 8) % 2 ≡ 1 = subst (λ (x : ℕ). x / 2 ^ (n % 8) % 2 ≡ 1) (get_or_past bytes (n / 8) 0 (omega (arith, past))) taken in
    omega (arith, gone, zero-div (2 ^ (n % 8)))

pub maps_within : (s : Sizes) (bytes : List ℕ) → AreSizes s → length bytes ≡ div_ceil s.inodes 8 → IsInodeMap 0 s.inodes bytes → MapsWithin s.inodes bytes
maps_within s bytes are long map = record {
  own = λ n low. map.own n (omega (arith, long, low, are.least_inodes)) (omega (arith, low));
  past = λ n high taken. elim (cases_lt n (8 * length bytes)) [
    | inl lt ↦ map.past n lt (omega (arith, high)) taken
    | inr ge ↦ none_past bytes n ge taken
  ];
}

-- ---- what is known of a tree that was opened

pub seen_opened : (disk : Blocks) (r : Root) (marks : List ℕ) (shared : List (Option Shared)) (t : Tree) → t.fault ≡ None → IsTreeOf disk r t → IsOpened disk r marks shared t
    → IsSeenTo disk r 0 0 marks shared t
seen_opened disk r marks shared t none is opened = record {
  tree = is;
  fault = λ fault there. cc;
  maps = λ _. opened.maps;
  inodes = λ _. opened.inodes;
  marked = λ _ single. opened.marked single;
  shared_is = λ _ s there. opened.shared_is s there;
  mapped = λ _ m lt. absurd (omega (arith, lt));
}

pub seen_out : (disk : Blocks) (r : Root) (marks : List ℕ) (shared : List (Option Shared)) (t : Tree) (fault : Fault) → t.fault ≡ Some fault → IsTreeOf disk r t
    → TellsOut r (tree_in (whole disk r) t.plane) fault → IsSeenTo disk r 0 0 marks shared t
seen_out disk r marks shared t fault is tree told =
    let out : IsOut t.fault = subst IsOut (sym is) told.0 in record {
      tree = tree;
      fault = λ other there. let same : fault ≡ other = cc in subst (IsTreeFinding r (tree_in (whole disk r) t.plane)) same told.1;
      maps = λ inside. absurd (inside out);
      inodes = λ inside. absurd (inside out);
      marked = λ inside. absurd (inside out);
      shared_is = λ inside. absurd (inside out);
      mapped = λ none. cc;
    }
