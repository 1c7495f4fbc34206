-- The steps of a walk through directories.
use Rattle.std.proofs.Common.{◌≡◌, ◌≢◌, ◌∙◌, inl, inr, ℕ, zero, suc, ◌+◌, ◌/◌, ◌<◌, ◌≤◌, get_or, List, [], ◌∷◌, length, true, Option, Some, None, is_some, Result, Ok, Err, refl, sym, ap, subst, arith}
use Rattle.std.specs.Prelude.{◌%◌, slice_get}
use Rattle.std.specs.Int.{div_ceil}
use Rattle.std.specs.Result.{IsErrAnd}
use Rattle.std.proofs.lemmas.Bool.{cases_eq, false≢true}
use Rattle.std.proofs.lemmas.Option.{slice_get-get_or, slice_get_read, slice_get_within}
use Rattle.layout.specs.Inode.{FitsKind}
use Rattle.layout.specs.Limits.{Sizes}
use Rattle.layout.specs.declared.TheConstants.{BLOCK_BYTES}
use Rattle.layout.specs.declared.kind.Kind.{Kind}
use Rattle.layout.specs.declared.kind.Kind.TheVariants as kinds
use Rattle.model.specs.Paths.{Name, Path}
use Rattle.model.specs.Volumes.{Entries, HasNames, number_at}
use Rattle.model.specs.declared.limits.TheConstants.{ROOT_NUMBER}
use Rattle.model.proofs.OptionLaws.{none_some, some_same}
use Rattle.images.specs.Contents.{IsDirectoryOf, content_of}
use Rattle.layout.specs.Places.{Blocks}
use Rattle.layout.specs.declared.inode.Inode.{Inode}
use Rattle.layout.specs.declared.root.Root.{Root}
use Rattle.buffers.specs.Reads.{HasOnlyRead}
use Rattle.buffers.specs.declared.blocks.Blocks.{Ghosts}
use Rattle.blocktree.specs.Trees.{IsSoundAt}
use Rattle.inode.specs.Bases.{StartsFrom, StartsUnchanged}
use Rattle.inode.specs.Files.{IsAsHeld}
use Rattle.inode.specs.declared.file.File.{File}
use Rattle.images.specs.Faults.{IsTreeGrammar}
use Rattle.images.specs.Nodes.{Held, file_block, held}
use Rattle.images.specs.Roots.{HeldTree, whole}
use Rattle.images.specs.Soundness.{IsFileGrammar, IsReadable}
use Rattle.checker.specs.Checks.{Passes}
use Rattle.checker.specs.Errors.{IsFault, IsCheckEndFault, halt}
use Rattle.checker.specs.Findings.{tree_in}
use Rattle.checker.specs.Trees.{IsTreeOf}
use Rattle.checker.specs.declared.tree.Tree.{Tree}
use Rattle.checker.proofs.ReadLaws.{HasLooked}
use Rattle.checker.proofs.HeldLaws.{number_is}
use Rattle.checker.proofs.ReadableLaws.{sound_readable}
use Rattle.checker.specs.Names.{AreDirectories, AreWithin, IsFirst, IsTable, IsUnnamed}
use Rattle.checker.specs.Walks.{HasCountedRows, HasFile, IsToCount, LooksInto}
use Rattle.checker.specs.declared.error.CheckError.{CheckError}
use Rattle.checker.specs.declared.error.CheckError.TheVariants as check
use Rattle.checker.specs.declared.error.CheckEnd.{CheckEnd}
use Rattle.checker.specs.declared.error.CheckEnd.TheVariants as halts
use Rattle.checker.specs.declared.fault.Fault.{Fault}
use Rattle.checker.specs.declared.names.NumberRow.{NumberRow}
use Rattle.checker.proofs.NameLaws.{rows_all}

pub not_none : (o : Option ℕ) → is_some o ≡ true → o ≡ None → ⊥
not_none o is none = false≢true (sym (ap is_some none) ∙ is)

-- ---- directory by directory

-- the walk begins at the root
pub way_first : (s : Sizes) (t : HeldTree) (table : List NumberRow) → IsTable s t table → IsUnnamed table → (t ROOT_NUMBER).inode.kind ≡ kinds.Directory → LooksInto s t (λ d x. None) 0 (ROOT_NUMBER ∷ []) table
way_first s t table is unnamed root = record {
  way = record {
    counted = record {
      rows = is;
      from = λ d n x at. none_some at;
      used = λ d n x at. none_some at;
      counts = λ n row at. subst (λ (k : ℕ). HasNames (λ d x. None) n k) (sym (unnamed n row at)) (λ place leads. none_some leads);
      once = λ n row at never. omega (arith, unnamed n row at);
      finds = λ d n x at. none_some at;
      root = (0, omega arith, refl);
      reached = λ n first.
          let same : ROOT_NUMBER ≡ n = only first.0 n first.2 in
          subst (λ (k : ℕ). ((t k).inode.kind ≡ kinds.Directory) × ((p : Path) × (number_at (λ d x. None) p ≡ Some k))) same (root, ([], refl));
    };
    distinct = λ i j n at_i at_j. place i n at_i ∙ sym (place j n at_j);
    sound = λ g d n x at. none_some at;
  };
  names = λ d first. absurd (omega (arith, first.1));
}
  where
    only : (i n : ℕ) → slice_get (ROOT_NUMBER ∷ []) i ≡ Some n → ROOT_NUMBER ≡ n
    only zero n at = some_same at
    only (suc i) n at = none_some at

    place : (i n : ℕ) → slice_get (ROOT_NUMBER ∷ []) i ≡ Some n → i ≡ 0
    place zero n at = refl
    place (suc i) n at = none_some at

-- the next directory is looked into
module _ (s : Sizes) (t : HeldTree) (e : Entries) (count : ℕ) (found : List ℕ) (table : List NumberRow) (d : ℕ) (before : LooksInto s t e count found table) (at : slice_get found count ≡ Some d) where
  -- a directory that is looked into before is another
  other : IsFirst found count d → ⊥
  other first =
      let same = before.way.distinct first.0 count d first.2 at in
      omega (arith, first.1, same)

  pub to_count : IsToCount s t d e (count + 1) found table
  to_count =
      let was = before.way.counted in
      record {
        way = record {
          counted = record {
            rows = was.rows;
            from = λ k n x is. let first = was.from k n x is in (first.0, omega (arith, first.1), first.2);
            used = was.used;
            counts = was.counts;
            once = was.once;
            finds = was.finds;
            root = was.root;
            reached = was.reached;
          };
          distinct = before.way.distinct;
          sound = before.way.sound;
        };
        among = (count, omega arith, at);
        none = λ x. none_yet x (e d x) refl;
      }
    where
      none_yet : (x : Name) (o : Option ℕ) → e d x ≡ o → e d x ≡ None
      none_yet x None is = is
      none_yet x (Some n) is = absurd (other (before.way.counted.from d n x is))

  pub directory : (t d).inode.kind ≡ kinds.Directory
  directory = (before.way.counted.reached d (count, slice_get_within found count d at, at)).0

  pub looked_into : IsReadable (t d) → (more : List ℕ) (later : List NumberRow) → ((i n : ℕ) → slice_get found i ≡ Some n → slice_get more i ≡ Some n)
      → HasCountedRows s t d ((t d).inode.size / BLOCK_BYTES) (file_block (t d)) e (count + 1) more later → (f : Entries) × LooksInto s t f (count + 1) more later
  looked_into readable more later keeps h = (h.names, record { way = h.way; names = names })
    where
      old : (i k : ℕ) → i < count → slice_get more i ≡ Some k → (o : Option ℕ) → slice_get found i ≡ o → slice_get found i ≡ Some k
      old i k low is None past =
          none_some (sym past ∙ slice_get-get_or found i 0 (omega (arith, low, slice_get_within found count d at)))
      old i k low is (Some j) there = there ∙ sym (keeps i j there) ∙ is

      names : AreDirectories s t h.names (count + 1) more
      names k first = elim (cases_eq first.0 count) [
        | inl same ↦
            let is : d ≡ k = some_same (sym (keeps count d at) ∙ ap (slice_get more) (sym same) ∙ first.2) in
            subst (λ (j : ℕ). IsReadable (t j) × IsDirectoryOf s.inodes (content_of (t j)) (h.names j)) is (readable, rows_all s t d h.rows e h.names h.has)
        | inr before_it ↦
            let low : first.0 < count = omega (arith, first.1, before_it) in
            let there = old first.0 k low first.2 (slice_get found first.0) refl in
            let apart : k ≢ d = λ same. other (first.0, low, there ∙ ap (λ (j : ℕ). Some j) same) in
            let was = before.names k (first.0, low, there) in
            (was.0, subst (IsDirectoryOf s.inodes (content_of (t k))) (sym (h.has.others k apart)) was.1)
      ]

-- ---- a directory's file

-- a file of memory that was loaded from the inode of a number
module _ (disk : Blocks) (r : Root) (tree : Tree) (n blocks : ℕ) (inode : Inode) (file : File) where
  abbrev t : HeldTree
  t = tree_in (whole disk r) tree.plane

  pub has_file : IsTreeOf disk r tree → IsTreeGrammar r.geometry t → inode ≡ (t n).inode → blocks ≡ r.geometry.blocks → file.size ≡ inode.size
      → (IsFileGrammar r.geometry (held disk inode) → IsAsHeld disk inode file) → ((i : ℕ) → IsFileGrammar r.geometry (held disk inode) → IsReadable (held disk inode) → IsSoundAt r.geometry.blocks disk file.tree i)
      → HasFile blocks disk file (t n)
  has_file is grammar same count size as_held sound =
      let here : t n ≡ held disk inode = number_is disk r tree n is ∙ ap (held disk) (sym same) in
      let known : IsFileGrammar r.geometry (held disk inode) = subst (IsFileGrammar r.geometry) here (grammar.files n) in
      record {
        size_is = size ∙ ap (λ (i : Inode). i.size) same;
        block_is = λ i. as_held known i ∙ ap (λ (h : Held). file_block h i) (sym here);
        sound = λ readable i. subst (λ (b : ℕ). IsSoundAt b disk file.tree i) (sym count) (sound i known (subst IsReadable here readable));
      }

  -- a directory's whole blocks are all that it has
  whole_blocks : (size : ℕ) → size % 4096 ≡ 0 → div_ceil size 4096 ≡ size / 4096
  whole_blocks size none = omega (arith, none)

  -- where its blocks were read, it can be read
  pub directory_readable : IsTreeOf disk r tree → IsTreeGrammar r.geometry t → inode ≡ (t n).inode → (t n).inode.kind ≡ kinds.Directory → file.size ≡ inode.size
      → StartsFrom inode.layout inode.body inode.size file.tree → StartsUnchanged inode.body file.tree → ((i : ℕ) → i < file.size / 4096 → IsSoundAt blocks disk file.tree i) → IsReadable (t n)
  unfolding held
  directory_readable is grammar same kind size starts unchanged sound =
      let here : t n ≡ held disk inode = number_is disk r tree n is ∙ ap (held disk) (sym same) in
      let known : IsFileGrammar r.geometry (held disk inode) = subst (IsFileGrammar r.geometry) here (grammar.files n) in
      let fits = subst (λ (k : Kind). FitsKind k r.geometry inode.attributes inode.links inode.size) (ap (λ (i : Inode). i.kind) same ∙ kind) known.inode.kind in
      subst IsReadable (sym here) (sound_readable r.geometry disk inode blocks file.tree known starts unchanged
      (λ i low. sound i (omega (arith, low, size, whole_blocks inode.size fits.1))))

-- ---- what ends a part of a check

module _ {T : Type 0} (Is Other : T → Type 0) (Found : Fault → Type 0) where
  pub passes_then : (r : Result T CheckEnd) → ((x : T) → Is x → Other x) → Passes Is Found r → Passes Other Found r
  passes_then (Ok x) more told = more x told
  passes_then (Err halts.NoMemory) more told = tt
  passes_then (Err halts.Device) more told = tt
  passes_then (Err (halts.Fault fault)) more told = told

-- where memory ran out or a device call failed, nothing is told
pub passes_halt : {T : Type 0} (Is : T → Type 0) (Found : Fault → Type 0) (q : Result T CheckEnd) (e : CheckError) → IsErrAnd q (λ h. h ≡ halt e) → Passes Is Found q
passes_halt Is Found (Ok x) e is = absurd is
passes_halt Is Found (Err h) check.NoMemory is = subst (λ (k : CheckEnd). Passes Is Found (Err k)) (sym is) tt
passes_halt Is Found (Err h) check.Device is = subst (λ (k : CheckEnd). Passes Is Found (Err k)) (sym is) tt

pub device_halt : (e : CheckError) → IsCheckEndFault (halt e) → IsFault e
device_halt check.NoMemory is = cc
device_halt check.Device is = refl

pub root_within : (inodes : ℕ) → 4 ≤ inodes → AreWithin inodes (3 ∷ [])
root_within inodes many zero n at = let same : 3 ≡ n = some_same at in (omega (arith, same), omega (arith, same, many))
root_within inodes many (suc i) n at = none_some at

pub only_looked : {B : Type 0} {G : Ghosts B} {a b : B} → HasOnlyRead G a b → HasLooked G a b
only_looked read = record { count = read.count; grown = inl read.counted; reads = read.reads; same = read.same }

pub row_at : (table : List NumberRow) (n : ℕ) (row : NumberRow) → n < length table → row ≡ get_or table n row → slice_get table n ≡ Some row
row_at table n row low is = slice_get_read table (length table) n row refl low is

pub both : {k : Kind} → k ≡ kinds.Directory → k ≡ kinds.File → ⊥
both directory file = cc
