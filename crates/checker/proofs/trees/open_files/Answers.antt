use Rattle.std.proofs.Common.{◌≡◌, ◌∙◌, ℕ, Global, Vec, sym, subst, refl, arith}
use Rattle.layout.specs.Inode.{IsInode, inode_bytes}
use Rattle.layout.specs.Limits.{AreSizes, Sizes}
use Rattle.layout.specs.Maps.{IsInodeMap}
use Rattle.layout.specs.declared.inode.Inode.{Inode}
use Rattle.layout.specs.declared.kind.Kind.TheVariants as kinds
use Rattle.inode.specs.Files.{file_block}
use Rattle.inode.specs.declared.file.File.{File}
use Rattle.images.specs.Contents.{content_bytes, content_of}
use Rattle.images.specs.Faults.{IsTreeGrammar}
use Rattle.images.specs.Soundness.{IsFileGrammar}
use Rattle.images.specs.Nodes.{held}
use Rattle.images.specs.Roots.{inode_bytes_at, whole}
use Rattle.loading.specs.Readings.{IsMapFile, IsWholeBody, inode_bytes_of}
use Rattle.checker.specs.Findings.{tree_in}
use Rattle.checker.specs.Nodes.{IsAny, LooksUnder}
use Rattle.checker.specs.Trees.{HasInodes, HasMaps}
use Rattle.checker.specs.declared.fault.Fault.TheVariants as faults
use Rattle.checker.specs.declared.fault.TreeFault.TheVariants as tree_faults
use Rattle.checker.proofs.HaltLaws.{if_ok, looks_more, looks_of, looks_or_fault, looks_residual, on_ok, passes_or_fault, passes_residual}
use Rattle.checker.proofs.HeldLaws.{own_is, own_there, top_grammar, top_is}
use Rattle.checker.proofs.OpenLaws.{TellsOut, is_inode_map, map_bytes, map_grammar, map_paths, map_readable, map_reads, map_whole, mark_failed, maps_within, top_inodes, top_small, top_marked, top_shared}
use Rattle.checker.proofs.ReadLaws.{looked, looked_more, looked_of}
use Rattle.checker.proofs.trees.open_files.Goals as goal

pub mark_file-requires-clause-planes : goal.mark_file-requires-clause-planes
mark_file-requires-clause-planes g c = λ k bit. omega (arith, (c.bit.ensures k).0 bit, c.args.tree.now.known)

pub returns-in_err-mark_file-clause-opened : goal.returns-in_err-mark_file-clause-opened
returns-in_err-mark_file-clause-opened g c = λ disk r shows root same is unmarked none.
    let t = tree_in (whole disk r) c.args.tree.now.plane in
    passes_residual (λ (_ : Unit {0}). Unit {0}) _ (TellsOut r t) c.from_residual.result _ c.from_residual.ensures.1
    (mark_failed (λ (_ : Unit {0}). Unit {0}) r t disk c.args.geometry c.args.tree.now.top c.bit.result c.args.marks.now c.mark_file.new.marks c.args.shared.now.of c.mark_file.new.shared.of c.in_err-mark_file.field-0.0 (c.in_err-mark_file.ensures.marked disk c.args.geometry shows (sym c.requires.size) c.requires.top)
    (λ grammar. top_grammar disk r c.args.geometry c.args.tree.now is (subst (λ (s : Sizes). IsTreeGrammar s t) same grammar)))

pub returns-in_err-inode-clause-reads : goal.returns-in_err-inode-clause-reads
returns-in_err-inode-clause-reads g c =
    looks_more _ (looked c.in_ok-mark_file.ensures.reads) (looks_residual c.from_residual-in_err-inode.result c.from_residual-in_err-inode.ensures.1
    (looks_or_fault (faults.Tree (tree_faults.Inode 1)) c.own_inode.result _ c.in_err-inode.ensures (looks_of g.met.B.Blocks.reads_nothing g.met.B.UncachedReads.grows c.own_inode.ensures.reads)))

pub returns-in_err-inode-clause-opened : goal.returns-in_err-inode-clause-opened
returns-in_err-inode-clause-opened g c = λ disk r shows root same is unmarked none.
    let t = tree_in (whole disk r) c.args.tree.now.plane in
    let sizes : AreSizes c.args.geometry = subst AreSizes same root.head.sizes in
    passes_residual (λ (_ : Inode). Unit {0}) _ (TellsOut r t) c.from_residual-in_err-inode.result _ c.from_residual-in_err-inode.ensures.1
    (passes_or_fault (λ (_ : Inode). Unit {0}) (TellsOut r t) (faults.Tree (tree_faults.Inode 1)) c.own_inode.result _ c.in_err-inode.ensures (λ damaged. (
      tt,
      λ grammar within.
          let known : IsTreeGrammar c.args.geometry t = subst (λ (s : Sizes). IsTreeGrammar s t) same grammar in
          own_there c.sound_files_read_as_held.ensures c.based_trees_are_sound.ensures.at c.args.geometry disk r c.args.tree.now 1 (g.B.Blocks.count c.mark_file.new.blocks) kinds.InodeMap is known
          (c.in_ok-mark_file.ensures.reads.count ∙ c.requires.size) (omega arith) (omega (arith, sizes.least_inodes)) (known.kinds 1)
          (c.own_inode.ensures.damaged disk (c.in_ok-mark_file.ensures.reads.same disk shows) damaged),
    )))

pub returns-in_err-tree-clause-reads : goal.returns-in_err-tree-clause-reads
returns-in_err-tree-clause-reads g c =
    looks_more _ (looked_more (looked c.in_ok-mark_file.ensures.reads) (looked_of g.met.B.Blocks.reads_nothing g.met.B.UncachedReads.grows c.own_inode.ensures.reads))
    (looks_residual c.from_residual-in_err-tree.result c.from_residual-in_err-tree.ensures.1
    (looks_or_fault (faults.Tree tree_faults.InodeMap) c.load_numbers.result _ c.in_err-tree.ensures (looks_of g.met.B.Blocks.reads_nothing g.met.B.UncachedReads.grows c.load_numbers.ensures.reads)))

pub returns-in_err-tree-clause-opened : goal.returns-in_err-tree-clause-opened
returns-in_err-tree-clause-opened g c = λ disk r shows root same is unmarked none.
    let t = tree_in (whole disk r) c.args.tree.now.plane in
    let s = c.args.geometry in
    let i = c.in_ok-inode.inode in
    let fault = faults.Tree (tree_faults.Inode 1) in
    let sizes : AreSizes s = subst AreSizes same root.head.sizes in
    let shows1 = c.in_ok-mark_file.ensures.reads.same disk shows in
    let top : IsFileGrammar s (held disk c.args.tree.now.top) = (c.in_ok-mark_file.ensures.marked disk s shows (sym c.requires.size) c.requires.top).1 in
    let one : t 1 ≡ held disk i = own_is c.sound_files_read_as_held.ensures c.inodes_are_what_their_bytes_spell.ensures.spelled s disk r c.args.tree.now 1 i same sizes is top
    (omega arith) (omega (arith, sizes.least_inodes)) (if_ok (IsInode s) fault c.own_inode.result i c.in_ok-inode.ensures c.own_inode.ensures.is)
    (if_ok (λ (x : Inode). inode_bytes_at (file_block disk c.args.tree.now.file) 1 ≡ inode_bytes x) fault c.own_inode.result i c.in_ok-inode.ensures (c.own_inode.ensures.spelled disk shows1)) in
    passes_residual (λ (_ : Vec ℕ Global). Unit {0}) _ (TellsOut r t) c.from_residual-in_err-tree.result _ c.from_residual-in_err-tree.ensures.1
    (passes_or_fault (λ (_ : Vec ℕ Global). Unit {0}) (TellsOut r t) (faults.Tree tree_faults.InodeMap) c.load_numbers.result _ c.in_err-tree.ensures (λ damaged. (
      tt,
      λ grammar within.
          let known : IsTreeGrammar s t = subst (λ (x : Sizes). IsTreeGrammar x t) same grammar in
          let count : g.B.Blocks.count c.own_inode.new.blocks ≡ s.blocks = c.own_inode.ensures.reads.count ∙ c.in_ok-mark_file.ensures.reads.count ∙ c.requires.size in
          c.load_numbers.ensures.damaged disk (c.own_inode.ensures.reads.same disk shows1) damaged
          (λ k. map_paths c.sound_files_have_sound_paths.ensures s disk i (t 1) (g.B.Blocks.count c.own_inode.new.blocks) k one (known.files 1) count)
          (map_whole c.readable_files_are_whole.ensures s disk i (t 1) one (known.files 1) known.readable)
          (map_reads c.files_without_holes_are_stored.ensures s disk i (t 1) one (known.files 1) known.inode_map)
          (subst (IsInodeMap 0 s.inodes) (sym (map_bytes c.sound_files_read_as_held.ensures s disk i (t 1) one (known.files 1)))
          (is_inode_map s.inodes (content_bytes (content_of (t 1))) known.numbers)),
    )))

pub returns-in_err-inode-2-clause-reads : goal.returns-in_err-inode-2-clause-reads
returns-in_err-inode-2-clause-reads g c =
    looks_more _ (looked_more (looked c.in_ok-mark_file.ensures.reads) (looked_more (looked_of g.met.B.Blocks.reads_nothing g.met.B.UncachedReads.grows c.own_inode.ensures.reads)
    (looked_of g.met.B.Blocks.reads_nothing g.met.B.UncachedReads.grows c.load_numbers.ensures.reads)))
    (looks_residual c.from_residual-in_err-inode-2.result c.from_residual-in_err-inode-2.ensures.1
    (looks_or_fault (faults.Tree (tree_faults.Inode 2)) c.own_inode-2.result _ c.in_err-inode-2.ensures (looks_of g.met.B.Blocks.reads_nothing g.met.B.UncachedReads.grows c.own_inode-2.ensures.reads)))

pub returns-in_err-inode-2-clause-others : goal.returns-in_err-inode-2-clause-others
returns-in_err-inode-2-clause-others g c = λ k other. c.in_ok-mark_file.ensures.keeps.others k (λ bit. other ((c.bit.ensures k).0 bit))

pub returns-in_err-inode-2-clause-opened : goal.returns-in_err-inode-2-clause-opened
returns-in_err-inode-2-clause-opened g c = λ disk r shows root same is unmarked none.
    let t = tree_in (whole disk r) c.args.tree.now.plane in
    let sizes : AreSizes c.args.geometry = subst AreSizes same root.head.sizes in
    let shows3 = c.load_numbers.ensures.reads.same disk (c.own_inode.ensures.reads.same disk (c.in_ok-mark_file.ensures.reads.same disk shows)) in
    passes_residual (λ (_ : Inode). Unit {0}) _ (TellsOut r t) c.from_residual-in_err-inode-2.result _ c.from_residual-in_err-inode-2.ensures.1
    (passes_or_fault (λ (_ : Inode). Unit {0}) (TellsOut r t) (faults.Tree (tree_faults.Inode 2)) c.own_inode-2.result _ c.in_err-inode-2.ensures (λ damaged. (
      tt,
      λ grammar within.
          let known : IsTreeGrammar c.args.geometry t = subst (λ (s : Sizes). IsTreeGrammar s t) same grammar in
          own_there c.sound_files_read_as_held.ensures c.based_trees_are_sound.ensures.at c.args.geometry disk r c.args.tree.now 2 (g.B.Blocks.count c.load_numbers.new.blocks) kinds.BlockMap is known
          (c.load_numbers.ensures.reads.count ∙ c.own_inode.ensures.reads.count ∙ c.in_ok-mark_file.ensures.reads.count ∙ c.requires.size) (omega arith) (omega (arith, sizes.least_inodes)) (known.kinds 2)
          (c.own_inode-2.ensures.damaged disk shows3 damaged),
    )))

pub returns-in_err-_map-clause-reads : goal.returns-in_err-_map-clause-reads
returns-in_err-_map-clause-reads g c =
    looks_more _ (looked_more (looked c.in_ok-mark_file.ensures.reads) (looked_more (looked_of g.met.B.Blocks.reads_nothing g.met.B.UncachedReads.grows c.own_inode.ensures.reads)
    (looked_more (looked_of g.met.B.Blocks.reads_nothing g.met.B.UncachedReads.grows c.load_numbers.ensures.reads) (looked_of g.met.B.Blocks.reads_nothing g.met.B.UncachedReads.grows c.own_inode-2.ensures.reads))))
    (looks_residual c.from_residual-in_err-_map.result c.from_residual-in_err-_map.ensures.1
    (looks_or_fault (faults.Tree tree_faults.BlockMap) c.map_file.result _ c.in_err-_map.ensures (looks_of g.met.B.Blocks.reads_nothing g.met.B.UncachedReads.grows c.map_file.ensures.reads)))

pub returns-in_err-_map-clause-others : goal.returns-in_err-_map-clause-others
returns-in_err-_map-clause-others g c = λ k other. c.in_ok-mark_file.ensures.keeps.others k (λ bit. other ((c.bit.ensures k).0 bit))

pub returns-in_err-_map-clause-opened : goal.returns-in_err-_map-clause-opened
returns-in_err-_map-clause-opened g c = λ disk r shows root same is unmarked none.
    let t = tree_in (whole disk r) c.args.tree.now.plane in
    let s = c.args.geometry in
    let i = c.in_ok-inode-2.inode in
    let fault = faults.Tree (tree_faults.Inode 2) in
    let sizes : AreSizes s = subst AreSizes same root.head.sizes in
    let shows3 = c.load_numbers.ensures.reads.same disk (c.own_inode.ensures.reads.same disk (c.in_ok-mark_file.ensures.reads.same disk shows)) in
    let top : IsFileGrammar s (held disk c.args.tree.now.top) = (c.in_ok-mark_file.ensures.marked disk s shows (sym c.requires.size) c.requires.top).1 in
    let two : t 2 ≡ held disk i = own_is c.sound_files_read_as_held.ensures c.inodes_are_what_their_bytes_spell.ensures.spelled s disk r c.args.tree.now 2 i same sizes is top
    (omega arith) (omega (arith, sizes.least_inodes)) (if_ok (IsInode s) fault c.own_inode-2.result i c.in_ok-inode-2.ensures c.own_inode-2.ensures.is)
    (if_ok (λ (x : Inode). inode_bytes_at (file_block disk c.args.tree.now.file) 2 ≡ inode_bytes x) fault c.own_inode-2.result i c.in_ok-inode-2.ensures (c.own_inode-2.ensures.spelled disk shows3)) in
    passes_residual (λ (_ : File). Unit {0}) _ (TellsOut r t) c.from_residual-in_err-_map.result _ c.from_residual-in_err-_map.ensures.1
    (passes_or_fault (λ (_ : File). Unit {0}) (TellsOut r t) (faults.Tree tree_faults.BlockMap) c.map_file.result _ c.in_err-_map.ensures (λ damaged. (
      tt,
      λ grammar within.
          let known : IsTreeGrammar s t = subst (λ (x : Sizes). IsTreeGrammar x t) same grammar in
          let count : g.B.Blocks.count c.own_inode-2.new.blocks ≡ s.blocks =
          c.own_inode-2.ensures.reads.count ∙ c.load_numbers.ensures.reads.count ∙ c.own_inode.ensures.reads.count ∙ c.in_ok-mark_file.ensures.reads.count ∙ c.requires.size in
          c.map_file.ensures.damaged disk (c.own_inode-2.ensures.reads.same disk shows3) damaged
          (λ k. map_paths c.sound_files_have_sound_paths.ensures s disk i (t 2) (g.B.Blocks.count c.own_inode-2.new.blocks) k two (known.files 2) count)
          (map_reads c.files_without_holes_are_stored.ensures s disk i (t 2) two (known.files 2) known.block_map),
    )))

pub returns-clause-others : goal.returns-clause-others
returns-clause-others g c = λ k other. c.in_ok-mark_file.ensures.keeps.others k (λ bit. other ((c.bit.ensures k).0 bit))

pub returns-clause-opened : goal.returns-clause-opened
returns-clause-opened g c = λ disk r shows root same is unmarked none.
    let t = tree_in (whole disk r) c.args.tree.now.plane in
    let s = c.args.geometry in
    let k = c.args.tree.now.plane in
    let i = c.in_ok-inode.inode in
    let j = c.in_ok-inode-2.inode in
    let numbers = c.in_ok-tree.field-0 in
    let sizes : AreSizes s = subst AreSizes same root.head.sizes in
    let shows1 = c.in_ok-mark_file.ensures.reads.same disk shows in
    let shows2 = c.own_inode.ensures.reads.same disk shows1 in
    let shows3 = c.load_numbers.ensures.reads.same disk shows2 in
    let shows4 = c.own_inode-2.ensures.reads.same disk shows3 in
    let marked = c.in_ok-mark_file.ensures.marked disk s shows (sym c.requires.size) c.requires.top in
    let top : IsFileGrammar s (held disk c.args.tree.now.top) = marked.1 in
    let looks : LooksUnder (held disk c.args.tree.now.top) IsAny k 0 c.args.marks.now c.mark_file.new.marks c.args.shared.now.of c.mark_file.new.shared.of =
    marked.0 k ((c.bit.ensures k).1 refl) in
    let one : t 1 ≡ held disk i = own_is c.sound_files_read_as_held.ensures c.inodes_are_what_their_bytes_spell.ensures.spelled s disk r c.args.tree.now 1 i same sizes is top
    (omega arith) (omega (arith, sizes.least_inodes)) (if_ok (IsInode s) (faults.Tree (tree_faults.Inode 1)) c.own_inode.result i c.in_ok-inode.ensures c.own_inode.ensures.is)
    (if_ok (λ (x : Inode). inode_bytes_at (file_block disk c.args.tree.now.file) 1 ≡ inode_bytes x) (faults.Tree (tree_faults.Inode 1)) c.own_inode.result i c.in_ok-inode.ensures (c.own_inode.ensures.spelled disk shows1)) in
    let two : t 2 ≡ held disk j = own_is c.sound_files_read_as_held.ensures c.inodes_are_what_their_bytes_spell.ensures.spelled s disk r c.args.tree.now 2 j same sizes is top
    (omega arith) (omega (arith, sizes.least_inodes)) (if_ok (IsInode s) (faults.Tree (tree_faults.Inode 2)) c.own_inode-2.result j c.in_ok-inode-2.ensures c.own_inode-2.ensures.is)
    (if_ok (λ (x : Inode). inode_bytes_at (file_block disk c.args.tree.now.file) 2 ≡ inode_bytes x) (faults.Tree (tree_faults.Inode 2)) c.own_inode-2.result j c.in_ok-inode-2.ensures (c.own_inode-2.ensures.spelled disk shows3)) in
    let first : IsMapFile disk i = on_ok (IsMapFile disk i) (faults.Tree tree_faults.InodeMap) c.load_numbers.result numbers c.in_ok-tree.ensures (c.load_numbers.ensures.file disk shows2) in
    let second : IsMapFile disk j = on_ok (IsMapFile disk j) (faults.Tree tree_faults.BlockMap) c.map_file.result c.in_ok-_map._map c.in_ok-_map.ensures (c.map_file.ensures.file disk shows4) in
    let bytes : numbers.items ≡ inode_bytes_of disk i = if_ok _ (faults.Tree tree_faults.InodeMap) c.load_numbers.result numbers c.in_ok-tree.ensures (c.load_numbers.ensures.bytes disk shows2) in
    let size = if_ok _ (faults.Tree tree_faults.InodeMap) c.load_numbers.result numbers c.in_ok-tree.ensures c.load_numbers.ensures.size in
    let map : IsInodeMap 0 s.inodes numbers.items = if_ok _ (faults.Tree tree_faults.InodeMap) c.load_numbers.result numbers c.in_ok-tree.ensures c.load_numbers.ensures.map in
    let own = top_is disk r c.args.tree.now is in record {
      maps = subst (λ (x : Sizes). HasMaps x t numbers.items) (sym same) (record {
        inode_map = map_grammar c.nodes_are_where_pointers_lead.ensures.places c.sound_files_read_as_held.ensures s disk i (t 1) one first;
        block_map = map_grammar c.nodes_are_where_pointers_lead.ensures.places c.sound_files_read_as_held.ensures s disk j (t 2) two second;
        readable = map_readable s disk i (t 1) one (on_ok (IsWholeBody i.layout disk i.body i.size) (faults.Tree tree_faults.InodeMap) c.load_numbers.result numbers c.in_ok-tree.ensures (c.load_numbers.ensures.whole disk shows2));
        bytes_are = λ grammar. bytes ∙ map_bytes c.sound_files_read_as_held.ensures s disk i (t 1) one grammar;
        within = maps_within s numbers.items sizes (omega (arith, numbers.ok.0, size)) map;
      });
      inodes = subst (λ (x : Sizes). HasInodes r.version x t 0 0) (sym same) (top_inodes r.version s t (held disk c.args.tree.now.top) own top (top_small r.version s disk c.args.tree.now.top sizes c.requires.top is.kind));
      marked = top_marked t (held disk c.args.tree.now.top) k c.args.marks.now c.mark_file.new.marks c.args.shared.now.of c.mark_file.new.shared.of own looks unmarked none;
      shared_is = top_shared t (held disk c.args.tree.now.top) k c.args.marks.now c.mark_file.new.marks c.args.shared.now.of c.mark_file.new.shared.of own looks unmarked none;
    }
