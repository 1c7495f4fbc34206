use Rattle.std.proofs.Common.{rules, ◌≡◌, ◌∙◌, arith}
use Rattle.loading.specs.Images.{inodes_of}
use Rattle.images.specs.Roots.{tree}
use Rattle.layout.proofs.SizeLaws.{map_size}
use Rattle.loading.proofs.LoadLaws as laws
use Rattle.buffers.proofs.ReadLaws.{reads_ok, reads_more}
use Rattle.loading.proofs.Loading.{not_loaded}
use Rattle.loading.proofs.under_root.load.Goals as goal

pub returns-in_err-check_inodes : goal.returns-in_err-check_inodes
returns-in_err-check_inodes g c = not_loaded c.from_residual-in_err-check_inodes.result c.from_residual-in_err-check_inodes.ensures.1 c.in_err-check_inodes.ensures.reads (λ detail disk shows ready map.
    laws.refused _ c.from_residual-in_err-check_inodes.result (search rules) (λ is.
    c.in_err-check_inodes.ensures.damaged disk shows (search rules)
    (λ i. laws.reached c.trees_read_as_held.ensures disk c.args.root.now c.requires.root.head.sizes ready c.in_ok-file.file c.in_ok-file.ensures.blocks c.in_ok-file.ensures.settled (g.B.Blocks.count c.args.blocks.now) i c.requires.size)
    (laws.inode_blocks c.trees_read_as_held.ensures disk c.args.root.now c.requires.root.head.sizes ready c.in_ok-file.file c.in_ok-file.ensures.blocks c.in_ok-file.ensures.settled)))

pub returns-in_err-inode_map : goal.returns-in_err-inode_map
returns-in_err-inode_map g c = not_loaded c.from_residual-in_err-inode_map.result c.from_residual-in_err-inode_map.ensures.1 (reads_more _ c.in_ok-check_inodes.ensures.reads c.in_err-inode_map.ensures.reads) (λ detail disk shows ready map.
    laws.refused _ c.from_residual-in_err-inode_map.result (search rules) (λ is.
    laws.no_inode_map c.trees_read_as_held.ensures disk c.args.root.now c.requires.root.head.sizes ready c.in_ok-file.file c.in_ok-file.ensures.blocks c.in_ok-file.ensures.settled
    (g.B.Blocks.count c.check_inodes.new.blocks) (c.in_ok-check_inodes.ensures.reads.count ∙ c.requires.size)
    (c.in_err-inode_map.ensures.damaged disk (c.in_ok-check_inodes.ensures.reads.same disk shows) (search rules))))

pub returns-in_err-block_map : goal.returns-in_err-block_map
returns-in_err-block_map g c = not_loaded c.from_residual-in_err-block_map.result c.from_residual-in_err-block_map.ensures.1 (reads_more _ (reads_more _ c.in_ok-check_inodes.ensures.reads c.in_ok-inode_map.ensures.reads) c.in_err-block_map.ensures.reads) (λ detail disk shows ready map.
    laws.refused _ c.from_residual-in_err-block_map.result (search rules) (λ is.
    laws.no_block_map c.trees_read_as_held.ensures disk c.args.root.now c.requires.root.head.sizes ready c.in_ok-file.file c.in_ok-file.ensures.blocks c.in_ok-file.ensures.settled
    (g.B.Blocks.count c.own_inode.new.blocks) (c.in_ok-inode_map.ensures.reads.count ∙ c.in_ok-check_inodes.ensures.reads.count ∙ c.requires.size)
    (c.in_err-block_map.ensures.damaged disk (c.in_ok-inode_map.ensures.reads.same disk (c.in_ok-check_inodes.ensures.reads.same disk shows)) (search rules))))

pub returns-in_err-numbers : goal.returns-in_err-numbers
returns-in_err-numbers g c = not_loaded c.from_residual-in_err-numbers.result c.from_residual-in_err-numbers.ensures.1 (reads_more _ (reads_more _ (reads_more _ c.in_ok-check_inodes.ensures.reads c.in_ok-inode_map.ensures.reads) c.in_ok-block_map.ensures.reads) c.in_err-numbers.ensures.reads) (λ detail disk shows ready map.
    let shows1 = c.in_ok-check_inodes.ensures.reads.same disk shows in
    let shows2 = c.in_ok-inode_map.ensures.reads.same disk shows1 in
    let shows3 = c.in_ok-block_map.ensures.reads.same disk shows2 in
    let count : g.B.Blocks.count c.own_inode-2.new.blocks ≡ c.args.root.now.geometry.blocks =
    c.in_ok-block_map.ensures.reads.count ∙ c.in_ok-inode_map.ensures.reads.count ∙ c.in_ok-check_inodes.ensures.reads.count ∙ c.requires.size in
    let there = laws.memory_is c.trees_read_as_held.ensures disk c.args.root.now c.requires.root.head.sizes ready c.in_ok-file.file c.in_ok-file.ensures.blocks c.in_ok-file.ensures.settled
    1 c.in_ok-inode_map.inode_map c.in_ok-inode_map.ensures.is (omega arith) (omega arith) (c.in_ok-inode_map.ensures.spelled disk shows1) in
    laws.refused _ c.from_residual-in_err-numbers.result (search rules) (λ is.
    c.in_err-numbers.ensures.damaged disk shows3 (search rules)
    (λ k. laws.map_paths c.trees_read_as_held.ensures disk c.args.root.now c.requires.root.head.sizes ready 1 (g.B.Blocks.count c.own_inode-2.new.blocks) k c.in_ok-inode_map.inode_map count there)
    (laws.numbers_whole c.trees_read_as_held.ensures disk c.args.root.now c.requires.root.head.sizes ready c.in_ok-inode_map.inode_map there)
    (laws.numbers_file c.trees_read_as_held.ensures disk c.args.root.now c.requires.root.head.sizes ready c.in_ok-inode_map.inode_map there)
    (laws.numbers_are c.trees_read_as_held.ensures disk c.args.root.now c.requires.root.head.sizes ready c.in_ok-inode_map.inode_map there)))

pub returns-in_err-parts : goal.returns-in_err-parts
returns-in_err-parts g c = not_loaded c.from_residual-in_err-parts.result c.from_residual-in_err-parts.ensures.1 (reads_more _ (reads_more _ (reads_more _ (reads_more _ c.in_ok-check_inodes.ensures.reads c.in_ok-inode_map.ensures.reads) c.in_ok-block_map.ensures.reads) c.in_ok-numbers.ensures.reads) c.in_err-parts.ensures.reads) (λ detail disk shows ready map.
    let shows1 = c.in_ok-check_inodes.ensures.reads.same disk shows in
    let shows2 = c.in_ok-inode_map.ensures.reads.same disk shows1 in
    let shows3 = c.in_ok-block_map.ensures.reads.same disk shows2 in
    let shows4 = c.in_ok-numbers.ensures.reads.same disk shows3 in
    let count : g.B.Blocks.count c.load_numbers.new.blocks ≡ c.args.root.now.geometry.blocks =
    c.in_ok-numbers.ensures.reads.count ∙ c.in_ok-block_map.ensures.reads.count ∙ c.in_ok-inode_map.ensures.reads.count ∙ c.in_ok-check_inodes.ensures.reads.count ∙ c.requires.size in
    let there = laws.memory_is c.trees_read_as_held.ensures disk c.args.root.now c.requires.root.head.sizes ready c.in_ok-file.file c.in_ok-file.ensures.blocks c.in_ok-file.ensures.settled
    2 c.in_ok-block_map.block_map c.in_ok-block_map.ensures.is (omega arith) (omega arith) (c.in_ok-block_map.ensures.spelled disk shows2) in
    laws.refused _ c.from_residual-in_err-parts.result (search rules) (λ is.
    c.in_err-parts.ensures.damaged disk shows4 (search rules)
    (λ k. laws.map_paths c.trees_read_as_held.ensures disk c.args.root.now c.requires.root.head.sizes ready 2 (g.B.Blocks.count c.load_numbers.new.blocks) k c.in_ok-block_map.block_map count there)
    (laws.parts_whole c.trees_read_as_held.ensures disk c.args.root.now c.requires.root.head.sizes ready c.in_ok-block_map.block_map there map)
    (laws.parts_file c.trees_read_as_held.ensures disk c.args.root.now c.requires.root.head.sizes ready c.in_ok-block_map.block_map there)))

pub returns : goal.returns
returns g c = record {
  reads = reads_ok (reads_more _ (reads_more _ (reads_more _ (reads_more _ c.in_ok-check_inodes.ensures.reads c.in_ok-inode_map.ensures.reads) c.in_ok-block_map.ensures.reads) c.in_ok-numbers.ensures.reads) c.in_ok-parts.ensures.reads);
  blocks = search rules;
  parts = search rules;
  unchanged = search rules;
  next = search rules;
  version = search rules;
  geometry = search rules;
  clean = c.new-inodes.ensures.unchanged;
  numbers = search rules;
  inodes = search rules;
  loads = λ disk shows ready map.
      let shows1 = c.in_ok-check_inodes.ensures.reads.same disk shows in
      let shows2 = c.in_ok-inode_map.ensures.reads.same disk shows1 in
      let shows3 = c.in_ok-block_map.ensures.reads.same disk shows2 in
      let shows4 = c.in_ok-numbers.ensures.reads.same disk shows3 in
      laws.loaded c.trees_read_as_held.ensures disk c.args.root.now c.requires.root.head.sizes ready c.in_ok-file.file c.in_ok-file.ensures.blocks c.in_ok-file.ensures.settled
      c.in_ok-inode_map.inode_map c.in_ok-block_map.block_map c.in_ok-numbers.numbers.items c.in_ok-parts.parts.items c.new-map.result c.new-inodes.result
      (laws.memory_is c.trees_read_as_held.ensures disk c.args.root.now c.requires.root.head.sizes ready c.in_ok-file.file c.in_ok-file.ensures.blocks c.in_ok-file.ensures.settled
      1 c.in_ok-inode_map.inode_map c.in_ok-inode_map.ensures.is (omega arith) (omega arith) (c.in_ok-inode_map.ensures.spelled disk shows1))
      (laws.memory_is c.trees_read_as_held.ensures disk c.args.root.now c.requires.root.head.sizes ready c.in_ok-file.file c.in_ok-file.ensures.blocks c.in_ok-file.ensures.settled
      2 c.in_ok-block_map.block_map c.in_ok-block_map.ensures.is (omega arith) (omega arith) (c.in_ok-block_map.ensures.spelled disk shows2))
      (map_size c.in_ok-block_map.block_map.kind c.args.root.now.geometry c.in_ok-block_map.block_map.attributes c.in_ok-block_map.block_map.links c.in_ok-block_map.block_map.size
      c.in_ok-block_map.ensures.kind c.in_ok-block_map.ensures.is.kind)
      (c.in_ok-numbers.ensures.bytes disk shows3) (c.in_ok-parts.ensures.parts disk shows4) c.in_ok-parts.ensures.unchanged
      c.new-map.ensures.parts (search rules) c.new-map.ensures.next
      c.new-inodes.ensures.version c.new-inodes.ensures.geometry c.new-inodes.ensures.file c.new-inodes.ensures.map c.new-inodes.ensures.unchanged
      (λ v are maps holds. c.new-inodes.ensures.volume _ c.args.root.now.geometry.blocks disk (inodes_of (tree disk c.args.root.now.geometry.inodes c.args.root.now.inode_file)) v are maps holds);
}
