use Rattle.std.proofs.Common.{ℕ, rules, ◌≡◌, ◌∙◌, ap, subst, sym, arith}
use Rattle.layout.specs.Limits.{Sizes}
use Rattle.layout.specs.declared.inode.Inode.{Inode}
use Rattle.layout.specs.declared.root.Root.{Root}
use Rattle.images.specs.Roots.{tree, whole}
use Rattle.loading.specs.Images.{AreInodesIn, IsReadableIn, inodes_of}
use Rattle.loading.proofs.LoadLaws as laws
use Rattle.loading.proofs.under_root.load_inodes.Goals as goal

abbrev with_tree : Root → ℕ → Sizes → Inode → Root
with_tree r v s f = record r { version = v; geometry = s; inode_file = f }

same_root : (r : Root) (v : ℕ) (s : Sizes) (f : Inode) → r.version ≡ v → r.geometry ≡ s → r.inode_file ≡ f → r ≡ with_tree r v s f
same_root r v s f version sizes top =
    ap (λ (x : ℕ). with_tree r x r.geometry r.inode_file) version ∙ ap (λ (x : Sizes). with_tree r v x r.inode_file) sizes ∙ ap (with_tree r v s) top

pub returns-in_err-inode_map-clause-loads : goal.returns-in_err-inode_map-clause-loads
returns-in_err-inode_map-clause-loads g c = λ detail disk shows root version sizes top readable.
    let r = with_tree root c.args.version c.args.geometry c.args.inode_file in
    let ready = subst (IsReadableIn detail disk) (same_root root c.args.version c.args.geometry c.args.inode_file version sizes top) readable in
    laws.refused _ c.from_residual-in_err-inode_map.result (search rules) (λ is.
    laws.no_inode_map c.trees_read_as_held.ensures disk r c.blocks-2.ensures.within ready c.in_ok-file.file c.in_ok-file.ensures.blocks c.in_ok-file.ensures.settled
    (g.B.Blocks.count c.args.blocks.now) c.requires.count
    (c.in_err-inode_map.ensures.damaged disk shows (search rules)))

pub returns-in_err-numbers-clause-loads : goal.returns-in_err-numbers-clause-loads
returns-in_err-numbers-clause-loads g c = λ detail disk shows root version sizes top readable.
    let r = with_tree root c.args.version c.args.geometry c.args.inode_file in
    let ready = subst (IsReadableIn detail disk) (same_root root c.args.version c.args.geometry c.args.inode_file version sizes top) readable in
    let within = c.blocks-2.ensures.within in
    let count : g.B.Blocks.count c.own_inode.new.blocks ≡ r.geometry.blocks = c.in_ok-inode_map.ensures.reads.count ∙ c.requires.count in
    let there = laws.memory_is c.trees_read_as_held.ensures disk r within ready c.in_ok-file.file c.in_ok-file.ensures.blocks c.in_ok-file.ensures.settled
    1 c.in_ok-inode_map.inode_map c.in_ok-inode_map.ensures.is (omega arith) (omega arith) (c.in_ok-inode_map.ensures.spelled disk shows) in
    laws.refused _ c.from_residual-in_err-numbers.result (search rules) (λ is.
    c.in_err-numbers.ensures.damaged disk (c.in_ok-inode_map.ensures.reads.same disk shows) (search rules)
    (λ k. laws.map_paths c.trees_read_as_held.ensures disk r within ready 1 (g.B.Blocks.count c.own_inode.new.blocks) k c.in_ok-inode_map.inode_map count there)
    (laws.numbers_whole c.trees_read_as_held.ensures disk r within ready c.in_ok-inode_map.inode_map there)
    (laws.numbers_file c.trees_read_as_held.ensures disk r within ready c.in_ok-inode_map.inode_map there)
    (laws.numbers_are c.trees_read_as_held.ensures disk r within ready c.in_ok-inode_map.inode_map there))

pub returns-clause-loads : goal.returns-clause-loads
returns-clause-loads g c = λ detail disk shows root version sizes top readable.
    let r = with_tree root c.args.version c.args.geometry c.args.inode_file in
    let same = same_root root c.args.version c.args.geometry c.args.inode_file version sizes top in
    let ready = subst (IsReadableIn detail disk) same readable in
    let within = c.blocks-2.ensures.within in
    let there = laws.memory_is c.trees_read_as_held.ensures disk r within ready c.in_ok-file.file c.in_ok-file.ensures.blocks c.in_ok-file.ensures.settled
    1 c.in_ok-inode_map.inode_map c.in_ok-inode_map.ensures.is (omega arith) (omega arith) (c.in_ok-inode_map.ensures.spelled disk shows) in
    subst (λ (x : Root). AreInodesIn detail disk c.args.version c.args.geometry (whole disk x).active c.new.result) (sym same)
    (laws.inodes_loaded c.trees_read_as_held.ensures disk r within ready c.in_ok-file.file c.in_ok-file.ensures.blocks c.in_ok-file.ensures.settled
    c.in_ok-inode_map.inode_map c.in_ok-numbers.numbers.items c.new.result there (c.in_ok-numbers.ensures.bytes disk (c.in_ok-inode_map.ensures.reads.same disk shows))
    c.new.ensures.version c.new.ensures.geometry c.new.ensures.file c.new.ensures.map c.new.ensures.unchanged
    (λ v are maps holds. c.new.ensures.volume _ c.args.geometry.blocks disk (inodes_of (tree disk c.args.geometry.inodes c.args.inode_file)) v are maps holds))
