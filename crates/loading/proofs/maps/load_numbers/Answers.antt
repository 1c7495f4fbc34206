use Rattle.std.proofs.Common.{rules, ◌≡◌, ◌∙◌, ◌<◌, true, sym, subst}
use Rattle.blocktree.specs.Places.{block_count}
use Rattle.loading.specs.Readings.{IsBodyPath, inode_bytes_of}
use Rattle.loading.proofs.EndLaws.{is_map_of, not_both, same_bytes, sound_whole, starts_sound_at}
use Rattle.buffers.proofs.ReadLaws.{reads_err, reads_more}
use Rattle.loading.proofs.maps.load_numbers.Goals as goal

pub returns-in_err-bytes-clause-damaged : goal.returns-in_err-bytes-clause-damaged
returns-in_err-bytes-clause-damaged g c = λ disk shows is paths whole map own.
    let inode = c.args.inode in
    c.in_err-bytes.ensures.damaged disk (c.in_ok-file.ensures.reads.same disk shows) (search rules)
    (λ i. starts_sound_at inode.layout (g.B.Blocks.count c.map_file.new.blocks) disk inode.body inode.size i c.in_ok-file.file.tree c.in_ok-file.file.tree.fits.1 c.in_ok-file.ensures.starts
    (subst (λ n. IsBodyPath inode.layout n disk inode.body inode.size i) (sym c.in_ok-file.ensures.reads.count) (paths i)) (whole i))

pub returns-then-is_inode_map-clause-whole : goal.returns-then-is_inode_map-clause-whole
returns-then-is_inode_map-clause-whole g c = λ disk shows i.
    let inode = c.args.inode in
    sound_whole inode.layout (g.B.Blocks.count c.map_file.new.blocks) disk inode.body inode.size i c.in_ok-file.file.tree c.in_ok-file.ensures.starts c.in_ok-file.ensures.unchanged
    (λ lt. c.in_ok-bytes.ensures.sound disk (c.in_ok-file.ensures.reads.same disk shows) i (subst (λ n. i < block_count n) (sym c.in_ok-file.ensures.size) lt))

pub returns-clause-damaged : goal.returns-clause-damaged
returns-clause-damaged g c = λ disk shows is paths whole map own.
    let read : c.in_ok-bytes.bytes.items ≡ inode_bytes_of disk c.args.inode =
    c.in_ok-bytes.ensures.bytes disk (c.in_ok-file.ensures.reads.same disk shows) ∙ same_bytes disk c.args.inode c.in_ok-file.file c.in_ok-file.ensures.size (c.in_ok-file.ensures.blocks disk) in
    let told : c.is_inode_map.result ≡ true = (c.is_inode_map.ensures).1
    (is_map_of c.inodes-inodes.result c.args.geometry.inodes c.deref.result.now c.in_ok-bytes.bytes.items (inode_bytes_of disk c.args.inode) c.inodes-inodes.ensures.value c.deref.ensures.value read own) in
    not_both c.is_inode_map.result told c.if-is_inode_map.false

pub returns-in_err-file-clause-reads : goal.returns-in_err-file-clause-reads
returns-in_err-file-clause-reads g c = reads_err c.from_residual.result c.from_residual.ensures.1 c.in_err-file.ensures.reads

pub returns-in_err-bytes-clause-reads : goal.returns-in_err-bytes-clause-reads
returns-in_err-bytes-clause-reads g c = reads_err c.from_residual-in_err-bytes.result c.from_residual-in_err-bytes.ensures.1 (reads_more _ c.in_ok-file.ensures.reads c.in_err-bytes.ensures.reads)
