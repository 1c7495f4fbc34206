use Rattle.std.proofs.Common.{rules, ◌/◌, sym, subst}
use Rattle.blocktree.specs.Trees.{IsSoundAt}
use Rattle.loading.specs.Readings.{IsBodyPath}
use Rattle.loading.proofs.EndLaws.{all_stored, file_ends, map_file_is, sound_whole, starts_sound, starts_sound_at}
use Rattle.buffers.proofs.ReadLaws.{reads_err, reads_more, reads_ok}
use Rattle.loading.proofs.maps.map_file.Goals as goal

pub returns-in_err-check_stored-clause-damaged : goal.returns-in_err-check_stored-clause-damaged
returns-in_err-check_stored-clause-damaged g c = λ disk shows is paths map.
    c.in_err-check_stored.ensures.damaged disk shows (search rules)
    (starts_sound c.args.inode.layout (g.B.Blocks.count c.args.blocks.now) disk c.args.inode.body c.args.inode.size c.in_ok-file.file.tree c.in_ok-file.ensures.settled paths)
    (all_stored c.args.inode.layout disk c.args.inode.body c.args.inode.size c.in_ok-file.file.tree c.in_ok-file.ensures.settled map.stored)

pub returns-in_err-check_end-clause-damaged : goal.returns-in_err-check_end-clause-damaged
returns-in_err-check_end-clause-damaged g c = λ disk shows is paths map.
    let inode = c.args.inode in
    let tree = c.in_ok-file.file.tree in
    let count = g.B.Blocks.count c.check_stored.new.blocks in
    c.in_err-check_end.ensures.damaged disk (c.in_ok-check_stored.ensures.reads.same disk shows) (search rules)
    (subst (λ n. IsSoundAt count disk tree (n / 4096)) (sym c.in_ok-file.ensures.size)
    (starts_sound_at inode.layout count disk inode.body inode.size (inode.size / 4096) tree tree.fits.1 c.in_ok-file.ensures.settled
    (subst (λ n. IsBodyPath inode.layout n disk inode.body inode.size (inode.size / 4096)) (sym c.in_ok-check_stored.ensures.reads.count) (paths (inode.size / 4096))) map.last))
    (file_ends disk c.args.inode c.in_ok-file.file c.in_ok-file.ensures.size (c.in_ok-file.ensures.blocks disk) map.ends)

pub returns-clause-file : goal.returns-clause-file
returns-clause-file g c = λ disk shows.
    let inode = c.args.inode in
    let tree = c.in_ok-file.file.tree in
    let count = g.B.Blocks.count c.check_stored.new.blocks in
    let shows1 = c.in_ok-check_stored.ensures.reads.same disk shows in
    map_file_is disk inode c.in_ok-file.file c.in_ok-file.ensures.settled (c.in_ok-check_stored.ensures.stored disk shows)
    (sound_whole inode.layout count disk inode.body inode.size (inode.size / 4096) tree c.in_ok-file.ensures.settled c.in_ok-file.ensures.unchanged
    (λ _. subst (λ n. IsSoundAt count disk tree (n / 4096)) c.in_ok-file.ensures.size (c.in_ok-check_end.ensures.sound disk shows1)))
    c.in_ok-file.ensures.size (c.in_ok-file.ensures.blocks disk) (c.in_ok-check_end.ensures.ends disk shows1)

pub returns-in_err-check_stored-clause-reads : goal.returns-in_err-check_stored-clause-reads
returns-in_err-check_stored-clause-reads g c = reads_err c.from_residual-in_err-check_stored.result c.from_residual-in_err-check_stored.ensures.1 c.in_err-check_stored.ensures.reads

pub returns-in_err-check_end-clause-reads : goal.returns-in_err-check_end-clause-reads
returns-in_err-check_end-clause-reads g c = reads_err c.from_residual-in_err-check_end.result c.from_residual-in_err-check_end.ensures.1 (reads_more _ c.in_ok-check_stored.ensures.reads c.in_err-check_end.ensures.reads)

pub returns-clause-reads : goal.returns-clause-reads
returns-clause-reads g c = reads_ok (reads_more _ c.in_ok-check_stored.ensures.reads c.in_ok-check_end.ensures.reads)
