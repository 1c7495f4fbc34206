use Rattle.std.proofs.Common.{rules, ◌∙◌, ◌+◌, ap, List, ℕ, sym, subst, length}
use Rattle.std.proofs.lemmas.List.{length_push}
use Rattle.inode.specs.Bodies.{inode_block}
use Rattle.blockmap.specs.Parts.{Spells}
use Rattle.loading.specs.Readings.{IsBodyPath}
use Rattle.loading.proofs.EndLaws.{starts_sound_at}
use Rattle.loading.proofs.MapLaws.{part_more, unchanged_more}
use Rattle.buffers.proofs.ReadLaws.{only_more, only_ok, only_then, reads_err, reads_more}
use Rattle.loading.proofs.maps.load_parts.Goals as goal

pub loop-j-preserved : goal.loop-j-preserved
loop-j-preserved g c = record {
  read = only_then c.loop-j.invariant.read c.in_ok-location.ensures.reads;
  size = ap length c.in_ok-push.ensures.items ∙ length_push c.loop-j.parts.items c.in_ok-part.part ∙ ap (λ n. n + 1) c.loop-j.invariant.size;
  parts = λ disk shows. part_more (inode_block disk c.args.inode) c.loop-j.j c.loop-j.parts.items c.push.new.self.items c.in_ok-part.part
      (c.loop-j.invariant.parts disk shows) c.in_ok-push.ensures.items
      (subst (λ (b : List ℕ). Spells b c.in_ok-part.part.settled)
      (c.bytes.ensures disk (c.in_ok-location.ensures.reads.same disk (c.loop-j.invariant.read.same disk shows)) (c.in_ok-location.ensures.found disk (c.loop-j.invariant.read.same disk shows))
      ∙ c.in_ok-file.ensures.blocks disk c.loop-j.j) c.in_ok-part.ensures.settled);
  unchanged = unchanged_more c.loop-j.parts.items c.push.new.self.items c.in_ok-part.part c.loop-j.invariant.unchanged c.in_ok-push.ensures.items
      c.in_ok-part.ensures.same c.in_ok-part.ensures.untouched;
}

pub returns-in_err-location-clause-damaged : goal.returns-in_err-location-clause-damaged
returns-in_err-location-clause-damaged g c = λ disk shows is paths whole map.
    let inode = c.args.inode in
    let j = c.loop-j.j in
    c.in_err-location.ensures.damaged disk (c.loop-j.invariant.read.same disk (c.in_ok-file.ensures.reads.same disk shows)) (search rules)
    (starts_sound_at inode.layout (g.B.Blocks.count c.loop-j.blocks) disk inode.body inode.size j c.in_ok-file.file.tree c.in_ok-file.file.tree.fits.1 c.in_ok-file.ensures.starts
    (subst (λ n. IsBodyPath inode.layout n disk inode.body inode.size j) (sym (c.loop-j.invariant.read.count ∙ c.in_ok-file.ensures.reads.count)) (paths j)) (whole j))

pub returns-in_err-file-clause-reads : goal.returns-in_err-file-clause-reads
returns-in_err-file-clause-reads g c = reads_err c.from_residual.result c.from_residual.ensures.1 c.in_err-file.ensures.reads

pub returns-in_err-location-clause-reads : goal.returns-in_err-location-clause-reads
returns-in_err-location-clause-reads g c = reads_err c.from_residual-in_err-location.result c.from_residual-in_err-location.ensures.1 (reads_more _ c.in_ok-file.ensures.reads (only_more _ c.loop-j.invariant.read c.in_err-location.ensures.reads))

pub returns-clause-reads : goal.returns-clause-reads
returns-clause-reads g c = reads_more _ c.in_ok-file.ensures.reads (only_ok c.loop-j.invariant.read)
