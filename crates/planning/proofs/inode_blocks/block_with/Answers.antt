use Rattle.std.proofs.Common.{◌≡◌, length, refl, ap, sym, ◌∙◌, rules, arith}
use Rattle.layout.specs.Inode.{inode_bytes}
use Rattle.planning.proofs.inode_blocks.block_with.Goals as goal
use Rattle.layout.proofs.WritingLaws.{wrote_all}
use Rattle.inode.proofs.PutLaws.{put_is}

pub returns-clause-put : goal.returns-clause-put
returns-clause-put g c = λ disk shows.
    let spelled : c.write.new.out ≡ inode_bytes c.args.inode.now = wrote_all _ _ _ _ c.write.ensures.wrote refl in
    let size : length c.in_ok-block.block ≡ 4096 = search rules in
    let long : length c.write.new.out ≡ 192 = (let said = c.write.ensures.wrote.length_is in omega (arith, ap length spelled)) in
    c.in_ok-shared.ensures ∙ put_is _ c.in_ok-block.block _ _ _ _ (c.in_ok-block.ensures.bytes disk shows) spelled size c.put.ensures.length (omega arith) c.put.ensures.bytes

pub returns-clause-whole : goal.returns-clause-whole
returns-clause-whole g c = λ disk shows. (let size : length c.in_ok-block.block ≡ 4096 = search rules in ap length (sym (c.in_ok-block.ensures.bytes disk shows)) ∙ size)
