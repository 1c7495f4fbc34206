use Rattle.std.proofs.Common.{◌≡◌, length, refl, ap, arith}
use Rattle.layout.specs.Inode.{inode_bytes}
use Rattle.making.proofs.inode_file.put_inode.Goals as goal
use Rattle.layout.proofs.WritingLaws.{wrote_all}
use Rattle.inode.proofs.PutLaws.{put_is}

pub returns-clause-put : goal.returns-clause-put
returns-clause-put c =
    let spelled : c.write.new.out ≡ inode_bytes c.args.inode.now = wrote_all _ _ _ _ c.write.ensures.wrote refl in
    let long : length c.write.new.out ≡ 192 = (let said = c.write.ensures.wrote.length_is in omega (arith, ap length spelled)) in
    put_is _ c.args.block.now _ _ _ _ refl spelled c.requires.whole c.put.ensures.length (omega arith) c.put.ensures.bytes
