use Rattle.std.proofs.Common.{rules, ◌≡◌, ◌∙◌, ◌*◌, ◌/◌, length, subst, arith}
use Rattle.model.proofs.ListLaws.{whole_again}
use Rattle.blocktree.specs.Trees.{IsSoundAt}
use Rattle.inode.specs.Files.{byte_at}
use Rattle.loading.proofs.EndLaws.{part_whole}
use Rattle.loading.proofs.maps.read_all.Goals as goal

pub returns-clause-sound : goal.returns-clause-sound
returns-clause-sound g c = λ disk shows i lt.
    let long : length c.read_at.new.out ≡ c.args.file.now.size = search rules in
    let at : 4096 * i / 4096 ≡ i = omega arith in
    subst (IsSoundAt (g.B.Blocks.count c.args.blocks.now) disk c.args.file.now.tree) at
    (c.in_ok-read_at.ensures.sound disk shows (4096 * i) (omega arith) (omega (arith, lt, long)))

pub returns-clause-bytes : goal.returns-clause-bytes
returns-clause-bytes g c = λ disk shows.
    let long : length c.read_at.new.out ≡ c.in_ok-bytes.bytes.len = search rules in
    let size : length c.read_at.new.out ≡ c.args.file.now.size = search rules in
    whole_again c.read_at.new.out c.in_ok-bytes.bytes.items c.in_ok-bytes.bytes.len long
    ∙ part_whole (byte_at disk c.args.file.now) c.args.file.now.size c.read_at.new.out size (c.in_ok-read_at.ensures.bytes disk shows)
