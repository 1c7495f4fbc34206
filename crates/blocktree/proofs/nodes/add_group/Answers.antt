use Rattle.std.proofs.Common.{rules, ◌≡◌, ℕ, ◌-◌, ◌*◌, ap}
use Rattle.layout.specs.Maps.{IsIndirectBlock}
use Rattle.layout.specs.Trees.{fan_out}
use Rattle.blocktree.proofs.WalkLaws.{below_more, ends_more}
use Rattle.blocktree.proofs.nodes.add_group.Goals as goal

pub returns-clause-within : goal.returns-clause-within
returns-clause-within g c =
    let used : c.args.count - c.fan_out.result * c.args.j ≡ c.args.count - fan_out c.args.layout * c.args.j = ap (λ (f : ℕ). c.args.count - f * c.args.j) c.fan_out.ensures.value in
    let sound : IsIndirectBlock c.args.layout (g.B.Blocks.count c.args.blocks.now) (c.args.count - fan_out c.args.layout * c.args.j) c.bytes-bytes.result.now = search rules in
    let put = c.in_ok-put_group.ensures in
    below_more c.args.layout (g.B.Blocks.count c.args.blocks.now) c.args.count c.args.j c.bytes-bytes.result.now c.args.places.now c.put_group.new.places sound c.requires.within put.before put.group put.behind

pub returns-clause-end : goal.returns-clause-end
returns-clause-end g c =
    let used : c.args.count - c.fan_out.result * c.args.j ≡ c.args.count - fan_out c.args.layout * c.args.j = ap (λ (f : ℕ). c.args.count - f * c.args.j) c.fan_out.ensures.value in
    let sound : IsIndirectBlock c.args.layout (g.B.Blocks.count c.args.blocks.now) (c.args.count - fan_out c.args.layout * c.args.j) c.bytes-bytes.result.now = search rules in
    let put = c.in_ok-put_group.ensures in
    ends_more c.args.layout (g.B.Blocks.count c.args.blocks.now) c.args.count c.args.j c.bytes-bytes.result.now c.put_group.new.places sound c.requires.index put.group put.behind
