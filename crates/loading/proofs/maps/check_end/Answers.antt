use Rattle.std.proofs.Common.{rules, ◌≡◌, ◌/◌, true, sym, subst}
use Rattle.blocktree.specs.Trees.{IsSoundAt}
use Rattle.inode.specs.Files.{file_block}
use Rattle.loading.proofs.EndLaws.{block_ends, ends_block, not_both}
use Rattle.loading.proofs.maps.check_end.Goals as goal

pub returns-in_err-location-clause-damaged : goal.returns-in_err-location-clause-damaged
returns-in_err-location-clause-damaged g c = λ disk shows is sound ends.
    c.in_err-location.ensures.damaged disk shows (search rules)
    (subst (λ n. IsSoundAt (g.B.Blocks.count c.args.blocks.now) disk c.args.file.now.tree (n / 4096)) (sym c.size-size.ensures.value) sound)

pub returns-then-is_zero_from-clause-sound : goal.returns-then-is_zero_from-clause-sound
returns-then-is_zero_from-clause-sound g c = λ disk shows.
    subst (λ n. IsSoundAt (g.B.Blocks.count c.args.blocks.now) disk c.args.file.now.tree (n / 4096)) c.size-size.ensures.value (c.in_ok-location.ensures.sound disk shows)

pub returns-then-is_zero_from-clause-ends : goal.returns-then-is_zero_from-clause-ends
returns-then-is_zero_from-clause-ends g c = λ disk shows p past here.
    ends_block (file_block disk c.args.file.now) c.bytes.result.now c.args.file.now.size c.size-size.result p c.size-size.ensures.value
    (c.bytes.ensures disk (c.in_ok-location.ensures.reads.same disk shows) (c.in_ok-location.ensures.found disk shows))
    ((c.is_zero_from.ensures).0 c.if-is_zero_from.true) past here

pub returns-else-is_zero_from-clause-damaged : goal.returns-else-is_zero_from-clause-damaged
returns-else-is_zero_from-clause-damaged g c = λ disk shows is sound ends.
    let zero : c.is_zero_from.result ≡ true = (c.is_zero_from.ensures).1 (block_ends (file_block disk c.args.file.now) c.bytes.result.now c.args.file.now.size c.size-size.result c.size-size.ensures.value
    (c.bytes.ensures disk (c.in_ok-location.ensures.reads.same disk shows) (c.in_ok-location.ensures.found disk shows)) ends) in
    not_both c.is_zero_from.result zero c.if-is_zero_from.false
