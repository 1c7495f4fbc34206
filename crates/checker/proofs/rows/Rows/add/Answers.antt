use Rattle.std.proofs.Common.{◌≡◌, length, arith}
use Rattle.std.proofs.lemmas.List.Elements.{All-push}
use Rattle.layout.specs.Places.{pointed}
use Rattle.checker.specs.declared.rows.Row.{Row}
use Rattle.checker.proofs.RowsLaws.{picked_more}
use Rattle.checker.proofs.rows.Rows.add.Goals as goal

pub returns-clause-added : goal.returns-clause-added
returns-clause-added c =
    let last : c.len-last.result ≡ length c.args.self.now.blocks.items = omega (arith, c.len-last.ensures, c.args.self.now.blocks.ok.0) in
    rw (c.in_ok-push.ensures.items, c.in_ok-push-2.ensures.items, last) (picked_more c.args.self.now.blocks.items c.args.row c.args.self.now.which.items c.args.self.now.within)

pub returns-clause-read : goal.returns-clause-read
returns-clause-read c = λ disk are is. rw (c.in_ok-push.ensures.items) (All-push (λ (r : Row). r.block ≡ pointed disk r.place) c.args.self.now.blocks.items c.args.row are is)
