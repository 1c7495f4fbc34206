use Rattle.std.proofs.Common.{◌∙◌, ap}
use Rattle.layout.specs.Places.{pointed}
use Rattle.checker.specs.Rows.{block_in, picked, rows_of}
use Rattle.checker.proofs.RowsLaws.{last_is, picked_push, read_there, with_last}
use Rattle.checker.proofs.rows.Rows.read.Goals as goal

pub returns-in-Some-clause-added : goal.returns-in-Some-clause-added
returns-in-Some-clause-added g c =
    let blocks = c.args.self.now.blocks.items in
    with_last (rows_of c.args.self.now) (picked blocks c.push.new.self.items) (block_in blocks c.in-Some.same)
    (ap (picked blocks) c.in_ok-push.ensures.items ∙ picked_push blocks c.args.self.now.which.items c.in-Some.same)

pub returns-in-Some-clause-whole : goal.returns-in-Some-clause-whole
returns-in-Some-clause-whole g c = λ disk shows are yes.
    let blocks = c.args.self.now.blocks.items in
    last_is (rows_of c.args.self.now) (picked blocks c.push.new.self.items) (block_in blocks c.in-Some.same)
    (ap (picked blocks) c.in_ok-push.ensures.items ∙ picked_push blocks c.args.self.now.which.items c.in-Some.same)
    ∙ read_there blocks disk c.in-Some.same c.in-Some.ensures.0 c.args.place are c.in-Some.ensures.1 c.in-Some.ensures.2

pub returns-clause-added : goal.returns-clause-added
returns-clause-added g c = with_last (rows_of c.args.self.now) (rows_of c.add.new.self) c.in_ok-row.row.block c.in_ok-add.ensures.added

pub returns-clause-read : goal.returns-clause-read
returns-clause-read g c = λ disk shows are. c.in_ok-add.ensures.read disk are (c.in_ok-row.ensures.read disk shows)

pub returns-clause-whole : goal.returns-clause-whole
returns-clause-whole g c = λ disk shows are yes.
    last_is (rows_of c.args.self.now) (rows_of c.add.new.self) c.in_ok-row.row.block c.in_ok-add.ensures.added ∙ c.in_ok-row.ensures.read disk shows ∙ ap (pointed disk) (c.in_ok-row.ensures.whole yes)
