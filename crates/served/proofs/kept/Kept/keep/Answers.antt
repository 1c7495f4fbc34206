use Rattle.std.proofs.Common.{◌≡◌, arith, length}
use Rattle.served.specs.Replying.{spelled}
use Rattle.served.specs.declared.kept.Place.{Place}
use Rattle.served.proofs.KeptLaws.{view_placed, view_unplaced, within_placed, within_unplaced}
use Rattle.served.proofs.kept.Kept.keep.Goals as goal

pub invariant_of-self-in-Err-push : goal.invariant_of-self-in-Err-push
invariant_of-self-in-Err-push c =
    within_unplaced c.self.inside.bytes.items (spelled c.args.unique c.args.answer.now) c.write_answer.new.out.items c.self.inside.places.items c.push.new.self.items c.args.self.now
    c.in-Ok.ensures.ok c.self.invariant c.self.view_is c.in-Err-push.ensures.items

pub returns-in-Err-push-clause-err : goal.returns-in-Err-push-clause-err
returns-in-Err-push-clause-err c =
    view_unplaced c.self.inside.bytes.items (spelled c.args.unique c.args.answer.now) c.write_answer.new.out.items c.self.inside.places.items c.push.new.self.items c.args.self.now
    c.in-Ok.ensures.ok c.self.invariant c.self.view_is c.in-Err-push.ensures.items

pub invariant_of-self-2 : goal.invariant_of-self-2
invariant_of-self-2 c =
    let p : Place = record { unique = c.args.unique; begin = c.len-begin.result; end = c.len-end.result } in
    let begin : c.len-begin.result ≡ length c.self.inside.bytes.items = omega (arith, c.len-begin.ensures, c.self.inside.bytes.ok.0) in
    let end : c.len-end.result ≡ length c.write_answer.new.out.items = omega (arith, c.len-end.ensures, c.write_answer.new.out.ok.0) in
    within_placed c.self.inside.bytes.items (spelled c.args.unique c.args.answer.now) c.write_answer.new.out.items c.self.inside.places.items c.push.new.self.items c.args.self.now
    c.in-Ok.ensures.ok c.self.invariant c.self.view_is p begin end c.in-Ok-push.ensures.items

pub returns-clause-ok : goal.returns-clause-ok
returns-clause-ok c =
    let p : Place = record { unique = c.args.unique; begin = c.len-begin.result; end = c.len-end.result } in
    let begin : c.len-begin.result ≡ length c.self.inside.bytes.items = omega (arith, c.len-begin.ensures, c.self.inside.bytes.ok.0) in
    let end : c.len-end.result ≡ length c.write_answer.new.out.items = omega (arith, c.len-end.ensures, c.write_answer.new.out.ok.0) in
    view_placed c.self.inside.bytes.items (spelled c.args.unique c.args.answer.now) c.write_answer.new.out.items c.self.inside.places.items c.push.new.self.items c.args.self.now
    c.in-Ok.ensures.ok c.self.invariant c.self.view_is p begin end c.in-Ok-push.ensures.items
