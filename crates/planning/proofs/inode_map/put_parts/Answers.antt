use Rattle.std.proofs.Common.{◌∙◌, inr, refl, arith, rules}
use Rattle.planning.proofs.TellLaws.{only_more, parts_here}
use Rattle.planning.proofs.inode_map.put_parts.Goals as goal
use Rattle.planning.proofs.PromiseLaws.{keeps_none, keeps_then}

pub returns-in_err-put_part-clause-only : goal.returns-in_err-put_part-clause-only
returns-in_err-put_part-clause-only g c = λ disk shows.
    let so_far = c.loop-i.invariant in
    only_more disk c.args.file.now c.loop-i.file c.put_part.new.file c.args.bytes.now c.loop-i.i (so_far.others disk c.loop-i.i (omega arith)) (so_far.only disk shows)
    (c.put_part.ensures.only disk (so_far.read.same disk shows))

pub loop-i-preserved : goal.loop-i-preserved
loop-i-preserved g c =
    let so_far = c.loop-i.invariant in
    record {
      read = search rules;
      file = keeps_then so_far.file c.put_part.ensures.file;
      here = λ disk shows i k small below. parts_here disk c.loop-i.file c.put_part.new.file c.args.bytes.now c.loop-i.i (so_far.here disk shows) (c.in_ok-put_part.ensures.here disk (so_far.read.same disk shows))
          (c.in_ok-put_part.ensures.others disk) i k small below;
      only = λ disk shows. only_more disk c.args.file.now c.loop-i.file c.put_part.new.file c.args.bytes.now c.loop-i.i (so_far.others disk c.loop-i.i (omega arith)) (so_far.only disk shows)
          (c.put_part.ensures.only disk (so_far.read.same disk shows));
      others = λ disk j le. c.in_ok-put_part.ensures.others disk j (λ is. absurd (omega (arith, is, le))) ∙ so_far.others disk j (omega (arith, le));
    }

pub loop-i-init : goal.loop-i-init
loop-i-init g c = record {
  read = search rules;
  file = keeps_none c.args.file.now;
  here = λ disk shows i k small below. absurd (omega (arith, below));
  only = λ disk shows j is. inr is;
  others = λ disk j le. refl;
}

pub returns-in_err-put_part-clause-file : goal.returns-in_err-put_part-clause-file
returns-in_err-put_part-clause-file g c = keeps_then c.loop-i.invariant.file c.put_part.ensures.file

pub returns-clause-file : goal.returns-clause-file
returns-clause-file g c = c.loop-i.invariant.file
