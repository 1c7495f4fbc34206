use Rattle.std.proofs.Common.{rules, ◌≡◌, ◌∙◌, ℕ, subst, sym}
use Rattle.std.specs.Int.{div_ceil}
use Rattle.layout.specs.declared.TheConstants.{INODES_PER_BLOCK}
use Rattle.checker.specs.Rows.{ArePlacesOfTrees, AreSeenTo}
use Rattle.checker.proofs.ReadLaws.{forgotten, looked, looked_more}
use Rattle.checker.proofs.RowLaws.{marked_more, marked_none}
use Rattle.checker.proofs.RowReads.{places_kept}
use Rattle.checker.proofs.numbers.check_numbers.Goals as goal

pub returns-in_err-places-clause-marked : goal.returns-in_err-places-clause-marked
returns-in_err-places-clause-marked g c = marked_none c.args.trees.now.items c.args.marks.now c.args.shared.now.of

pub returns-in_err-check_block-clause-marked : goal.returns-in_err-check_block-clause-marked
returns-in_err-check_block-clause-marked g c = marked_more c.loop-i.invariant.marked c.check_block.ensures.marked

pub loop-i-preserved : goal.loop-i-preserved
loop-i-preserved g c = record {
  looked = looked_more c.loop-i.invariant.looked (looked_more (looked c.check_block.ensures.reads)
      (forgotten c.forget.ensures.count c.forget.ensures.counted c.forget.ensures.reads c.forget.ensures.same));
  marked = marked_more c.loop-i.invariant.marked c.check_block.ensures.marked;
  places = λ disk shows.
      subst (λ (n : ℕ). ArePlacesOfTrees n disk c.check_block.new.trees.items c.in_ok-places.places.items) (sym (c.forget.ensures.count ∙ c.check_block.ensures.reads.count))
      (places_kept _ disk c.loop-i.trees.items c.check_block.new.trees.items c.in_ok-places.places.items c.check_block.ensures.marked.trees (c.loop-i.invariant.places disk shows));
  seen = λ disk shows seen.
      c.in_ok-check_block.ensures.seen disk (c.loop-i.invariant.looked.same disk shows) (c.loop-i.invariant.places disk shows) (c.loop-i.invariant.seen disk shows seen);
}

pub returns-clause-seen : goal.returns-clause-seen
returns-clause-seen g c = λ disk shows seen.
    let all : c.loop-i.i ≡ div_ceil c.args.root.now.geometry.inodes INODES_PER_BLOCK = search rules in
    subst (λ (n : ℕ). AreSeenTo disk c.args.root.now n c.loop-i.marks c.loop-i.shared.of c.loop-i.trees.items) all (c.loop-i.invariant.seen disk shows seen)
