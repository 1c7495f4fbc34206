use Rattle.std.proofs.Common.{◌≡◌, inl, inr, ℕ, sym, subst, ◌∙◌, arith}
use Rattle.std.specs.Prelude.{slice_index_or}
use Rattle.std.proofs.lemmas.Bool.{cases_eq}
use Rattle.layout.specs.declared.pointer.Pointer.TheVariants.{Hole}
use Rattle.blocktree.proofs.group.Group.first.Goals as goal

pub loop-r-preserved : goal.loop-r-preserved
loop-r-preserved c =
    let so_far = c.loop-r.invariant in
    let r = c.loop-r.r in
    record {
      below = λ k lt. elim (cases_eq k r) [
        | inl e ↦ subst (λ (x : ℕ). slice_index_or c.set.new.self x Hole ≡ slice_index_or c.args.self.now x Hole) (sym e) (c.set.ensures.there ∙ c.at.ensures)
        | inr n ↦ c.set.ensures.others k n ∙ so_far.below k (omega (arith, lt, n))
      ];
      behind = λ k le. c.set.ensures.others k (λ e. omega (arith, e, le)) ∙ so_far.behind k (omega (arith, le));
    }
