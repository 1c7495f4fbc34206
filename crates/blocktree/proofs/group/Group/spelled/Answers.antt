use Rattle.std.proofs.Common.{◌≡◌, inl, inr, ℕ, sym, subst, ◌∙◌, arith}
use Rattle.std.specs.Prelude.{slice_index_or}
use Rattle.std.proofs.lemmas.Bool.{cases_eq}
use Rattle.layout.specs.Maps.{indirect_pointer}
use Rattle.layout.specs.declared.pointer.Pointer.TheVariants.{Hole}
use Rattle.blocktree.proofs.group.Group.spelled.Goals as goal

pub loop-r-preserved : goal.loop-r-preserved
loop-r-preserved c = record {
  so_far = λ k lt. elim (cases_eq k c.loop-r.r) [
    | inl e ↦ subst (λ (x : ℕ). slice_index_or c.set.new.self x Hole ≡ indirect_pointer c.args.bytes.now x) (sym e) (c.set.ensures.there ∙ c.indirect_pointer.ensures)
    | inr n ↦ c.set.ensures.others k n ∙ c.loop-r.invariant.so_far k (omega (arith, lt, n))
  ];
}
