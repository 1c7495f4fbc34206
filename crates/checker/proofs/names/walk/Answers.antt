use Rattle.std.proofs.Common.{◌≡◌, ◌∙◌, ◌/◌, ℕ, List, [], ◌∷◌, ◌++◌, length, None, Some, refl, sym, ap, subst, arith}
use Rattle.std.specs.Prelude.{slice_get}
use Rattle.std.proofs.lemmas.Option.{slice_get_read, slice_get_within}
use Rattle.layout.specs.Pointer.{PointsBelow}
use Rattle.images.specs.Roots.{whole}
use Rattle.checker.specs.Findings.{IsTreeFinding, tree_in}
use Rattle.checker.specs.Names.{AreWithin, IsWalked}
use Rattle.checker.specs.Walks.{LooksInto}
use Rattle.checker.specs.declared.error.CheckError.TheVariants as check
use Rattle.checker.proofs.HaltLaws.{looks_failed, looks_more, looks_residual, passes_residual}
use Rattle.checker.proofs.HeldLaws.{tree_later}
use Rattle.checker.proofs.ReadLaws.{looked, looked_more, looked_none, looks_ok}
use Rattle.checker.proofs.RowReads.{leads_at}
use Rattle.checker.proofs.StepLaws.{only_looked, passes_halt, root_within, way_first}
use Rattle.checker.proofs.names.walk.Goals as goal

pub returns-in_err-push-clause-reads : goal.returns-in_err-push-clause-reads
returns-in_err-push-clause-reads g c = looks_residual {T = Unit {0}} c.from_residual.result c.from_residual.ensures.1 (looks_failed (looked_none _) (λ is. cc))

pub returns-in_err-push-clause-walked : goal.returns-in_err-push-clause-walked
returns-in_err-push-clause-walked g c = λ disk r shows at leads table unnamed. passes_halt _ _ c.from_residual.result check.NoMemory c.from_residual.ensures.1

pub loop-next-init : goal.loop-next-init
loop-next-init g c =
    let found : c.push.new.self.items ≡ 3 ∷ [] = c.in_ok-push.ensures.items ∙ ap (λ (xs : List ℕ). xs ++ 3 ∷ []) c.new-found.ensures.items in
    record {
      looked = looked_none _;
      length_is = omega arith;
      within = subst (AreWithin c.args.geometry.inodes) (sym found) (root_within c.args.geometry.inodes (omega (arith, c.inodes.ensures.within.least_inodes)));
      below = omega arith;
      few = omega arith;
      walked = λ disk r shows at leads table unnamed.
          let t = tree_in (whole disk r) c.args.tree.now.plane in (
            (λ d x. None),
            subst (λ (xs : List ℕ). LooksInto r.geometry t (λ d x. None) 0 xs c.args.table.now.items) (sym found)
                (way_first r.geometry t c.args.table.now.items table unnamed at.grammar.root),
          );
    }

pub look_into-requires : goal.look_into-requires
look_into-requires g c =
    let next = c.loop-next.next in
    let at : slice_get c.loop-next.found.items next ≡ Some c.index-directory.result.now = slice_get_read c.loop-next.found.items (length c.loop-next.found.items) next c.index-directory.result.now refl (omega arith) c.index-directory.ensures in
    let within = c.loop-next.invariant.within next c.index-directory.result.now at in
    record {
      low = within.0;
      high = within.1;
      below = subst (λ (n : ℕ). PointsBelow n c.at-place.result) (sym c.loop-next.invariant.looked.count) (subst (PointsBelow _) (sym c.at-place.ensures) (c.requires.below (c.index-directory.result.now / 21)));
      table = omega arith;
    }

pub loop-next-preserved : goal.loop-next-preserved
loop-next-preserved g c =
    let so_far = c.loop-next.invariant in
    let next = c.loop-next.next in
    let goes = c.in_ok-size.ensures.goes in
    let there : slice_get c.loop-next.found.items next ≡ Some c.index-directory.result.now = slice_get_read c.loop-next.found.items (length c.loop-next.found.items) next c.index-directory.result.now refl (omega arith) c.index-directory.ensures in
    let low = slice_get_within c.look_into.new.found.items next c.index-directory.result.now (goes.keeps next c.index-directory.result.now there) in
    record {
      looked = looked_more so_far.looked (looked_more (looked c.in_ok-size.ensures.reads) (only_looked c.forget_over-kept.ensures.reads));
      length_is = goes.length_is ∙ so_far.length_is;
      within = subst (λ (k : ℕ). AreWithin k c.look_into.new.found.items) so_far.length_is (goes.within (subst (λ (k : ℕ). AreWithin k c.loop-next.found.items) (sym so_far.length_is) so_far.within));
      below = omega (arith, low);
      few = c.forget_over-kept.ensures.few;
      walked = λ disk r shows at leads table unnamed.
          let before = so_far.walked disk r shows at leads table unnamed in
          c.in_ok-size.ensures.looked disk r before.0 next (so_far.looked.same disk shows) (tree_later so_far.looked.count at) before.1 there (leads_at disk r c.args.tree.now c.args.places.now c.index-directory.result.now c.at-place.result c.at-place.ensures leads);
    }

pub returns-in_err-size-clause-reads : goal.returns-in_err-size-clause-reads
returns-in_err-size-clause-reads g c =
    looks_more _ c.loop-next.invariant.looked (looks_residual c.from_residual-in_err-size.result c.from_residual-in_err-size.ensures.1 c.in_err-size.ensures.reads)

pub returns-in_err-size-clause-walked : goal.returns-in_err-size-clause-walked
returns-in_err-size-clause-walked g c = λ disk r shows at leads table unnamed.
    let t = tree_in (whole disk r) c.args.tree.now.plane in
    let so_far = c.loop-next.invariant in
    let next = c.loop-next.next in
    let before = so_far.walked disk r shows at leads table unnamed in
    let there : slice_get c.loop-next.found.items next ≡ Some c.index-directory.result.now = slice_get_read c.loop-next.found.items (length c.loop-next.found.items) next c.index-directory.result.now refl (omega arith) c.index-directory.ensures in
    passes_residual (λ (_ : ℕ). Unit {0}) _ (IsTreeFinding r t) c.from_residual-in_err-size.result _ c.from_residual-in_err-size.ensures.1
    (c.in_err-size.ensures.looked disk r before.0 next (so_far.looked.same disk shows) (tree_later so_far.looked.count at) before.1 there (leads_at disk r c.args.tree.now c.args.places.now c.index-directory.result.now c.at-place.result c.at-place.ensures leads))

pub returns-clause-reads : goal.returns-clause-reads
returns-clause-reads g c = looks_ok c.loop-next.invariant.looked

pub returns-clause-walked : goal.returns-clause-walked
returns-clause-walked g c = λ disk r shows at leads table unnamed.
    let t = tree_in (whole disk r) c.args.tree.now.plane in
    let so_far = c.loop-next.invariant in
    let done = so_far.walked disk r shows at leads table unnamed in
    let all : c.loop-next.next ≡ length c.loop-next.found.items = omega (arith, so_far.below) in (
      done.0,
      c.loop-next.found.items,
      subst (λ (k : ℕ). IsWalked r.geometry t done.0 k c.loop-next.found.items c.loop-next.table.items) all
          (record { counted = done.1.way.counted; names = done.1.names }),
    )

pub loop-next-smaller : goal.loop-next-smaller
loop-next-smaller g c = omega (arith, c.in_ok-size.ensures.goes.fewer)
