use Rattle.std.proofs.Common.{◌≡◌, ℕ, ◌∙◌, ◌+◌, ◌<◌, false, true, Vec, Global, None, Some, length, set, ap, arith, inl, inr, sym, subst, ◌≤◌}
use Rattle.std.specs.Prelude.{slice_get}
use Rattle.std.proofs.lemmas.Option.{slice_get_within}
use Rattle.images.specs.Roots.{whole}
use Rattle.checker.specs.Checks.{AreFindings}
use Rattle.checker.specs.Findings.{fault_number}
use Rattle.checker.specs.Trees.{HasEnded, IsApart, IsRootOf}
use Rattle.checker.specs.Watches.{KeepsTelling}
use Rattle.checker.specs.declared.findings.Findings.{Findings}
use Rattle.checker.specs.declared.tree.Tree.{Tree}
use Rattle.checker.proofs.EachLaws.{Each, contains, each_all, each_set, get_at}
use Rattle.checker.proofs.EachTreeLaws.{Tells, is_above, set_more, tells_apart, tells_found, tells_none}
use Rattle.checker.proofs.EndLaws.{IsEnded, seen_finding}
use Rattle.checker.proofs.FindingLaws.{telling_more, telling_none}
use Rattle.checker.proofs.ReadLaws.{HasLooked, forgotten, looked, looked_more}
use Rattle.checker.proofs.RowLaws.{keeps, trees_again}
use Rattle.checker.proofs.checking.check_each.Goals as goal
use Rattle.checker.proofs.checking.check_each.Goals.{in-Some+then-are_apart, in-Some+else-are_apart, in_default}

pub loop-k-preserved : goal.loop-k-preserved
loop-k-preserved g c =
    let inv = c.loop-k.invariant in
    let k = c.loop-k.k in
    let old = c.args.trees.now.items in
    let xs = c.loop-k.trees.items in
    let x = c.index_mut-tree.result.now in
    let y = c.check_tree.new.tree in
    let first = λ (f : Findings g.row.W.Denot). f.first in
    let lt : k < length xs = omega (arith, c.loop-k-test.true, c.len-k-end.ensures, inv.each.length_is) in
    let here : slice_get xs k ≡ Some x = get_at xs k x lt c.index_mut-tree.ensures.value in
    let was : slice_get old k ≡ Some x = sym (inv.each.rest k (omega arith)) ∙ here in
    let looks : HasLooked g.B.Blocks c.loop-k.blocks c.check_tree.new.blocks = looked c.check_tree.ensures.reads in
    let forgot : HasLooked g.B.Blocks c.check_tree.new.blocks c.forget.new.self = forgotten c.forget.ensures.count c.forget.ensures.counted c.forget.ensures.reads c.forget.ensures.same in
    let Ended = IsEnded g.B.Blocks.Shows c.args.blocks.now (g.B.Blocks.count c.args.blocks.now) c.args.geometry c.args.shared.now.of in
    let ended : Ended k x y = record {
      same = c.check_tree.ensures.same;
      seen = λ disk r marks shows over seen.
          let now : IsRootOf r c.args.geometry (g.B.Blocks.count c.loop-k.blocks) = record { root = over.root; geometry = over.geometry; count = inv.look.count ∙ over.count } in
          c.in_ok-check_tree.ensures.checked disk r marks (inv.look.same disk shows) (inv.knows disk shows) now seen;
    } in
    let items : c.match-tree.trees.items ≡ set xs k y = elim c.match-tree.branch [
      | in-Some+then-are_apart w ↦ ap (λ (v : Vec Tree Global). v.items) w.trees-is
      | in-Some+else-are_apart w ↦ ap (λ (v : Vec Tree Global). v.items) w.trees-is
      | in_default w ↦ ap (λ (v : Vec Tree Global). v.items) w.trees-is
    ] in
    let tells : Tells c.goes_on.new.self.first c.match-tree.findings.first c.loop-k.are_apart c.match-tree.are_apart y = elim c.match-tree.branch [
      | in-Some+then-are_apart w ↦ inr (w.in-Some.fault, w.in-Some.is, ap first w.findings-is ∙ w.find.ensures.first, λ on. (w.if-are_apart.true, is_above w.number.result (fault_number w.in-Some.fault) (sym w.are_apart-is ∙ on) w.number.ensures))
      | in-Some+else-are_apart w ↦ inr (w.in-Some.fault, w.in-Some.is, ap first w.findings-is ∙ w.find.ensures.first, λ on. (let no : false ≡ true = sym w.if-are_apart.false ∙ sym w.are_apart-is ∙ on in absurd (cc)))
      | in_default w ↦ inl (ap first w.findings-is, w.in_default.is, w.are_apart-is)
    ] in
    let telling = KeepsTelling g.W.Watch c.goes_on.new.self in
    let told : KeepsTelling g.W.Watch c.goes_on.new.self c.match-tree.findings = elim c.match-tree.branch [
      | in-Some+then-are_apart w ↦ subst telling (sym w.findings-is) w.find.ensures.tells
      | in-Some+else-are_apart w ↦ subst telling (sym w.findings-is) w.find.ensures.tells
      | in_default w ↦ subst telling (sym w.findings-is) (telling_none c.goes_on.new.self)
    ] in
    record {
      tells = telling_more inv.tells (telling_more c.goes_on.ensures.tells told);
      look = looked_more inv.look (looked_more looks forgot);
      knows = λ disk shows. c.check_tree.ensures.known disk (inv.look.same disk shows) (inv.knows disk shows);
      each = subst (Each Ended (k + 1) old) (sym items) (each_set Ended k old xs x y inv.each lt here ended);
      found = λ disk r marks nvram shows over are found.
          tells_found c.goes_on.new.self.first c.match-tree.findings.first c.loop-k.are_apart c.match-tree.are_apart y r (whole disk r) nvram
          (subst (AreFindings r (whole disk r) nvram) (sym c.goes_on.ensures.first) (inv.found disk r marks nvram shows over are found))
          (λ fault is. seen_finding disk r marks nvram y fault (ended.seen disk r marks shows over (are.each x (contains old k x was))).0 is) tells;
      apart = λ on i t low is.
          let told = tells_apart c.goes_on.new.self.first c.match-tree.findings.first c.loop-k.are_apart c.match-tree.are_apart y tells on in
          set_more (λ (q : Tree). IsApart q.fault) xs k y lt (λ j q less at. inv.apart told.0 j q less at) told.1 i t low (ap (λ (l : _). slice_get l i) (sym items) ∙ is);
      told = λ none i t low is.
          let told = tells_none c.goes_on.new.self.first c.match-tree.findings.first c.loop-k.are_apart c.match-tree.are_apart y tells none in
          set_more (λ (q : Tree). q.fault ≡ None) xs k y lt (λ j q less at. inv.told (sym c.goes_on.ensures.first ∙ told.0) j q less at) told.1 i t low (ap (λ (l : _). slice_get l i) (sym items) ∙ is);
      all = λ none.
          let told = tells_none c.goes_on.new.self.first c.match-tree.findings.first c.loop-k.are_apart c.match-tree.are_apart y tells none in
          told.2 ∙ inv.all (sym c.goes_on.ensures.first ∙ told.0);
    }

pub returns-clause-seen : goal.returns-clause-seen
returns-clause-seen g c disk r marks shows over are =
    let each = c.loop-k.invariant.each in
    let old = c.args.trees.now.items in
    let new = c.loop-k.trees.items in
    let Ended = IsEnded g.B.Blocks.Shows c.args.blocks.now (g.B.Blocks.count c.args.blocks.now) c.args.geometry c.args.shared.now.of in
    let all : length old ≤ c.loop-k.k = omega (arith, c.len-k-end.ensures, c.loop-k-test.false) in
    trees_again r old new _ (HasEnded disk r marks) (keeps Ended c.loop-k.k old new (λ i t q so. so.same) each all) are
    (λ i t q was is known. (each_all Ended c.loop-k.k old new each all i t q was is).seen disk r marks shows over known)

pub returns-clause-told : goal.returns-clause-told
returns-clause-told g c =
    let inv = c.loop-k.invariant in
    let low : (i : ℕ) (t : Tree) → slice_get c.loop-k.trees.items i ≡ Some t → i < c.loop-k.k =
    λ i t is. omega (arith, c.len-k-end.ensures, c.loop-k-test.false, inv.each.length_is, slice_get_within c.loop-k.trees.items i t is) in
    record { apart = λ on i t is. inv.apart on i t (low i t is) is; told = λ none i t is. inv.told none i t (low i t is) is; all = inv.all }
