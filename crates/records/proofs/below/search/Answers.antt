use Rattle.std.proofs.Common.{rules, ◌≡◌, ◌∙◌, ◌↔◌, ◌<◌, ℕ, Option, None, IsSome, vec_len, List, [], false, get_or, ap, sym, subst, arith}
use Rattle.std.proofs.lemmas.Bool.{false≢true}
use Rattle.std.proofs.lemmas.List.{get_or_default, nil_from_length}
use Rattle.std.proofs.lemmas.List.Elements.{All-nil, All-pop, All-same}
use Rattle.std.specs.List.{Contains}
use Rattle.layout.specs.Limits.{Sizes}
use Rattle.model.specs.Volumes.{entries}
use Rattle.paths.specs.Numbers.{AreInodeNumbers, IsInodeNumber}
use Rattle.paths.proofs.LookingUp.{not_looked}
use Rattle.paths.proofs.Looks.{has_looked, looked_more, looks_err, looks_then, then_failed}
use Rattle.records.specs.Below.{IsChild}
use Rattle.records.proofs.BelowLaws.{searched_all, searched_first, searched_more}
use Rattle.records.proofs.below.search.Goals as goal

pub loop-here-init : goal.loop-here-init
loop-here-init g c =
    let inodes = c.args.inodes.now.geometry.inodes in
    let items = c.as_slice.ensures.value in
    record {
      looked = not_looked;
      within = c.mark_all.ensures.within inodes (All-same (IsInodeNumber inodes) _ _ items c.requires.children) (All-same (IsInodeNumber inodes) _ [] c.new-left.ensures.items (All-nil (IsInodeNumber inodes)));
      whole = c.mark_all.ensures.marks.same_length ∙ c.in_ok-marks.ensures.length ∙ c.inodes.ensures.value ∙ ap (λ (s : Sizes). s.inodes) c.geometry.ensures;
      searched = λ detail disk settled v stands are.
          searched_first (entries v) c.args.top c.in_ok-marks.marks.items c.mark_all.new.marks.items c.new-left.result.items c.mark_all.new.left.items c.as_slice.result.now
          c.in_ok-marks.ensures.only (subst (λ (xs : List ℕ). (n : ℕ) → Contains xs n ↔ IsChild (entries v) c.args.top n) (sym items) are)
          c.new-left.ensures.items c.mark_all.ensures.marks c.in_ok-mark_all.ensures.all c.mark_all.ensures.only;
    }

pub returns-in_err-children-clause-looks : goal.returns-in_err-children-clause-looks
returns-in_err-children-clause-looks g c =
    looks_err c.from_residual-in_err-children.result c.from_residual-in_err-children.ensures.1 (looks_then c.loop-here.invariant.looked c.in_err-children.ensures.looks)

pub returns-in_err-children-clause-damaged : goal.returns-in_err-children-clause-damaged
returns-in_err-children-clause-damaged g c = λ detail disk settled v stands is.
    c.in_err-children.ensures.damaged detail disk settled v (c.loop-here.invariant.looked.kept disk settled v stands) (search rules)

pub returns-in_err-mark_all-2-clause-looks : goal.returns-in_err-mark_all-2-clause-looks
returns-in_err-mark_all-2-clause-looks g c =
    then_failed _ c.from_residual-in_err-mark_all-2.result c.from_residual-in_err-mark_all-2.ensures.1 (λ is. cc)
    (looked_more c.loop-here.invariant.looked (has_looked c.in_ok-children.ensures.looks c.children_of.ensures.loads))

pub loop-here-preserved : goal.loop-here-preserved
loop-here-preserved g c =
    let so_far = c.loop-here.invariant in
    let inodes = c.args.inodes.now.geometry.inodes in
    let items = c.as_slice-in-Some.ensures.value in
    let told = c.in_ok-children.ensures in
    record {
      looked = looked_more so_far.looked (has_looked told.looks c.children_of.ensures.loads);
      within =
          c.mark_all-in-Some.ensures.within inodes
          (All-same (IsInodeNumber inodes) _ _ items (subst (λ (s : Sizes). AreInodeNumbers s.inodes c.in_ok-children.children.items) so_far.looked.geometry told.within))
          (All-pop (IsInodeNumber inodes) c.loop-here.left.items c.pop.new.self.items c.pop.result c.pop.ensures.items so_far.within).0;
      whole = c.mark_all-in-Some.ensures.marks.same_length ∙ so_far.whole;
      searched = λ detail disk settled v stands first.
          let e = entries v in
          let here = c.in-Some.here in
          let are = subst (λ (xs : List ℕ). (n : ℕ) → Contains xs n ↔ IsChild e here n) (sym items) (told.children detail disk settled v (so_far.looked.kept disk settled v stands)) in
          searched_more e c.args.top here c.loop-here.marks.items c.mark_all-in-Some.new.marks.items c.loop-here.left.items c.pop.new.self.items c.mark_all-in-Some.new.left.items c.as_slice-in-Some.result.now
          c.in-Some.ensures.items are c.mark_all-in-Some.ensures.marks c.in_ok-mark_all-2.ensures.all c.mark_all-in-Some.ensures.only (so_far.searched detail disk settled v stands first);
    }

pub returns-clause-below : goal.returns-clause-below
returns-clause-below g c = λ detail disk settled v stands first.
    let so_far = c.loop-here.invariant in
    let marks = c.loop-here.marks.items in
    let number = c.args.number in
    let gone : c.pop.result ≡ None = c.in_default.is in
    let ended = subst (λ (r : Option ℕ). IsSome r) gone in
    let empty : 0 < vec_len c.loop-here.left → ⊥ = λ some. false≢true (ended (c.pop.ensures.variant.1 some)) in
    let none : c.loop-here.left.items ≡ [] = nil_from_length c.loop-here.left.items (omega (arith, empty, c.loop-here.left.ok)) in
    let told = searched_all (entries v) c.args.top marks c.loop-here.left.items none (so_far.searched detail disk settled v stands first) number in
    let same : c.index.result.now ≡ get_or marks number false = c.index.ensures ∙ ap (λ (k : ℕ). get_or marks k c.index.result.now) c.get.ensures ∙ get_or_default marks number c.index.result.now false (subst (λ (k : ℕ). number < k) (sym so_far.whole) c.requires.number) in
    (λ is. told.0 (sym same ∙ is), λ below. same ∙ told.1 below)
