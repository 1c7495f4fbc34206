use Rattle.std.proofs.Common.{◌≡◌, ◌∙◌, ℕ, IfSome, refl, sym, subst}
use Rattle.std.proofs.lemmas.Bool.{false≢true}
use Rattle.layout.specs.StateLimits.{limits_of}
use Rattle.layout.specs.Limits.{Sizes}
use Rattle.model.specs.Records.{IsBelow}
use Rattle.model.specs.Volumes.{entries}
use Rattle.model.proofs.VolumeLemmas.{enters_directory}
use Rattle.paths.specs.Numbers.{IsInodeNumber}
use Rattle.records.specs.Below.{IsChild}
use Rattle.records.proofs.BelowLaws.{below_parent, below_root, below_self}
use Rattle.records.proofs.DetailLaws.{graph_of}
use Rattle.records.proofs.Looking.{behind, besides, fails, tells}
use Rattle.records.proofs.below.climb.Goals as goal

pub returns-in_err-is_directory : goal.returns-in_err-is_directory
returns-in_err-is_directory g c = fails c.from_residual.result c.from_residual.ensures.1 c.in_err-is_directory.ensures

pub returns-then-not-is_directory : goal.returns-then-not-is_directory
returns-then-not-is_directory g c = tells c.in_ok-is_directory.ensures (λ detail disk settled v now is known. tt)

pub loop-step-init : goal.loop-step-init
loop-step-init g c = record {
  climbed = tells c.in_ok-is_directory.ensures (λ detail disk settled v now is. (sym is ∙ c.if-not-is_directory.false, λ known. (λ below. below, λ below. below)));
  within = c.requires;
}

pub returns-then-is_same : goal.returns-then-is_same
returns-then-is_same g c = tells c.loop-step.invariant.climbed (λ detail disk settled v now same known. (
  λ is. (same.1 known).0 (subst (λ (j : ℕ). IsBelow (entries v) c.args.top j) (c.is_same.ensures.yes c.if-is_same.true) (below_self (entries v) c.args.top)),
  λ below. refl,
))

pub returns-then-get-eq-ROOT_NUMBER : goal.returns-then-get-eq-ROOT_NUMBER
returns-then-get-eq-ROOT_NUMBER g c = tells c.loop-step.invariant.climbed (λ detail disk settled v now same known. (
  λ is. absurd (false≢true is),
  λ below.
      let top = c.args.top in
      let root : c.loop-step.here ≡ 3 = sym c.get.ensures ∙ c.if-get-eq-ROOT_NUMBER.true in
      let graph = graph_of detail (limits_of c.args.inodes.now.geometry) v known in
      absurd (c.is_same.ensures.no c.if-is_same.false (below_root v graph top (subst (λ (j : ℕ). IsBelow (entries v) top j) root ((same.1 known).1 below)) ∙ sym root)),
))

pub returns-in_err-above : goal.returns-in_err-above
returns-in_err-above g c = fails c.from_residual-in_err-above.result c.from_residual-in_err-above.ensures.1 (behind c.loop-step.invariant.climbed c.in_err-above.ensures.parent)

pub returns-in_default : goal.returns-in_default
returns-in_default g c = tells (behind c.loop-step.invariant.climbed c.in_ok-above.ensures.parent) (λ detail disk settled v now is known. tt)

pub loop-step-preserved : goal.loop-step-preserved
loop-step-preserved g c =
    let here = c.loop-step.here in
    let p = c.in-Some.parent in
    record {
      climbed = tells (besides c.loop-step.invariant.climbed c.in_ok-above.ensures.parent) (λ detail disk settled v now both.
          let child = subst (λ o. IfSome o (λ (j : ℕ). IsChild (entries v) j here)) c.in-Some.is both.1 in (
            enters_directory (v p) child.0 here child.1,
            λ known.
                let step = below_parent v (graph_of detail (limits_of c.args.inodes.now.geometry) v known) c.args.top p here both.0.0 child (c.is_same.ensures.no c.if-is_same.false) in
                let before = both.0.1 known in
                (λ below. before.0 (step.0 below), λ below. step.1 (before.1 below)),
          ));
      within = subst (λ (s : Sizes). IsInodeNumber s.inodes p) c.loop-step.invariant.climbed.looks.geometry (subst (λ o. IfSome o (IsInodeNumber c.loop-step.inodes.geometry.inodes)) c.in-Some.is c.in_ok-above.ensures.within);
    }

pub returns : goal.returns
returns g c = tells c.loop-step.invariant.climbed (λ detail disk settled v now same known. tt)
