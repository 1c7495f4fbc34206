use Rattle.std.proofs.Common.{◌≡◌, ◌∙◌, ◌≤◌, ℕ, None, inl, inr, arith, ap, sym, subst}
use Rattle.std.proofs.Math.Nat.{eq-or-lt_of_le}
use Rattle.images.specs.Roots.{whole}
use Rattle.loading.proofs.SnapshotLaws.{are_snapshots}
use Rattle.checker.specs.Checks.{AreFindings}
use Rattle.checker.specs.Trees.{TellsSlot}
use Rattle.checker.specs.Watches.{KeepsTelling}
use Rattle.checker.specs.declared.fault.TreeName.TheVariants.{Image}
use Rattle.checker.specs.declared.findings.Findings.{Findings}
use Rattle.checker.proofs.FindingLaws.{more_found, telling_more}
use Rattle.checker.proofs.ReadLaws.{looked, looked_more}
use Rattle.checker.proofs.checking.check_snapshots.Goals as goal
use Rattle.checker.proofs.checking.check_snapshots.Goals.{in-Some, in_default}

pub loop-k-preserved : goal.loop-k-preserved
loop-k-preserved g c =
    let r = c.args.root.now in
    let before = c.loop-k.invariant in
    let first = λ (f : Findings g.row.W.Denot). f.first in
    let tells = KeepsTelling g.W.Watch c.args.findings.now in record {
      look = looked_more before.look (looked c.fault_in_slot.ensures.reads);
      found = λ disk nvram shows are. elim c.match-branch-2.branch [
        | in-Some w ↦
            more_found r (whole disk r) nvram c.loop-k.findings.first c.match-branch-2.findings.first (record { tree = Image; fault = w.in-Some.fault })
            (ap first w.findings-is ∙ w.find.ensures.first) (before.found disk nvram shows are)
            (subst (TellsSlot disk r c.loop-k.k) w.in-Some.is (c.in_ok-fault.ensures.tells disk (before.look.same disk shows)) nvram)
        | in_default w ↦ subst (AreFindings r (whole disk r) nvram) (sym (ap first w.findings-is)) (before.found disk nvram shows are)
      ];
      tells = elim c.match-branch-2.branch [
        | in-Some w ↦ subst tells (sym w.findings-is) (telling_more before.tells w.find.ensures.tells)
        | in_default w ↦ subst tells (sym w.findings-is) before.tells
      ];
      none = λ disk shows none j low. elim c.match-branch-2.branch [
        | in-Some w ↦ (let e : w.find.new.self.first ≡ None = sym (ap first w.findings-is) ∙ none in absurd (cc (e, w.find.ensures.first)))
        | in_default w ↦
            let most : j ≤ c.loop-k.k = omega (arith, low) in
            elim (eq-or-lt_of_le most) [
              | inl same ↦
                  subst (λ (n : ℕ). TellsSlot disk r n None) (sym same)
                  (subst (TellsSlot disk r c.loop-k.k) w.in_default.is (c.in_ok-fault.ensures.tells disk (before.look.same disk shows)))
              | inr lt ↦ before.none disk shows (sym (ap first w.findings-is) ∙ none) j lt
            ]
      ];
    }

pub returns-clause-none : goal.returns-clause-none
returns-clause-none g c disk shows none =
    are_snapshots disk c.args.root.now c.requires.root.slots c.snapshots_are_what_their_bytes_spell.ensures
    (λ j low. c.loop-k.invariant.none disk shows none j (omega (arith, low, c.loop-k-test.false)))
